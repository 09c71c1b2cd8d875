-- The sizes of one layer more.
use Rattle.std.proofs.Common.{◌≡◌, ℕ, ◌+◌, List, [], ◌∷◌, ◌++◌, map, sym, ap, ◌∙◌, arith}
use Rattle.std.specs.List.{range_with_len}
use Rattle.std.proofs.lemmas.List.FromFn.{map-range_with_len_more}
use Rattle.circuit_core.specs.Parts.{Parts}
use Rattle.case_text.specs.declared.reply.sizes.LayerSize.{LayerSize}
use Rattle.case_prove.specs.Circuits.{layer_size}

pub one_more : (p : Parts) (layer : ℕ) (size : LayerSize) (old new : List LayerSize) → old ≡ map (layer_size p) (range_with_len 0 layer) → new ≡ old ++ size ∷ [] → size ≡ layer_size p layer
    → new ≡ map (layer_size p) (range_with_len 0 (layer + 1))
one_more p layer size old new was put is =
    put
    ∙ ap (λ (sizes : List LayerSize). sizes ++ size ∷ []) was
    ∙ ap (λ (s : LayerSize). map (layer_size p) (range_with_len 0 layer) ++ s ∷ []) is
    ∙ sym (map-range_with_len_more (layer_size p) 0 layer layer (omega arith))
