-- The coefficients up to the next layer, and the messages with that layer.
use Rattle.std.proofs.Common.{◌≡◌, ℕ, ◌+◌, ◌*◌, ◌-◌, ◌<◌, ◌≤◌, List, [], ◌∷◌, ◌++◌, length, get_or, take, drop, sym, ◌∙◌, ap, subst, arith, append-nil}
use Rattle.std.proofs.Math.Seq.{take-add}
use Rattle.std.proofs.lemmas.Grind.{flat_map-append}
use Rattle.std.proofs.lemmas.List.{take_more}
use Rattle.std.proofs.lemmas.List.Sums.{sum_by-take-le}
use Rattle.field_ext.specs.Field.{K}
use Rattle.proof_two.specs.declared.pairs.LayerPairs.{LayerPairs}
use Rattle.proof_two.specs.Spelling.{all_elements, element_count, layer_elements}
use Rattle.proof_two.specs.Lists.{HasPairs, HavePairs}
use Rattle.proof_two.proofs.Counts.{count_more}
use Rattle.proof_wire.proofs.api.Cuts.{lower}
use Rattle.proof_wire.proofs.api.Cuts.{within}

pub next_count : (ks : List ℕ) (j k from : ℕ) → j < length ks - 1 → k ≡ get_or ks (j + 1) 0 → from ≡ element_count (take j (drop 1 ks)) → from + (4 * k + (k + 1)) ≡ element_count (take (j + 1) (drop 1 ks))
next_count ks j k from h e f =
    ap (λ n. n + (4 * k + (k + 1))) f
    ∙ ap (λ n. element_count (take j (drop 1 ks)) + (4 * n + (n + 1))) (lower ks j k e)
    ∙ count_more (drop 1 ks) j (within ks j h)

pub next_within : (ks : List ℕ) (j k from n : ℕ) → j < length ks - 1 → k ≡ get_or ks (j + 1) 0 → from ≡ element_count (take j (drop 1 ks)) → n ≡ element_count (drop 1 ks) → from + (4 * k + (k + 1)) ≤ n
next_within ks j k from n h e f g = omega (arith, next_count ks j k from h e f, g, sum_by-take-le (λ k. 4 * k + (k + 1)) (drop 1 ks) (j + 1))

shape_append : (ks : List ℕ) (ms : List LayerPairs) (k : ℕ) (m : LayerPairs) → HavePairs ks ms → HasPairs k m → HavePairs (ks ++ k ∷ []) (ms ++ m ∷ [])
shape_append [] [] k m h one = (one, tt)
shape_append [] (n ∷ ns) k m h one = absurd h
shape_append (j ∷ ks) [] k m h one = absurd h
shape_append (j ∷ ks) (n ∷ ns) k m h one = (h.0, shape_append ks ns k m h.1 one)

pub next_shape : (ks : List ℕ) (j k : ℕ) (layers : List LayerPairs) (layer : LayerPairs) → j < length ks - 1 → k ≡ get_or ks (j + 1) 0 → HasPairs k layer →
    HavePairs (take j (drop 1 ks)) layers → HavePairs (take (j + 1) (drop 1 ks)) (layers ++ layer ∷ [])
next_shape ks j k layers layer h e one before =
    subst (λ (widths : List ℕ). HavePairs widths (layers ++ layer ∷ []))
    (ap (λ (n : ℕ). take j (drop 1 ks) ++ n ∷ []) (lower ks j k e) ∙ sym (take_more (drop 1 ks) j 0 (within ks j h)))
    (shape_append (take j (drop 1 ks)) layers k layer before one)

pub next_part : (from size : ℕ) (elements : List K) (layers : List LayerPairs) (layer : LayerPairs) → layer_elements layer ≡ take size (drop from elements) → all_elements layers ≡ take from elements → all_elements (layers ++ layer ∷ []) ≡ take (from + size) elements
next_part from size elements layers layer e f =
    flat_map-append layer_elements layers (layer ∷ [])
    ∙ ap (λ xs. all_elements layers ++ xs) (append-nil (layer_elements layer) ∙ e)
    ∙ ap (λ xs. xs ++ take size (drop from elements)) f
    ∙ sym (take-add from size elements)
