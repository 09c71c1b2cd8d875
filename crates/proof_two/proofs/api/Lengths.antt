-- Messages of a shape are spelled by as many bytes as the shape says.
use Rattle.std.specs.Prelude.{drop}
use Rattle.std.proofs.Common.{◌≡◌, ℕ, ◌+◌, ◌*◌, List, [], ◌∷◌, length, refl, ◌∙◌, ap, length-append, arith}
use Rattle.std.specs.List.{flat_map}
use Rattle.std.proofs.lemmas.List.Concat.{flat_map-cons}
use Rattle.std.proofs.lemmas.List.Sums.{sum_by-append}
use Rattle.field_ext.specs.Bytes.{bytes_of}
use Rattle.proof_two.specs.declared.pairs.RoundPair.{RoundPair}
use Rattle.proof_two.specs.declared.pairs.LayerPairs.{LayerPairs}
use Rattle.proof_two.specs.declared.pairs.Pairs.{Pairs}
use Rattle.proof_two.specs.Spelling.{pair_of, layer_elements, all_elements, element_count, magic_two, spelling_two, length_two}
use Rattle.proof_two.specs.Lists.{HasPairs, HavePairs}
use Rattle.proof_wire.proofs.api.Lengths.{bytes_length}

pub rounds_length : (rs : List RoundPair) → length (flat_map pair_of rs) ≡ 2 * length rs
rounds_length [] = refl
rounds_length (r ∷ rs) = ap length (flat_map-cons pair_of r rs) ∙ length-append (pair_of r) (flat_map pair_of rs) ∙ omega (arith, rounds_length rs)

pub layer_count : (k : ℕ) (layer : LayerPairs) → HasPairs k layer → length (layer_elements layer) ≡ 4 * k + (k + 1)
layer_count k layer h =
    length-append (flat_map pair_of layer.rounds) layer.last ∙ omega (arith, rounds_length layer.rounds, h.rounds, h.last)

count_cons : (k : ℕ) (ks : List ℕ) → element_count (k ∷ ks) ≡ (4 * k + (k + 1)) + element_count ks
count_cons k ks = sum_by-append (λ k. 4 * k + (k + 1)) (k ∷ []) ks ∙ ap (λ m. m + element_count ks) (omega arith)

pub count_is : (ks : List ℕ) (ms : List LayerPairs) → HavePairs ks ms → length (all_elements ms) ≡ element_count ks
count_is [] [] h = refl
count_is [] (m ∷ ms) h = absurd h
count_is (k ∷ ks) [] h = absurd h
count_is (k ∷ ks) (m ∷ ms) h =
    ap length (flat_map-cons layer_elements m ms) ∙ length-append (layer_elements m) (all_elements ms)
    ∙ omega (arith, count_is ks ms h.1, layer_count k m h.0, count_cons k ks)

pub spelling_length : (ks : List ℕ) (pairs : Pairs) → HavePairs (drop 1 ks) pairs.layers → length (spelling_two pairs) ≡ length_two ks
spelling_length ks pairs h =
    length-append magic_two (flat_map bytes_of (all_elements pairs.layers))
    ∙ ap (λ n. 4 + n) (bytes_length (all_elements pairs.layers) ∙ ap (λ n. 8 * n) (count_is (drop 1 ks) pairs.layers h))
