-- Messages of one shape with one spelling are the same.
use Rattle.std.proofs.Common.{◌≡◌, ℕ, ◌*◌, List, [], ◌∷◌, ◌++◌, length, drop, sym, ◌∙◌, ap, refl, lit<}
use Rattle.std.specs.List.{flat_map}
use Rattle.std.proofs.lemmas.List.{append_cancel_left}
use Rattle.std.proofs.lemmas.List.Concat.{flat_map-cons}
use Rattle.field_ext.specs.Field.{K}
use Rattle.field_ext.specs.Bytes.{bytes_of}
use Rattle.proof_two.specs.declared.pairs.RoundPair.{RoundPair}
use Rattle.proof_two.specs.declared.pairs.LayerPairs.{LayerPairs}
use Rattle.proof_two.specs.declared.pairs.Pairs.{Pairs}
use Rattle.proof_two.specs.Spelling.{pair_of, layer_elements, all_elements, magic_two, spelling_two}
use Rattle.proof_two.specs.Lists.{HasPairs, HavePairs}
use Rattle.proof_two.proofs.api.Lengths.{rounds_length, layer_count}
use Rattle.proof_wire.proofs.api.Apart.{prefix_same}
use Rattle.proof_wire.proofs.api.Apart.{back_same}
use Rattle.proof_wire.proofs.api.Apart.{cons_same}
use Rattle.proof_wire.proofs.api.Apart.{pieces_apart}
use Rattle.proof_wire.proofs.api.Apart.{elements_apart}

first_same : (a b x y : K) → a ∷ b ∷ [] ≡ x ∷ y ∷ [] → a ≡ x
first_same a b x y e = cc e

second_same : (a b x y : K) → a ∷ b ∷ [] ≡ x ∷ y ∷ [] → b ≡ y
second_same a b x y e = cc e

round_apart : (x y : RoundPair) → pair_of x ≡ pair_of y → x ≡ y
round_apart x y e = λ i. record {
  c0 = first_same x.c0 x.c2 y.c0 y.c2 e i;
  c2 = second_same x.c0 x.c2 y.c0 y.c2 e i;
}

rounds_apart : (xs ys : List RoundPair) → flat_map pair_of xs ≡ flat_map pair_of ys → xs ≡ ys
rounds_apart = pieces_apart pair_of 2 (lit< tt) (λ x. refl) round_apart

layer_apart : (k : ℕ) (x y : LayerPairs) → HasPairs k x → HasPairs k y → layer_elements x ≡ layer_elements y → x ≡ y
layer_apart k x y a b e =
    let size : length (flat_map pair_of x.rounds) ≡ length (flat_map pair_of y.rounds) =
    rounds_length x.rounds ∙ ap (λ n. 2 * n) (a.rounds ∙ sym b.rounds) ∙ sym (rounds_length y.rounds) in
    let rounds = rounds_apart x.rounds y.rounds (prefix_same (flat_map pair_of x.rounds) x.last (flat_map pair_of y.rounds) y.last size e) in
    let last = back_same (flat_map pair_of x.rounds) x.last (flat_map pair_of y.rounds) y.last size e in
    λ i. record { rounds = rounds i; last = last i }

layers_apart : (ks : List ℕ) (xs ys : List LayerPairs) → HavePairs ks xs → HavePairs ks ys → all_elements xs ≡ all_elements ys → xs ≡ ys
layers_apart [] [] [] a b e = refl
layers_apart [] [] (y ∷ ys) a b e = absurd b
layers_apart [] (x ∷ xs) ys a b e = absurd a
layers_apart (k ∷ ks) [] ys a b e = absurd a
layers_apart (k ∷ ks) (x ∷ xs) [] a b e = absurd b
layers_apart (k ∷ ks) (x ∷ xs) (y ∷ ys) a b e =
    let size : length (layer_elements x) ≡ length (layer_elements y) = layer_count k x a.0 ∙ sym (layer_count k y b.0) in
    let whole : layer_elements x ++ all_elements xs ≡ layer_elements y ++ all_elements ys =
    sym (flat_map-cons layer_elements x xs) ∙ e ∙ flat_map-cons layer_elements y ys in
    cons_same x y xs ys
    (layer_apart k x y a.0 b.0 (prefix_same (layer_elements x) (all_elements xs) (layer_elements y) (all_elements ys) size whole))
    (layers_apart ks xs ys a.1 b.1 (back_same (layer_elements x) (all_elements xs) (layer_elements y) (all_elements ys) size whole))

pub one_reading : (ks : List ℕ) (some others : Pairs) → HavePairs (drop 1 ks) some.layers → HavePairs (drop 1 ks) others.layers → spelling_two some ≡ spelling_two others → some ≡ others
one_reading ks some others a b e =
    let coefficients = elements_apart (all_elements some.layers) (all_elements others.layers)
    (append_cancel_left magic_two (flat_map bytes_of (all_elements some.layers)) (flat_map bytes_of (all_elements others.layers)) e) in
    let layers = layers_apart (drop 1 ks) some.layers others.layers a b coefficients in
    λ i. record { layers = layers i }
