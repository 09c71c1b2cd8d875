-- The coefficients up to the next layer, and the messages with that layer.
use Rattle.std.proofs.Common.{◌≡◌, ℕ, ◌+◌, ◌*◌, ◌-◌, ◌<◌, ◌≤◌, List, [], ◌∷◌, ◌++◌, length, get_or, take, drop, sym, ◌∙◌, ap, subst, arith, length-drop, append-nil}
use Rattle.std.proofs.Math.Seq.{take-add}
use Rattle.std.proofs.lemmas.Grind.{flat_map-append}
use Rattle.std.proofs.lemmas.List.{take_more, get_or-drop}
use Rattle.std.proofs.lemmas.List.Sums.{sum_by-take-le}
use Rattle.field_ext.specs.Field.{K}
use Rattle.proof_wire.specs.declared.messages.LayerMessages.{LayerMessages}
use Rattle.proof_wire.specs.declared.form.ProofForm.{ProofForm}
use Rattle.proof_wire.specs.Forms.{last_degree}
use Rattle.proof_wire.specs.Spelling.{all_coefficients, coefficient_count, layer_coefficients}
use Rattle.proof_wire.specs.Lists.{HasShape, HaveShape}
use Rattle.proof_wire.proofs.Counts.{count_more}

pub lower : (ks : List ℕ) (j k : ℕ) → k ≡ get_or ks (j + 1) 0 → k ≡ get_or (drop 1 ks) j 0
lower ks j k e = grind (arith, e, get_or-drop)

pub within : (ks : List ℕ) (j : ℕ) → j < length ks - 1 → j < length (drop 1 ks)
within ks j h = omega (arith, h, length-drop 1 ks)

module _ (form : ProofForm) where
  pub next_count : (ks : List ℕ) (j k from : ℕ) → j < length ks - 1 → k ≡ get_or ks (j + 1) 0 → from ≡ coefficient_count form (take j (drop 1 ks)) → from + (6 * k + (last_degree form k + 1)) ≡ coefficient_count form (take (j + 1) (drop 1 ks))
  next_count ks j k from h e f =
      ap (λ n. n + (6 * k + (last_degree form k + 1))) f
      ∙ ap (λ n. coefficient_count form (take j (drop 1 ks)) + (6 * n + (last_degree form n + 1))) (lower ks j k e)
      ∙ count_more form (drop 1 ks) j (within ks j h)

  pub next_within : (ks : List ℕ) (j k from n : ℕ) → j < length ks - 1 → k ≡ get_or ks (j + 1) 0 → from ≡ coefficient_count form (take j (drop 1 ks)) → n ≡ coefficient_count form (drop 1 ks) → from + (6 * k + (last_degree form k + 1)) ≤ n
  next_within ks j k from n h e f g = omega (arith, next_count ks j k from h e f, g, sum_by-take-le (λ k. 6 * k + (last_degree form k + 1)) (drop 1 ks) (j + 1))

  shape_append : (ks : List ℕ) (ms : List LayerMessages) (k : ℕ) (m : LayerMessages) → HaveShape form ks ms → HasShape form k m → HaveShape form (ks ++ k ∷ []) (ms ++ m ∷ [])
  shape_append [] [] k m h one = (one, tt)
  shape_append [] (n ∷ ns) k m h one = absurd h
  shape_append (j ∷ ks) [] k m h one = absurd h
  shape_append (j ∷ ks) (n ∷ ns) k m h one = (h.0, shape_append ks ns k m h.1 one)

  pub next_shape : (ks : List ℕ) (j k : ℕ) (layers : List LayerMessages) (layer : LayerMessages) → j < length ks - 1 → k ≡ get_or ks (j + 1) 0 → HasShape form k layer →
      HaveShape form (take j (drop 1 ks)) layers → HaveShape form (take (j + 1) (drop 1 ks)) (layers ++ layer ∷ [])
  next_shape ks j k layers layer h e one before =
      subst (λ (widths : List ℕ). HaveShape form widths (layers ++ layer ∷ []))
      (ap (λ (n : ℕ). take j (drop 1 ks) ++ n ∷ []) (lower ks j k e) ∙ sym (take_more (drop 1 ks) j 0 (within ks j h)))
      (shape_append (take j (drop 1 ks)) layers k layer before one)

pub next_part : (from size : ℕ) (elements : List K) (layers : List LayerMessages) (layer : LayerMessages) → layer_coefficients layer ≡ take size (drop from elements) → all_coefficients layers ≡ take from elements → all_coefficients (layers ++ layer ∷ []) ≡ take (from + size) elements
next_part from size elements layers layer e f =
    flat_map-append layer_coefficients layers (layer ∷ [])
    ∙ ap (λ xs. all_coefficients layers ++ xs) (append-nil (layer_coefficients layer) ∙ e)
    ∙ ap (λ xs. xs ++ take size (drop from elements)) f
    ∙ sym (take-add from size elements)
