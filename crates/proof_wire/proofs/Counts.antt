-- How many coefficients there are after one more layer.
use Rattle.std.proofs.Common.{◌≡◌, ℕ, ◌+◌, ◌*◌, ◌<◌, List, [], ◌∷◌, length, get_or, take, sym, ◌∙◌, ap, ◌++◌, arith}
use Rattle.std.proofs.lemmas.List.{take_more}
use Rattle.std.proofs.lemmas.List.Sums.{sum_by-append}
use Rattle.proof_wire.specs.declared.form.ProofForm.{ProofForm}
use Rattle.proof_wire.specs.Forms.{last_degree}
use Rattle.proof_wire.specs.Spelling.{coefficient_count}

module _ (form : ProofForm) where
  one_count : (k : ℕ) → coefficient_count form (k ∷ []) ≡ 6 * k + (last_degree form k + 1)
  one_count k = omega arith

  count_push : (xs : List ℕ) (k : ℕ) → coefficient_count form (xs ++ k ∷ []) ≡ coefficient_count form xs + (6 * k + (last_degree form k + 1))
  count_push xs k = sum_by-append (λ k. 6 * k + (last_degree form k + 1)) xs (k ∷ []) ∙ ap (λ n. coefficient_count form xs + n) (one_count k)

  pub count_more : (xs : List ℕ) (i : ℕ) → i < length xs → coefficient_count form (take i xs) + (6 * get_or xs i 0 + (last_degree form (get_or xs i 0) + 1)) ≡ coefficient_count form (take (i + 1) xs)
  count_more xs i h = sym (ap (coefficient_count form) (take_more xs i 0 h) ∙ count_push (take i xs) (get_or xs i 0))
