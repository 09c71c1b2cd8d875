-- How many coefficients there are after one more layer.
use Rattle.std.proofs.Common.{◌≡◌, ℕ, ◌+◌, ◌*◌, ◌<◌, List, [], ◌∷◌, length, get_or, take, sym, ◌∙◌, ap, ◌++◌, arith}
use Rattle.std.proofs.lemmas.List.{take_more}
use Rattle.std.proofs.lemmas.List.Sums.{sum_by-append}
use Rattle.proof_two.specs.Spelling.{element_count}

one_count : (k : ℕ) → element_count (k ∷ []) ≡ 4 * k + (k + 1)
one_count k = omega arith

count_push : (xs : List ℕ) (k : ℕ) → element_count (xs ++ k ∷ []) ≡ element_count xs + (4 * k + (k + 1))
count_push xs k = sum_by-append (λ k. 4 * k + (k + 1)) xs (k ∷ []) ∙ ap (λ n. element_count xs + n) (one_count k)

pub count_more : (xs : List ℕ) (i : ℕ) → i < length xs → element_count (take i xs) + (4 * get_or xs i 0 + (get_or xs i 0 + 1)) ≡ element_count (take (i + 1) xs)
count_more xs i h = sym (ap element_count (take_more xs i 0 h) ∙ count_push (take i xs) (get_or xs i 0))
