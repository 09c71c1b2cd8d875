-- Changes of lists of vectors, and prefixes of lists.
use Rattle.std.proofs.Common.{◌≡◌, ℕ, zero, suc, ◌<◌, List, [], ◌∷◌, take, drop, length, refl, ap, arith}
use Rattle.std.specs.List.{take-map}
use Rattle.std.proofs.lemmas.List.{map-set}

pub take-past : {A : Type 0} (count : ℕ) (xs : List A) → length xs < count → take count xs ≡ xs
take-past zero xs past = absurd (omega arith)
take-past (suc count) [] past = refl
take-past (suc count) (x ∷ xs) past = ap (λ ys. x ∷ ys) (take-past count xs (omega arith))

pub drop-past : {A : Type 0} (count : ℕ) (xs : List A) → length xs < count → drop count xs ≡ []
drop-past zero xs past = absurd (omega arith)
drop-past (suc count) [] past = refl
drop-past (suc count) (x ∷ xs) past = drop-past count xs (omega arith)

pub ruleset of_lists = (map-set, take-map)

pub ruleset of_fronts = (take-past, drop-past)
