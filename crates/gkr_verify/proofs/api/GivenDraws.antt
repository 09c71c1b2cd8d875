-- A list of challenges as a source gives them back, one after another
use Rattle.std.proofs.Common.{◌≡◌, ℕ, zero, suc, ◌+◌, ◌≤◌, List, [], ◌∷◌, ◌++◌, length, take, drop, IsTrue, refl, ◌∙◌, ap, ap₂, arith, length-drop}
use Rattle.std.proofs.lemmas.List.{take-append-drop}
use Rattle.field_ext.specs.Field.{K, of}
use Rattle.field_ext.proofs.api.Elements.{of_self}
use Rattle.transcript_fs.specs.Given.{numbers_of, given}
use Rattle.transcript_fs.specs.Source.{point_draws, state_after_point, draws, all_draws}

first-given : (x : K) → record { re = of x.re.value; im = of x.im.value } ≡ x
first-given x = λ i. record { re = of_self x.re i; im = of_self x.im i }

pub given-coordinates : (xs : List K) (k : ℕ) → k ≤ length xs → point_draws given (numbers_of xs) k ≡ take k xs
given-coordinates xs zero u = refl
given-coordinates [] (suc k) u = absurd (omega arith)
given-coordinates (x ∷ xs) (suc k) u = ap₂ (λ (y : K) (ys : List K). y ∷ ys) (first-given x) (given-coordinates xs k (omega arith))

pub given-behind : (xs : List K) (k : ℕ) → k ≤ length xs → state_after_point given (numbers_of xs) k ≡ numbers_of (drop k xs)
given-behind xs zero u = refl
given-behind [] (suc k) u = absurd (omega arith)
given-behind (x ∷ xs) (suc k) u = given-behind xs k (omega arith)

pub given-draws : (xs : List K) (qs : List (List K)) → length qs ≡ length xs → draws given (numbers_of xs) qs ≡ xs
given-draws [] [] u = refl
given-draws (x ∷ xs) [] u = absurd (omega arith)
given-draws [] (q ∷ qs) u = absurd (omega arith)
given-draws (x ∷ xs) (q ∷ qs) u = ap₂ (λ (y : K) (ys : List K). y ∷ ys) (first-given x) (given-draws xs qs (omega arith))

pub given-has : (xs : List K) → IsTrue (given.has (numbers_of xs) (length xs))
given-has [] = refl
given-has (x ∷ xs) = given-has xs

-- as many challenges as are drawn are all of them
module _ (xs : List K) (k : ℕ) (qs : List (List K)) (size : length xs ≡ k + length qs) where
  rest : length qs ≡ length (drop k xs)
  rest = omega (arith, size, length-drop k xs)

  pub given-rest : draws given (state_after_point given (numbers_of xs) k) qs ≡ drop k xs
  given-rest = ap (λ (s : List ℕ). draws given s qs) (given-behind xs k (omega (arith, size))) ∙ given-draws (drop k xs) qs rest

  pub given-all : all_draws given (numbers_of xs) k qs ≡ xs
  given-all = ap₂ (λ (ys zs : List K). ys ++ zs) (given-coordinates xs k (omega (arith, size))) given-rest ∙ take-append-drop k xs
