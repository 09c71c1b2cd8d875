-- Lists that are written place by place
use Rattle.std.proofs.Common.{◌≡◌, ℕ, zero, suc, ◌+◌, ◌<◌, ◌≤◌, ◌≢◌, List, [], ◌∷◌, ◌++◌, map, length, take, drop, set, get_or, refl, sym, ◌∙◌, ap, ap₂, arith, add-one, append-nil}
use Rattle.std.proofs.lemmas.List.{take_all, get_or-set_other}

drop-all : {B : Type 0} (ys : List B) (i : ℕ) → length ys ≡ i → drop i ys ≡ []
drop-all [] zero e = refl
drop-all [] (suc i) e = refl
drop-all (y ∷ ys) zero e = absurd (omega arith)
drop-all (y ∷ ys) (suc i) e = drop-all ys i (omega arith)

module _ {A B : Type 0} (f : A → B) where
  next_placed : (xs : List A) (ys : List B) (i : ℕ) (x : A) → i < length xs → i < length ys → x ≡ get_or xs i x → set (map f (take i xs) ++ drop i ys) i (f x) ≡ map f (take (suc i) xs) ++ drop (suc i) ys
  next_placed [] ys i x u v e = absurd (omega arith)
  next_placed (a ∷ xs) [] i x u v e = absurd (omega arith)
  next_placed (a ∷ xs) (b ∷ ys) zero x u v e = λ j. f (e j) ∷ ys
  next_placed (a ∷ xs) (b ∷ ys) (suc i) x u v e = ap (λ (l : List B). f a ∷ l) (next_placed xs ys i x (omega arith) (omega arith) e)

  -- one place more is written
  pub more_placed : (xs : List A) (ys now : List B) (i : ℕ) (x : A) (y : B) → i < length xs → i < length ys → x ≡ get_or xs i x → y ≡ f x → now ≡ map f (take i xs) ++ drop i ys → set now i y ≡ map f (take (i + 1) xs) ++ drop (i + 1) ys
  more_placed xs ys now i x y u v e d is =
      ap₂ (λ (l : List B) (y : B). set l i y) is d
      ∙ next_placed xs ys i x u v e
      ∙ ap (λ (n : ℕ). map f (take n xs) ++ drop n ys) (sym (add-one i))

  -- every place is
  pub all_placed : (xs : List A) (ys now : List B) (i : ℕ) → length xs ≡ i → length ys ≡ i → now ≡ map f (take i xs) ++ drop i ys → now ≡ map f xs
  all_placed xs ys now i e d is = is ∙ ap₂ (λ (a : List A) (b : List B). map f a ++ b) (take_all i xs (omega arith)) (drop-all ys i d) ∙ append-nil (map f xs)

-- what lies past the place that is written stays
pub rest_kept : {A : Type 0} (xs now : List A) (i : ℕ) (y : A) → ((j : ℕ) (d : A) → i ≤ j → get_or now j d ≡ get_or xs j d) → (j : ℕ) (d : A) → i + 1 ≤ j → get_or (set now i y) j d ≡ get_or xs j d
rest_kept xs now i y rest j d u =
    let other : j ≢ i = λ e. absurd (omega (arith, e)) in
    get_or-set_other now i j y d other ∙ rest j d (omega arith)
