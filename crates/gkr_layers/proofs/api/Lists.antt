-- Prefixes and rests of lists, and facts that hold by a test
use Rattle.std.proofs.Common.{◌≡◌, ℕ, zero, suc, ◌-◌, List, [], ◌∷◌, ◌++◌, length, take, drop, get_or, Bool, true, false, MatchBool, refl, sym, ◌∙◌, ap, subst, arith}

pub from_one : (P Q : Type 0) {b : Bool} → b ≡ true → MatchBool b P Q → P
from_one P Q e h = subst (λ (c : Bool). MatchBool c P Q) e h

pub from_other : (P Q : Type 0) {b : Bool} → b ≡ false → MatchBool b P Q → Q
from_other P Q e h = subst (λ (c : Bool). MatchBool c P Q) e h

pub to_one : (P Q : Type 0) {b : Bool} → b ≡ true → P → MatchBool b P Q
to_one P Q e h = subst (λ (c : Bool). MatchBool c P Q) (sym e) h

pub to_other : (P Q : Type 0) {b : Bool} → b ≡ false → Q → MatchBool b P Q
to_other P Q e h = subst (λ (c : Bool). MatchBool c P Q) (sym e) h

take_nothing : {A : Type 0} (i : ℕ) → [] ≡ take {A = A} i []
take_nothing zero = refl
take_nothing (suc i) = refl

drop_nothing : {A : Type 0} (m n : ℕ) → drop {A = A} m (take n []) ≡ []
drop_nothing zero n = sym (take_nothing n)
drop_nothing (suc m) zero = refl
drop_nothing (suc m) (suc n) = refl

pub drop-take : {A : Type 0} (m n : ℕ) (xs : List A) → drop m (take n xs) ≡ take (n - m) (drop m xs)
drop-take zero n xs = ap (λ (i : ℕ). take i xs) (let e : n ≡ n - 0 = omega arith in e)
drop-take (suc m) n [] = drop_nothing (suc m) n ∙ take_nothing (n - suc m)
drop-take (suc m) zero (x ∷ xs) = let e : 0 ≡ 0 - suc m = omega arith in ap (λ (i : ℕ). take i (drop m xs)) e
drop-take (suc m) (suc n) (x ∷ xs) = drop-take m n xs ∙ ap (λ (i : ℕ). take i (drop m xs)) (let e : n - m ≡ suc n - suc m = omega arith in e)

module _ {A : Type 0} where
  pub front-take : (xs ys : List A) (n : ℕ) → length xs ≡ n → take n (xs ++ ys) ≡ xs
  front-take [] ys zero e = refl
  front-take [] ys (suc n) e = absurd (omega arith)
  front-take (x ∷ xs) ys zero e = absurd (omega arith)
  front-take (x ∷ xs) ys (suc n) e = ap (λ (zs : List A). x ∷ zs) (front-take xs ys n (omega arith))

  pub next-read : (xs ys : List A) (y d : A) (n : ℕ) → length xs ≡ n → get_or (xs ++ y ∷ ys) n d ≡ y
  next-read [] ys y d zero e = refl
  next-read [] ys y d (suc n) e = absurd (omega arith)
  next-read (x ∷ xs) ys y d zero e = absurd (omega arith)
  next-read (x ∷ xs) ys y d (suc n) e = next-read xs ys y d n (omega arith)

  pub rest-drop : (xs ys : List A) (y : A) (n m : ℕ) → length xs ≡ n → m ≡ suc n → drop m (xs ++ y ∷ ys) ≡ ys
  rest-drop [] ys y zero (suc m) e f = let z : m ≡ 0 = omega arith in ap (λ (i : ℕ). drop i ys) z
  rest-drop xs ys y n zero e f = absurd (omega arith)
  rest-drop [] ys y (suc n) (suc m) e f = absurd (omega arith)
  rest-drop (x ∷ xs) ys y zero (suc m) e f = absurd (omega arith)
  rest-drop (x ∷ xs) ys y (suc n) (suc m) e f = rest-drop xs ys y n m (omega arith) (omega arith)
