-- A list has each number below n once exactly where it is a permutation of them.
use Rattle.std.proofs.Common.{◌≡◌, ℕ, zero, suc, ◌+◌, ◌<◌, ◌≤◌, Bool, true, false, eqb, ltb, leb, min, cond, lt_of_not-le, IsTrue, List, [], ◌∷◌, ◌++◌, sym, refl, ap, ◌∙◌, subst, arith, ◌≢◌, ◌↔◌, length, length-append}
use mathlib.Core.Logic.{dite}
use native.Mathlib.Decide.{dec_le, ℕ_discrete}
use Rattle.std.proofs.lemmas.Bool.Decides.{nat_tests}
use Rattle.std.specs.List.{sum_by, range_with_len}
use Rattle.std.specs.List.Sorted.{IsPermutation}
use Rattle.std.proofs.lemmas.List.Sums.{sum_by-cons}
use Rattle.std.proofs.lemmas.List.Sorted.{IsPermutation-refl, IsPermutation-cons, IsPermutation-middle, IsPermutation-sym, IsPermutation-trans, sum_by-IsPermutation}
use Rattle.tallies.specs.Tallies.{times, once_below, HasEachOnce}

pub times-append : (x : ℕ) (a b : List ℕ) → times x (a ++ b) ≡ times x a + times x b
times-append x [] b = omega arith
times-append x (y ∷ a) b = omega (arith, times-append x a b)

abbrev pub Splits : ℕ → List ℕ → Type 0
Splits x xs = (u : List ℕ) × (w : List ℕ) × (xs ≡ u ++ x ∷ w)

split_here : (x y : ℕ) (ys : List ℕ) → 0 < times x (y ∷ ys) → (0 < times x ys → Splits x ys) → (b : Bool) → eqb x y ≡ b → Splits x (y ∷ ys)
split_here x y ys h more true e = ([], ys, let same : y ≡ x = grind (arith, nat_tests) in ap (λ (z : ℕ). z ∷ ys) same)
split_here x y ys h more false e = let none : times x (y ∷ ys) ≡ 0 + times x ys = ap (λ (b : Bool). cond b 1 0 + times x ys) e in let r = more (omega arith) in (y ∷ r.0, r.1, ap (λ (l : List ℕ). y ∷ l) r.2)

pub split_at : (x : ℕ) (xs : List ℕ) → 0 < times x xs → Splits x xs
split_at x [] h = absurd (omega arith)
split_at x (y ∷ ys) h = split_here x y ys h (λ k. split_at x ys k) (eqb x y) refl

pub self_one : (y : ℕ) → cond {A = ℕ} (eqb y y) 1 0 ≡ 1
self_one y = grind (arith, nat_tests)

pub empty : (xs : List ℕ) → ((x : ℕ) → times x xs ≡ 0) → xs ≡ []
empty [] h = refl
empty (y ∷ ys) h = let z : times y (y ∷ ys) ≡ 0 = h y in absurd (omega (arith, self_one y))

abbrev between : ℕ → ℕ → ℕ → ℕ
between x a n = cond (ltb x a) 0 (once_below x (a + n))

between_none : (x a : ℕ) → between x a 0 ≡ 0
between_none x a = grind (arith, nat_tests)

between_first : (a n : ℕ) → between a a (suc n) ≡ 1
between_first a n = grind (arith, nat_tests)

between_rest : (x a n : ℕ) → between x a (suc n) ≡ between x (a + 1) n + cond (eqb x a) 1 0
between_rest x a n = grind (arith, nat_tests)

perm_from : (n a : ℕ) (xs : List ℕ) → ((x : ℕ) → times x xs ≡ between x a n) → IsPermutation (range_with_len a n) xs
perm_from zero a xs h = subst (λ (l : List ℕ). IsPermutation [] l) (sym (empty xs (λ x. h x ∙ between_none x a))) (IsPermutation-refl [])
perm_from (suc n) a xs h = let one = h a ∙ between_first a n in let s = split_at a xs (omega arith) in
    let rest : (x : ℕ) → times x (s.0 ++ s.1) ≡ between x (a + 1) n = λ x. let e = h x ∙ between_rest x a n in let f = ap (times x) s.2 in
    omega (arith, times-append x s.0 s.1, times-append x s.0 (a ∷ s.1)) in
    subst (λ (l : List ℕ). IsPermutation (a ∷ range_with_len (a + 1) n) l) (sym s.2)
    (IsPermutation-trans _ _ _ (IsPermutation-cons a _ _ (perm_from n (a + 1) (s.0 ++ s.1) rest)) (IsPermutation-sym _ _ (IsPermutation-middle s.0 a s.1)))

-- 0 to n - 1, in another order
pub once_permutation : (n : ℕ) (xs : List ℕ) → HasEachOnce n xs → IsPermutation (range_with_len 0 n) xs
once_permutation n xs h = perm_from n 0 xs (λ x. h x ∙ from_zero x n) where
  from_zero : (x n : ℕ) → once_below x n ≡ between x 0 n
  from_zero x n = grind (arith, nat_tests)

times_is : (x : ℕ) (xs : List ℕ) → sum_by (λ y. cond (eqb x y) 1 0) xs ≡ times x xs
times_is x [] = refl
times_is x (y ∷ ys) = sum_by-cons (λ y. cond (eqb x y) 1 0) y ys ∙ ap (λ (k : ℕ). cond (eqb x y) 1 0 + k) (times_is x ys)

times_range : (x n a : ℕ) → times x (range_with_len a n) ≡ between x a n
times_range x zero a = sym (between_none x a)
times_range x (suc n) a = omega (arith, times_range x n (a + 1), between_rest x a n)

permutation_counts : (n : ℕ) (xs : List ℕ) → IsPermutation (range_with_len 0 n) xs → HasEachOnce n xs
permutation_counts n xs p x = sym (times_is x xs) ∙ sum_by-IsPermutation (λ y. cond (eqb x y) 1 0) _ _ p ∙ times_is x (range_with_len 0 n) ∙ times_range x n 0 ∙ here x n where
  here : (x n : ℕ) → between x 0 n ≡ once_below x n
  here x n = grind (arith, nat_tests)

pub permutation_once : (n : ℕ) (xs : List ℕ) → IsPermutation (range_with_len 0 n) xs → (x : ℕ) → x < n → times x xs ≡ 1
permutation_once n xs p x h = permutation_counts n xs p x ∙ here x n h where
  here : (x n : ℕ) → x < n → once_below x n ≡ 1
  here x n h = grind (arith, nat_tests)

pub each_once_permutation : (n : ℕ) (xs : List ℕ) → HasEachOnce n xs ↔ IsPermutation (range_with_len 0 n) xs
each_once_permutation n xs = (once_permutation n xs, permutation_counts n xs)

pub drawn_full : (x next n : ℕ) → n ≤ next → once_below x (min next n) ≡ once_below x n
drawn_full x next n h = grind (arith, nat_tests)

not_drawn : (next n : ℕ) → once_below next (min next n) ≡ 0
not_drawn next n = grind (arith, nat_tests)

pub le_leb : (n next : ℕ) → n ≤ next → IsTrue (leb n next)
le_leb n next h = grind (arith, nat_tests)

-- the test of `close`
pub closes : (n next : ℕ) (xs : List ℕ) → ((x : ℕ) → times x xs ≡ once_below x (min next n))
    → (IsTrue (leb n next) → IsPermutation (range_with_len 0 n) xs) × (IsPermutation (range_with_len 0 n) xs → IsTrue (leb n next))
closes n next xs h = (
  (λ t. let le : n ≤ next = grind (arith, nat_tests) in once_permutation n xs (λ x. h x ∙ drawn_full x next n le)),
  λ p. dite (dec_le n next) (λ (le : n ≤ next). le_leb n next le) (λ (no : ¬ (n ≤ next)). let lt : next < n = lt_of_not-le no in let one = permutation_once n xs p next lt in let z = h next ∙ not_drawn next n in absurd (omega arith)),
)

-- one number more
pub once_more : (x n : ℕ) → once_below x (n + 1) ≡ once_below x n + cond (eqb x n) 1 0
once_more x n = grind (arith, nat_tests)

pub not_here : (x n : ℕ) → n < x → times x (n ∷ []) ≡ 0
not_here x n h = grind (arith, nat_tests)

none_below : (x : ℕ) → once_below x 0 ≡ 0
none_below x = grind (arith, nat_tests)

pub once_suc : (x n : ℕ) → once_below x (suc n) ≡ once_below x n + cond (eqb x n) 1 0
once_suc x n = grind (arith, nat_tests)

no_more : (x n k : ℕ) → (x ≡ n → k ≡ 0) → k ≤ once_below x (suc n) → k ≤ once_below x n
no_more x n k z h = grind (arith, nat_tests)

few_less : (n : ℕ) (xs : List ℕ) → ((x : ℕ) → times x xs ≤ once_below x (suc n)) → times n xs ≡ 0 → ((ys : List ℕ) → ((x : ℕ) → times x ys ≤ once_below x n) → length ys ≤ n) → length xs ≤ suc n
few_less n xs h none more = let r = more xs (λ x. no_more x n (times x xs) (λ e. ap (λ (y : ℕ). times y xs) e ∙ none) (h x)) in omega arith

few_one : (n : ℕ) (xs : List ℕ) → ((x : ℕ) → times x xs ≤ once_below x (suc n)) → times n xs ≢ 0 → ((ys : List ℕ) → ((x : ℕ) → times x ys ≤ once_below x n) → length ys ≤ n) → length xs ≤ suc n
few_one n xs h some_one more = let s = split_at n xs (omega arith) in
    let r = more (s.0 ++ s.1) (λ x. let k = h x in let e = once_suc x n in let f = ap (times x) s.2 in omega (arith, times-append x s.0 s.1, times-append x s.0 (n ∷ s.1))) in
    omega (arith, ap length s.2, length-append s.0 s.1, length-append s.0 (n ∷ s.1))

-- numbers below n, none of them twice
pub few : (n : ℕ) (xs : List ℕ) → ((x : ℕ) → times x xs ≤ once_below x n) → length xs ≤ n
few zero xs h = let e = empty xs (λ x. let k = h x in omega (arith, none_below x)) in omega (arith, ap length e)
few (suc n) xs h = dite (ℕ_discrete (times n xs) 0) (λ none. few_less n xs h none (few n)) (λ more. few_one n xs h more (few n))

pub draws : (x next n : ℕ) → next < n → once_below x (min (next + 1) n) ≡ once_below x (min next n) + cond (eqb x next) 1 0
draws x next n h = grind (arith, nat_tests)

pub drawn_all : (x next n : ℕ) → n ≤ next → once_below x (min (next + 1) n) ≡ once_below x (min next n)
drawn_all x next n h = grind (arith, nat_tests)

pub counted_below : (x next n : ℕ) → 1 ≤ once_below x (min next n) → (x < next) × (x < n)
counted_below x next n h = (grind (arith, nat_tests), grind (arith, nat_tests))

pub one_at_most : (x n : ℕ) → once_below x n ≤ 1
one_at_most x n = grind (arith, nat_tests)

pub counted_once : (x next n : ℕ) → x < next → x < n → once_below x (min next n) ≡ 1
counted_once x next n h k = grind (arith, nat_tests)
