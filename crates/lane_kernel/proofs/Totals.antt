-- Four pairs more, or one, in a sum modulo p
use Rattle.std.proofs.Common.{◌≡◌, ℕ, suc, ◌+◌, ◌-◌, ◌*◌, ◌%◌, List, get_or, refl, sym, ◌∙◌, ap, arith, add-one}
use Rattle.lane_kernel.specs.declared.lanes.Four.{Four}
use Rattle.lane_kernel.specs.declared.sums.Lines.{Lines}
use Rattle.lane_kernel.specs.Kernel.{prime, minus}
use Rattle.lane_kernel.specs.Four.{all_of, lows, differences}
use Rattle.lane_kernel.specs.Sums.{Parts, low, slope, constant_re, constant_im, linear_re, linear_im, square_re, square_im, sum_of, total}
use Rattle.lane_kernel.specs.Lanes.{one_lane, across, more, added, sums_of, product_re, product_im}

-- a number for each of four pairs
abbrev pub each_of : (ℕ → ℕ) → ℕ → Four
each_of f j = record { a = f j; b = f (j + 1); c = f (j + 2); d = f (j + 3) }

abbrev pub sum_four : (ℕ → ℕ) → ℕ → ℕ
sum_four f j = f j + f (j + 1) + f (j + 2) + f (j + 3)

lows_are : (xs : List ℕ) (j : ℕ) → lows xs j ≡ each_of (low xs) j
lows_are xs j =
    let b : 2 * j + 2 ≡ 2 * (j + 1) = omega arith in
    let c : 2 * j + 4 ≡ 2 * (j + 2) = omega arith in
    let d : 2 * j + 6 ≡ 2 * (j + 3) = omega arith in
    λ i. record { a = low xs j; b = get_or xs (b i) 0; c = get_or xs (c i) 0; d = get_or xs (d i) 0 }

differences_are : (xs : List ℕ) (j : ℕ) → differences xs j ≡ each_of (slope xs) j
differences_are xs j =
    let b : 2 * j + 2 ≡ 2 * (j + 1) = omega arith in
    let b' : 2 * j + 3 ≡ 2 * (j + 1) + 1 = omega arith in
    let c : 2 * j + 4 ≡ 2 * (j + 2) = omega arith in
    let c' : 2 * j + 5 ≡ 2 * (j + 2) + 1 = omega arith in
    let d : 2 * j + 6 ≡ 2 * (j + 3) = omega arith in
    let d' : 2 * j + 7 ≡ 2 * (j + 3) + 1 = omega arith in
    λ i. record { a = slope xs j; b = minus (get_or xs (b i) 0) (get_or xs (b' i) 0); c = minus (get_or xs (c i) 0) (get_or xs (c' i) 0); d = minus (get_or xs (d i) 0) (get_or xs (d' i) 0) }

sum_more : (n : ℕ) (f : ℕ → ℕ) → sum_of (n + 4) f ≡ sum_of n f + sum_four f n
sum_more n f = let e : n + 4 ≡ suc (suc (suc (suc n))) = omega arith in ap (λ (m : ℕ). sum_of m f) e ∙ here where
  here : sum_of n f + f n + f (suc n) + f (suc (suc n)) + f (suc (suc (suc n))) ≡ sum_of n f + sum_four f n
  here = let b : suc n ≡ n + 1 = omega arith in let c : suc (suc n) ≡ n + 2 = omega arith in let d : suc (suc (suc n)) ≡ n + 3 = omega arith in
      (λ i. sum_of n f + f n + f (b i) + f (c i) + f (d i)) ∙ omega arith

-- numbers added to a remainder
add_more : (s x : ℕ) → (s % prime + x) % prime ≡ (s + x) % prime
add_more s x = omega arith

four_more : (n : ℕ) (f : ℕ → ℕ) (x : Four) → across x ≡ sum_four f n → more (total n f) x ≡ total (n + 4) f
four_more n f x is = add_more (sum_of n f) (across x) ∙ ap (λ (y : ℕ). (sum_of n f + y) % prime) is ∙ ap (λ (y : ℕ). y % prime) (sym (sum_more n f))

two_more : (n : ℕ) (f : ℕ → ℕ) (x y : Four) → across x + across y ≡ sum_four f n → more (more (total n f) x) y ≡ total (n + 4) f
two_more n f x y is =
    add_more ((sum_of n f) % prime + across x) (across y)
    ∙ ap (λ (z : ℕ). z % prime) (omega arith)
    ∙ add_more (sum_of n f) (across x + across y)
    ∙ ap (λ (z : ℕ). (sum_of n f + z) % prime) is
    ∙ ap (λ (z : ℕ). z % prime) (sym (sum_more n f))

-- the numbers of four pairs, each with two products, where one of the lines has no third number
no_first : (p q : ℕ → ℕ) (n : ℕ) → 0 + p n + q n + (0 + p (n + 1) + q (n + 1)) + (0 + p (n + 2) + q (n + 2)) + (0 + p (n + 3) + q (n + 3)) ≡ sum_four (λ j. p j + q j) n
no_first p q n = omega arith

with_first : (x p q : ℕ → ℕ) (n : ℕ) → x n + x (n + 1) + x (n + 2) + x (n + 3) + (0 + p n + q n + (0 + p (n + 1) + q (n + 1)) + (0 + p (n + 2) + q (n + 2)) + (0 + p (n + 3) + q (n + 3))) ≡ sum_four (λ j. x j + (p j + q j)) n
with_first x p q n = omega arith

-- the lines of four pairs of a table, and of one
abbrev pub four_of : Parts → ℕ → Lines
four_of t j = record { low_re = lows t.re j; low_im = lows t.im j; slope_re = differences t.re j; slope_im = differences t.im j }

abbrev pub one_of : Parts → ℕ → Lines
one_of t j = record { low_re = one_lane (low t.re j); low_im = one_lane (low t.im j); slope_re = one_lane (slope t.re j); slope_im = one_lane (slope t.im j) }

abbrev each_line : Parts → ℕ → Lines
each_line t j = record { low_re = each_of (low t.re) j; low_im = each_of (low t.im) j; slope_re = each_of (slope t.re) j; slope_im = each_of (slope t.im) j }

four_each : (t : Parts) (j : ℕ) → four_of t j ≡ each_line t j
four_each t j = λ i. record { low_re = lows_are t.re j i; low_im = lows_are t.im j i; slope_re = differences_are t.re j i; slope_im = differences_are t.im j i }

each_added : (n : ℕ) (v g a : Parts) → added (sums_of n v g a) (each_line v n) (each_line g n) (each_line a n) ≡ sums_of (n + 4) v g a
each_added n v g a =
    let none : Four = all_of 0 in
    let v' : Lines = each_line v n in
    let g' : Lines = each_line g n in
    let a' : Lines = each_line a n in
    let e0 : more (total n (constant_re v g a)) (product_re a'.low_re v'.low_re v'.low_im g'.low_re g'.low_im) ≡ total (n + 4) (constant_re v g a) = four_more n (constant_re v g a) (product_re a'.low_re v'.low_re v'.low_im g'.low_re g'.low_im) refl in
    let e1 : more (total n (constant_im v g a)) (product_im a'.low_im v'.low_re v'.low_im g'.low_re g'.low_im) ≡ total (n + 4) (constant_im v g a) = four_more n (constant_im v g a) (product_im a'.low_im v'.low_re v'.low_im g'.low_re g'.low_im) refl in
    let e2 : more (more (total n (linear_re v g a)) (product_re a'.slope_re v'.low_re v'.low_im g'.slope_re g'.slope_im)) (product_re none v'.slope_re v'.slope_im g'.low_re g'.low_im) ≡ total (n + 4) (linear_re v g a) = two_more n (linear_re v g a) (product_re a'.slope_re v'.low_re v'.low_im g'.slope_re g'.slope_im) (product_re none v'.slope_re v'.slope_im g'.low_re g'.low_im)
    (with_first (λ j. slope a.re j + low v.re j * slope g.re j + low v.im j * (prime - slope g.im j)) (λ j. slope v.re j * low g.re j) (λ j. slope v.im j * (prime - low g.im j)) n) in
    let e3 : more (more (total n (linear_im v g a)) (product_im a'.slope_im v'.low_re v'.low_im g'.slope_re g'.slope_im)) (product_im none v'.slope_re v'.slope_im g'.low_re g'.low_im) ≡ total (n + 4) (linear_im v g a) = two_more n (linear_im v g a) (product_im a'.slope_im v'.low_re v'.low_im g'.slope_re g'.slope_im) (product_im none v'.slope_re v'.slope_im g'.low_re g'.low_im)
    (with_first (λ j. slope a.im j + low v.re j * slope g.im j + low v.im j * slope g.re j) (λ j. slope v.re j * low g.im j) (λ j. slope v.im j * low g.re j) n) in
    let e4 : more (total n (square_re v g a)) (product_re none v'.slope_re v'.slope_im g'.slope_re g'.slope_im) ≡ total (n + 4) (square_re v g a) = four_more n (square_re v g a) (product_re none v'.slope_re v'.slope_im g'.slope_re g'.slope_im) (no_first (λ j. slope v.re j * slope g.re j) (λ j. slope v.im j * (prime - slope g.im j)) n) in
    let e5 : more (total n (square_im v g a)) (product_im none v'.slope_re v'.slope_im g'.slope_re g'.slope_im) ≡ total (n + 4) (square_im v g a) = four_more n (square_im v g a) (product_im none v'.slope_re v'.slope_im g'.slope_re g'.slope_im) (no_first (λ j. slope v.re j * slope g.im j) (λ j. slope v.im j * slope g.re j) n) in
    λ i. record { constant_re = e0 i; constant_im = e1 i; linear_re = e2 i; linear_im = e3 i; square_re = e4 i; square_im = e5 i }

-- the sums with four pairs more
pub four_added : (n : ℕ) (v g a : Parts) → added (sums_of n v g a) (four_of v n) (four_of g n) (four_of a n) ≡ sums_of (n + 4) v g a
four_added n v g a = (λ i. added (sums_of n v g a) (four_each v n i) (four_each g n i) (four_each a n i)) ∙ each_added n v g a

one_more : (n : ℕ) (f : ℕ → ℕ) (x : Four) → across x ≡ f n → more (total n f) x ≡ total (n + 1) f
one_more n f x is = add_more (sum_of n f) (across x) ∙ ap (λ (y : ℕ). (sum_of n f + y) % prime) is ∙ ap (λ (m : ℕ). sum_of m f % prime) (sym (add-one n))

two_of_one : (n : ℕ) (f : ℕ → ℕ) (x y : Four) → across x + across y ≡ f n → more (more (total n f) x) y ≡ total (n + 1) f
two_of_one n f x y is =
    add_more ((sum_of n f) % prime + across x) (across y)
    ∙ ap (λ (z : ℕ). z % prime) (omega arith)
    ∙ add_more (sum_of n f) (across x + across y)
    ∙ ap (λ (z : ℕ). (sum_of n f + z) % prime) is
    ∙ ap (λ (m : ℕ). sum_of m f % prime) (sym (add-one n))

lone : (x p q : ℕ) → x + p + q + 0 + 0 + 0 ≡ x + p + q
lone x p q = omega arith

lone_square : (p q : ℕ) → 0 + p + q + 0 + 0 + 0 ≡ p + q
lone_square p q = omega arith

lone_two : (x p q s t : ℕ) → x + p + q + 0 + 0 + 0 + (0 + s + t + 0 + 0 + 0) ≡ x + p + q + (s + t)
lone_two x p q s t = omega arith

-- and with one
pub one_added : (n : ℕ) (v g a : Parts) → added (sums_of n v g a) (one_of v n) (one_of g n) (one_of a n) ≡ sums_of (n + 1) v g a
one_added n v g a =
    let none : Four = all_of 0 in
    let v' : Lines = one_of v n in
    let g' : Lines = one_of g n in
    let a' : Lines = one_of a n in
    let e0 : more (total n (constant_re v g a)) (product_re a'.low_re v'.low_re v'.low_im g'.low_re g'.low_im) ≡ total (n + 1) (constant_re v g a) = one_more n (constant_re v g a) (product_re a'.low_re v'.low_re v'.low_im g'.low_re g'.low_im)
    (lone (low a.re n) (low v.re n * low g.re n) (low v.im n * (prime - low g.im n))) in
    let e1 : more (total n (constant_im v g a)) (product_im a'.low_im v'.low_re v'.low_im g'.low_re g'.low_im) ≡ total (n + 1) (constant_im v g a) = one_more n (constant_im v g a) (product_im a'.low_im v'.low_re v'.low_im g'.low_re g'.low_im)
    (lone (low a.im n) (low v.re n * low g.im n) (low v.im n * low g.re n)) in
    let e2 : more (more (total n (linear_re v g a)) (product_re a'.slope_re v'.low_re v'.low_im g'.slope_re g'.slope_im)) (product_re none v'.slope_re v'.slope_im g'.low_re g'.low_im) ≡ total (n + 1) (linear_re v g a) = two_of_one n (linear_re v g a) (product_re a'.slope_re v'.low_re v'.low_im g'.slope_re g'.slope_im) (product_re none v'.slope_re v'.slope_im g'.low_re g'.low_im)
    (lone_two (slope a.re n) (low v.re n * slope g.re n) (low v.im n * (prime - slope g.im n)) (slope v.re n * low g.re n) (slope v.im n * (prime - low g.im n))) in
    let e3 : more (more (total n (linear_im v g a)) (product_im a'.slope_im v'.low_re v'.low_im g'.slope_re g'.slope_im)) (product_im none v'.slope_re v'.slope_im g'.low_re g'.low_im) ≡ total (n + 1) (linear_im v g a) = two_of_one n (linear_im v g a) (product_im a'.slope_im v'.low_re v'.low_im g'.slope_re g'.slope_im) (product_im none v'.slope_re v'.slope_im g'.low_re g'.low_im)
    (lone_two (slope a.im n) (low v.re n * slope g.im n) (low v.im n * slope g.re n) (slope v.re n * low g.im n) (slope v.im n * low g.re n)) in
    let e4 : more (total n (square_re v g a)) (product_re none v'.slope_re v'.slope_im g'.slope_re g'.slope_im) ≡ total (n + 1) (square_re v g a) = one_more n (square_re v g a) (product_re none v'.slope_re v'.slope_im g'.slope_re g'.slope_im)
    (lone_square (slope v.re n * slope g.re n) (slope v.im n * (prime - slope g.im n))) in
    let e5 : more (total n (square_im v g a)) (product_im none v'.slope_re v'.slope_im g'.slope_re g'.slope_im) ≡ total (n + 1) (square_im v g a) = one_more n (square_im v g a) (product_im none v'.slope_re v'.slope_im g'.slope_re g'.slope_im)
    (lone_square (slope v.re n * slope g.im n) (slope v.im n * slope g.re n)) in
    λ i. record { constant_re = e0 i; constant_im = e1 i; linear_re = e2 i; linear_im = e3 i; square_re = e4 i; square_im = e5 i }
