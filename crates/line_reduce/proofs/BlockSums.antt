-- Rows for several coordinates at once are the folds by these coordinates
use Rattle.std.proofs.Common.{◌≡◌, ℕ, ◌≤◌, zero, suc, ◌+◌, ◌-◌, ◌*◌, ◌/◌, ◌%◌, ◌^◌, ◌<◌, List, [], ◌∷◌, length, get_or, take, length-take, get_or-take, refl, sym, ◌∙◌, ap, ap₂, arith, pow-suc, pow_pos}
use Rattle.std.proofs.Math.Nat.{mul-le-mul_left, mul-div_cancel}
use Rattle.std.proofs.lemmas.Nat.{pow-add}
use Rattle.field_ext.specs.Ring.{Ops, Laws}
use Rattle.field_ext.specs.Polynomial.{coefficients}
use Rattle.field_ext.specs.Field.{K, F, prime, of, f_ops, k_ops, zero_k, add_f, neg_f, mul_f, add_k, mul_k}
use Rattle.field_ext.specs.Sums.{sum_below}
use Rattle.field_ext.specs.Multilinear.{eq_poly, folded, folded_all}
use Rattle.field_ext.proofs.api.FLaws.{f_laws}
use Rattle.field_ext.proofs.api.KLaws.{k_laws}
use Rattle.field_ext.proofs.api.Rings.{zero_add}
use Rattle.field_ext.proofs.api.Elements.{add-of}
use Rattle.field_ext.proofs.api.Solve.{var, nil, unit, ◌⊕◌, ◌⊗◌, minus, solve}
use Rattle.mle_table.proofs.api.EqualitySteps.{pow_up}
use Rattle.mle_table.proofs.api.Fold.{fold-at, eq-even, eq-odd}
use Rattle.mle_table.proofs.api.SumLaws.{sum_below-same, sum_below-pairs}
use Rattle.wiring_poly.proofs.api.Sums.{sum_below-zero}
use Rattle.gkr_layers.specs.Sumcheck.{point_between, line_polynomial}
use Rattle.gkr_layers.proofs.api.Lines.{value-line_polynomial}
use Rattle.gkr_layers.proofs.api.Degree.{length-line_polynomial}
use Rattle.gkr_layers.proofs.api.Coefficients.{from_values}
use Rattle.line_reduce.specs.Rows.{row_value, weighted_sum, HaveFolds, AreWeights}
use Rattle.line_reduce.proofs.Steps.{row-same, length-point, row-whole, folded_all-value}

module _ {A : Type 0} (o : Ops A) (l : Laws A o) where
  -- two sums, one of them times e
  sum_below-joined : (n : ℕ) (f h : ℕ → A) (e : A) → o.add (sum_below o n f) (o.mul e (sum_below o n h)) ≡ sum_below o n (λ k. o.add (f k) (o.mul e (h k)))
  sum_below-joined zero f h e = solve o l (e ∷ []) (nil ⊕ var 0 ⊗ nil) nil refl
  sum_below-joined (suc n) f h e =
      solve o l (sum_below o n f ∷ f n ∷ e ∷ sum_below o n h ∷ h n ∷ [])
      (var 0 ⊕ var 1 ⊕ var 2 ⊗ (var 3 ⊕ var 4)) (var 0 ⊕ var 2 ⊗ var 3 ⊕ (var 1 ⊕ var 2 ⊗ var 4)) refl
      ∙ ap (λ (x : A). o.add x (o.add (f n) (o.mul e (h n)))) (sum_below-joined n f h e)

  -- a row whose coefficients are sums over a column of rows each is the sum over the rows
  pub row_of_sums : (xs ws : List A) (v : ℕ → A) (at j n w s : ℕ) (e : A) →
      ((i : ℕ) → i < n → get_or xs (at + i) o.zero ≡ sum_below o s (λ q. o.mul (v q) (get_or ws (j + i + q * w) o.zero))) →
      row_value o xs at n e ≡ sum_below o s (λ q. o.mul (v q) (row_value o ws (q * w + j) n e))
  row_of_sums xs ws v at j zero w s e h =
      sym (sum_below-same o l s _ (λ q. o.zero) (λ q u. solve o l (v q ∷ []) (var 0 ⊗ nil) nil refl) ∙ sum_below-zero o l s)
  row_of_sums xs ws v at j (suc n) w s e h =
      let here : at ≡ at + 0 = omega arith in
      ap₂ (λ (x y : A). o.add x (o.mul e y))
      (ap (λ (x : ℕ). get_or xs x o.zero) here ∙ h 0 (omega arith))
      (row_of_sums xs ws v (at + 1) (j + 1) n w s e (λ i u.
      let p : at + 1 + i ≡ at + suc i = omega arith in
      let q : j + suc i ≡ j + 1 + i = omega arith in
      ap (λ (x : ℕ). get_or xs x o.zero) p ∙ h (suc i) (omega arith) ∙ ap (λ (x : ℕ). sum_below o s (λ q. o.mul (v q) (get_or ws (x + q * w) o.zero))) q))
      ∙ sum_below-joined s _ _ e
      ∙ sum_below-same o l s _ _ (λ q u.
      let first : j + 0 + q * w ≡ q * w + j = omega arith in
      let next : q * w + (j + 1) ≡ q * w + j + 1 = omega arith in
      ap₂ (λ (x y : ℕ). o.add (o.mul (v q) (get_or ws x o.zero)) (o.mul e (o.mul (v q) (row_value o ws y n e)))) first next
      ∙ solve o l (v q ∷ get_or ws (q * w + j) o.zero ∷ e ∷ row_value o ws (q * w + j + 1) n e ∷ [])
      (var 0 ⊗ var 1 ⊕ var 2 ⊗ (var 0 ⊗ var 3)) (var 0 ⊗ (var 1 ⊕ var 2 ⊗ var 3)) refl)

  -- to fold by several coordinates is to add up each block's values, times the equality polynomial
  pub fold_block : (t rs : List A) (p : ℕ) → get_or (folded_all o t rs) p o.zero
      ≡ sum_below o (2 ^ length rs) (λ q. o.mul (get_or t (p * 2 ^ length rs + q) o.zero) (eq_poly o rs q))
  fold_block t [] p =
      let here : p ≡ p * 1 + 0 = omega arith in
      ap (λ (x : ℕ). get_or t x o.zero) here ∙ solve o l (get_or t (p * 1 + 0) o.zero ∷ []) (var 0) (nil ⊕ var 0 ⊗ unit) refl
  fold_block t (r ∷ rs) p =
      let n : ℕ = 2 ^ length rs in
      let double : p * (2 ^ length rs * 2) ≡ p * 2 ^ length rs * 2 = omega arith in
      fold_block (folded o t r) rs p
      ∙ sum_below-same o l n _ _ (λ h u.
      let low : (p * 2 ^ length rs + h) * 2 ≡ p * (2 ^ length rs * 2) + h * 2 = omega (arith, double) in
      let high : p * (2 ^ length rs * 2) + h * 2 + 1 ≡ p * (2 ^ length rs * 2) + (h * 2 + 1) = omega arith in
      ap (λ (x : A). o.mul x (eq_poly o rs h)) (fold-at o l t r (p * n + h)
      ∙ ap (λ (k : ℕ). o.add (get_or t k o.zero) (o.mul r (o.add (get_or t (k + 1) o.zero) (o.neg (get_or t k o.zero))))) low
      ∙ ap (λ (k : ℕ). o.add (get_or t (p * (n * 2) + h * 2) o.zero) (o.mul r (o.add (get_or t k o.zero) (o.neg (get_or t (p * (n * 2) + h * 2) o.zero))))) high)
      ∙ solve o l (get_or t (p * (n * 2) + h * 2) o.zero ∷ get_or t (p * (n * 2) + (h * 2 + 1)) o.zero ∷ r ∷ eq_poly o rs h ∷ [])
      ((var 0 ⊕ var 2 ⊗ (var 1 ⊕ minus (var 0))) ⊗ var 3)
      (var 0 ⊗ ((unit ⊕ minus (var 2)) ⊗ var 3) ⊕ var 1 ⊗ (var 2 ⊗ var 3)) refl
      ∙ sym (ap₂ (λ (x y : A). o.add (o.mul (get_or t (p * (n * 2) + h * 2) o.zero) x) (o.mul (get_or t (p * (n * 2) + (h * 2 + 1)) o.zero) y)) (eq-even o l r rs h) (eq-odd o l r rs h)))
      ∙ sym (sum_below-pairs o l n (λ q. o.mul (get_or t (p * (n * 2) + q) o.zero) (eq_poly o (r ∷ rs) q)))
      ∙ ap (λ (k : ℕ). sum_below o k (λ q. o.mul (get_or t (p * k + q) o.zero) (eq_poly o (r ∷ rs) q))) (sym (pow-suc 2 (length rs)))

  -- blocks' values times rows of weights are rows of the table's folds
  pub block_folds : (t weights rows b c : List A) (n s count : ℕ) (e : A) → length c ≡ length b → n ≤ length b → s ≡ 2 ^ n →
      AreWeights o n (n + 1) weights b c e →
      ((p j : ℕ) → p < count → j < n + 1 → get_or rows (p * (n + 1) + j) o.zero ≡ weighted_sum o t (p * s) weights j (n + 1) s) →
      HaveFolds o n count rows t b c e
  block_folds t weights rows b c n s count e v w size are sums p u =
      let rs : List A = take n (point_between o b c e) in
      let long : length (take n (point_between o b c e)) ≡ n = omega (arith, length-take n (point_between o b c e), length-point o l b c e v) in
      let whole : s ≡ 2 ^ length (take n (point_between o b c e)) = size ∙ ap (λ (k : ℕ). 2 ^ k) (sym long) in
      row_of_sums rows weights (λ q. get_or t (p * s + q) o.zero) (p * (n + 1)) 0 (n + 1) (n + 1) s e (λ i x.
      let none : i ≡ 0 + i = omega arith in
      sums p i u x ∙ ap (λ (k : ℕ). sum_below o s (λ q. o.mul (get_or t (p * s + q) o.zero) (get_or weights (k + q * (n + 1)) o.zero))) none)
      ∙ sum_below-same o l s _ _ (λ q x.
      let none : q * (n + 1) + 0 ≡ q * (n + 1) = omega arith in
      ap (o.mul (get_or t (p * s + q) o.zero)) (ap (λ (k : ℕ). row_value o weights k (n + 1) e) none ∙ are q (omega (arith, size, x))))
      ∙ ap (λ (k : ℕ). sum_below o k (λ q. o.mul (get_or t (p * k + q) o.zero) (eq_poly o rs q))) whole
      ∙ sym (fold_block t rs p)

-- a product with an element of the base field
pub base_product : (x y : K) → x.im ≡ of 0 → mul_k x y ≡ record { re = mul_f x.re y.re; im = mul_f x.re y.im }
base_product x y e =
    (λ i. record {
      re = add_f (mul_f x.re y.re) (neg_f (mul_f (e i) y.im));
      im = add_f (mul_f x.re y.im) (mul_f (e i) y.re);
    })
    ∙ (λ i. record {
      re = solve f_ops f_laws (x.re ∷ y.re ∷ y.im ∷ []) (var 0 ⊗ var 1 ⊕ minus (nil ⊗ var 2)) (var 0 ⊗ var 1) refl i;
      im = solve f_ops f_laws (x.re ∷ y.im ∷ y.re ∷ []) (var 0 ⊗ var 1 ⊕ nil ⊗ var 2) (var 0 ⊗ var 1) refl i;
    })

-- four products of numbers, reduced together
pub four_products : (a b c d w x y z : F) → of (a.value * w.value + b.value * x.value + c.value * y.value + d.value * z.value)
    ≡ add_f (add_f (add_f (mul_f a w) (mul_f b x)) (mul_f c y)) (mul_f d z)
four_products a b c d w x y z =
    sym (add-of (a.value * w.value + b.value * x.value + c.value * y.value) (d.value * z.value))
    ∙ ap (λ (t : F). add_f t (mul_f d z)) (sym (add-of (a.value * w.value + b.value * x.value) (c.value * y.value))
    ∙ ap (λ (t : F). add_f t (mul_f c y)) (sym (add-of (a.value * w.value) (b.value * x.value))))

-- and as elements of K
pub four_elements : (a b c d w x y z : K) (re im : F) → a.im ≡ of 0 → b.im ≡ of 0 → c.im ≡ of 0 → d.im ≡ of 0 →
    re ≡ add_f (add_f (add_f (mul_f a.re w.re) (mul_f b.re x.re)) (mul_f c.re y.re)) (mul_f d.re z.re) →
    im ≡ add_f (add_f (add_f (mul_f a.re w.im) (mul_f b.re x.im)) (mul_f c.re y.im)) (mul_f d.re z.im) →
    record { re = re; im = im } ≡ add_k (add_k (add_k (add_k zero_k (mul_k a w)) (mul_k b x)) (mul_k c y)) (mul_k d z)
four_elements a b c d w x y z re im ha hb hc hd hre him =
    (λ i. record { re = hre i; im = him i })
    ∙ sym (ap₂ add_k (ap₂ add_k (ap₂ add_k (zero_add k_ops k_laws (mul_k a w) ∙ base_product a w ha) (base_product b x hb)) (base_product c y hc)) (base_product d z hd))

-- a table folded by all coordinates to one row is the line's polynomial
pub line_of_row : (t one_row b c : List K) → length c ≡ length b → length b ≤ 20 → length one_row ≡ length b + 1 →
    ((e : K) → HaveFolds k_ops (length b) 1 one_row t b c e) → one_row ≡ coefficients k_ops (length b + 1) (line_polynomial k_ops t b c)
line_of_row t one_row b c v most size folds =
    let small : length b + 1 < prime = omega arith in
    from_values (length b + 1) one_row (line_polynomial k_ops t b c) small size (length-line_polynomial k_ops t b c) (λ e.
    let first : 0 ≡ 0 * (length b + 1) = omega arith in
    sym (row-whole k_ops k_laws one_row e)
    ∙ (λ i. row_value k_ops one_row 0 (size i) e)
    ∙ (λ i. row_value k_ops one_row (first i) (length b + 1) e)
    ∙ folds e 0 (omega arith)
    ∙ folded_all-value k_ops k_laws t b c e (length b) v (omega arith)
    ∙ sym (value-line_polynomial k_ops k_laws t b c e))

-- the places of one row
pub row_of_front : (xs t b c : List K) (n : ℕ) (e : K) → n + 1 ≤ length xs → HaveFolds k_ops n 1 xs t b c e → HaveFolds k_ops n 1 (take (n + 1) xs) t b c e
row_of_front xs t b c n e fits folds p u =
    row-same k_ops k_laws (take (n + 1) xs) xs (p * (n + 1)) (n + 1) e (λ x _ w.
    let none : p ≡ 0 = omega arith in
    let first : p * (n + 1) ≡ 0 * (n + 1) = ap (λ (i : ℕ). i * (n + 1)) none in
    get_or-take (n + 1) xs x zero_k (omega (arith, first, w)))
    ∙ folds p u

-- the first of the rows into which a table was folded by all coordinates
pub line_in_front : (t rows b c : List K) → length c ≡ length b → length b ≤ 20 → length b + 1 ≤ length rows →
    ((e : K) → HaveFolds k_ops (length b) 1 rows t b c e) → take (length b + 1) rows ≡ coefficients k_ops (length b + 1) (line_polynomial k_ops t b c)
line_in_front t rows b c v most fits folds =
    line_of_row t (take (length b + 1) rows) b c v most (omega (arith, length-take (length b + 1) rows)) (λ e. row_of_front rows t b c (length b) e fits (folds e))

-- a block of 2 ^ n values, as a number of 64 bits, is some fours
pub record IsBlock (n s : ℕ) : Type 0 where
  pub size : s ≡ 2 ^ n
  pub fours : 4 * (s / 4) ≡ s
  pub some : 1 ≤ s / 4

pub a_block : (n s : ℕ) → 2 ≤ n → n ≤ 6 → s ≡ 1 * 2 ^ n % 18446744073709551616 → IsBlock n s
a_block n s u v e =
    let again : n ≡ n - 2 + 2 = omega arith in
    let quarter : 2 ^ n ≡ 2 ^ (n - 2) * 4 = ap (λ (k : ℕ). 2 ^ k) again ∙ pow-add 2 (n - 2) 2 in
    let most : 2 ^ n ≤ 2 ^ 6 = pow_up n 6 v in
    let some = pow_pos (n - 2) in
    let size : s ≡ 2 ^ n = omega (arith, e, most) in
    record {
      size = size;
      fours = omega (arith, size, quarter);
      some = omega (arith, size, quarter, some);
    }

-- blocks of 2 ^ n of 2 ^ k values
pub blocks_of : (k n s m : ℕ) → n ≤ k → s ≡ 2 ^ n → m ≡ 2 ^ k → (m / s ≡ 2 ^ (k - n)) × (m ≡ m / s * s)
blocks_of k n s m u size whole =
    let again : k ≡ k - n + n = omega arith in
    let all : m ≡ 2 ^ (k - n) * s = whole ∙ ap (λ (i : ℕ). 2 ^ i) again ∙ pow-add 2 (k - n) n ∙ ap (λ (i : ℕ). 2 ^ (k - n) * i) (sym size) in
    let some : 0 < s = omega (arith, size, pow_pos n) in
    let each : m / s ≡ 2 ^ (k - n) = ap (λ (i : ℕ). i / s) all ∙ mul-div_cancel (2 ^ (k - n)) some in
    (each, all ∙ ap (λ (i : ℕ). i * s) (sym each))

-- the rows that blocks of 2 ^ n of 2 ^ k values give have places for a line
power_above : (m : ℕ) → m + 1 ≤ 2 ^ m
power_above zero = omega arith
power_above (suc m) = omega (arith, pow-suc 2 m, power_above m)

pub line_fits : (k n places : ℕ) → n ≤ k → 2 ^ (k - n) * (n + 1) ≤ places → k + 1 ≤ places
line_fits k n places u fits = enough (k - n) n k (2 ^ (k - n)) places (power_above (k - n)) (omega arith) fits
  where
    enough : (m n k p places : ℕ) → m + 1 ≤ p → k ≡ m + n → p * (n + 1) ≤ places → k + 1 ≤ places
    enough m n k p places above is fits = let h : (n + 1) * (m + 1) ≤ (n + 1) * p = mul-le-mul_left (n + 1) above in omega (arith, h, fits, is)
