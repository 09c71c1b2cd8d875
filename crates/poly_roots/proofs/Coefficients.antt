-- The coefficients of sums and products, and how many they are
use Rattle.std.proofs.Common.{◌≡◌, ℕ, zero, suc, ◌+◌, ◌<◌, ◌≤◌, List, [], ◌∷◌, ◌++◌, length, map, max, get_or, take, drop, ext_get_or, refl, sym, ◌∙◌, ap, ap₂, arith}
use Rattle.std.proofs.lemmas.List.{drop_more, take_more, take_all, get_or_past, length-map}
use Rattle.field_ext.specs.Ring.{Ops, Laws}
use Rattle.field_ext.specs.Polynomial.{value_at, sum_of, product_of}
use Rattle.field_ext.proofs.api.Rings.{zero_add, mul_zero, zero_mul}

module _ {A : Type 0} (o : Ops A) (l : Laws A o) where
  pub value-zero : (cs : List A) → value_at o cs o.zero ≡ get_or cs 0 o.zero
  value-zero [] = refl
  value-zero (c ∷ cs) = ap (o.add c) (zero_mul o l (value_at o cs o.zero)) ∙ l.add_zero c

  pub sum-coefficient : (p q : List A) (i : ℕ) → get_or (sum_of o p q) i o.zero ≡ o.add (get_or p i o.zero) (get_or q i o.zero)
  sum-coefficient [] q i = sym (zero_add o l (get_or q i o.zero))
  sum-coefficient (c ∷ cs) [] i = sym (l.add_zero (get_or (c ∷ cs) i o.zero))
  sum-coefficient (c ∷ cs) (d ∷ ds) zero = refl
  sum-coefficient (c ∷ cs) (d ∷ ds) (suc i) = sum-coefficient cs ds i

  scaled-coefficient : (c : A) (ds : List A) (i : ℕ) → get_or (map (o.mul c) ds) i o.zero ≡ o.mul c (get_or ds i o.zero)
  scaled-coefficient c [] i = sym (mul_zero o l c)
  scaled-coefficient c (d ∷ ds) zero = refl
  scaled-coefficient c (d ∷ ds) (suc i) = scaled-coefficient c ds i

  -- the first coefficient's row, and the product of the others one place on
  pub row-first : (c : A) (cs ds : List A) → get_or (product_of o (c ∷ cs) ds) 0 o.zero ≡ o.mul c (get_or ds 0 o.zero)
  row-first c cs [] = sym (mul_zero o l c)
  row-first c cs (d ∷ ds) = refl

  product-nil : (cs : List A) → product_of o cs [] ≡ []
  product-nil [] = refl
  product-nil (c ∷ cs) = refl

  pub row-next : (c : A) (cs ds : List A) (k : ℕ) →
      get_or (product_of o (c ∷ cs) ds) (suc k) o.zero ≡ o.add (get_or (product_of o cs ds) k o.zero) (o.mul c (get_or ds (suc k) o.zero))
  row-next c cs [] k =
      sym (ap₂ o.add (ap (λ (p : List A). get_or p k o.zero) (product-nil cs)) (mul_zero o l c) ∙ l.add_zero o.zero)
  row-next c cs (d ∷ ds) k =
      sum-coefficient (map (o.mul c) ds) (product_of o cs (d ∷ ds)) k
      ∙ ap (λ (x : A). o.add x (get_or (product_of o cs (d ∷ ds)) k o.zero)) (scaled-coefficient c ds k)
      ∙ l.add_comm (o.mul c (get_or ds k o.zero)) (get_or (product_of o cs (d ∷ ds)) k o.zero)

pub length-sum : {A : Type 0} (o : Ops A) (p q : List A) → length (sum_of o p q) ≡ max (length p) (length q)
length-sum o [] q = omega arith
length-sum o (c ∷ cs) [] = omega arith
length-sum o (c ∷ cs) (d ∷ ds) = omega (arith, length-sum o cs ds)

pub length-product : {A : Type 0} (o : Ops A) (c : A) (cs : List A) (d : A) (ds : List A) → length (product_of o (c ∷ cs) (d ∷ ds)) ≡ length (c ∷ cs) + length ds
length-product o c [] d ds = omega (arith, length-sum o (map (o.mul c) ds) [], length-map ds (o.mul c))
length-product o c (e ∷ cs) d ds =
    omega (arith, length-product o e cs d ds, length-sum o (map (o.mul c) ds) (product_of o (e ∷ cs) (d ∷ ds)), length-map ds (o.mul c))

pub empty_left : {A : Type 0} (o : Ops A) (p q : List A) → length p ≡ 0 → [] ≡ product_of o p q
empty_left o [] q e = refl
empty_left o (c ∷ cs) q e = absurd (omega arith)

pub empty_right : {A : Type 0} (o : Ops A) (p q : List A) → length q ≡ 0 → [] ≡ product_of o p q
empty_right o [] q e = refl
empty_right o (c ∷ cs) [] e = refl
empty_right o (c ∷ cs) (d ∷ ds) e = absurd (omega arith)

size_of_product : {A : Type 0} (o : Ops A) (p q : List A) → 0 < length p → 0 < length q → length (product_of o p q) + 1 ≡ length p + length q
size_of_product o [] q u v = absurd (omega arith)
size_of_product o (c ∷ cs) [] u v = absurd (omega arith)
size_of_product o (c ∷ cs) (d ∷ ds) u v = omega (arith, length-product o c cs d ds)

module _ {A : Type 0} (o : Ops A) (l : Laws A o) where
  -- one more row is added
  pub rows_step : (t t' left right : List A) (row : ℕ) (c : A) → row < length left → c ≡ get_or left row c →
      ((k : ℕ) → k < row + 1 → get_or t k o.zero ≡ o.zero) →
      ((k : ℕ) → get_or t (row + 1 + k) o.zero ≡ get_or (product_of o (drop (row + 1) left) right) k o.zero) →
      ((k : ℕ) → get_or t' (row + k) o.zero ≡ o.add (get_or t (row + k) o.zero) (o.mul c (get_or right k o.zero))) →
      (k : ℕ) → get_or t' (row + k) o.zero ≡ get_or (product_of o (drop row left) right) k o.zero
  rows_step t t' left right row c u is before rows from zero =
      from 0 ∙ ap (λ (x : A). o.add x (o.mul c (get_or right 0 o.zero))) (before (row + 0) (omega arith))
      ∙ zero_add o l (o.mul c (get_or right 0 o.zero))
      ∙ sym (row-first o l c (drop (row + 1) left) right)
      ∙ ap (λ (x : A). get_or (product_of o (x ∷ drop (row + 1) left) right) 0 o.zero) is
      ∙ ap (λ (xs : List A). get_or (product_of o xs right) 0 o.zero) (sym (drop_more left row c u))
  rows_step t t' left right row c u is before rows from (suc k) =
      let place : row + suc k ≡ row + 1 + k = omega arith in
      from (suc k)
      ∙ ap (λ (n : ℕ). o.add (get_or t n o.zero) (o.mul c (get_or right (suc k) o.zero))) place
      ∙ ap (λ (x : A). o.add x (o.mul c (get_or right (suc k) o.zero))) (rows k)
      ∙ sym (row-next o l c (drop (row + 1) left) right k)
      ∙ ap (λ (x : A). get_or (product_of o (x ∷ drop (row + 1) left) right) (suc k) o.zero) is
      ∙ ap (λ (xs : List A). get_or (product_of o xs right) (suc k) o.zero) (sym (drop_more left row c u))

  pub rows_whole : (t left right : List A) → 0 < length left → 0 < length right → length t + 1 ≡ length left + length right →
      ((k : ℕ) → get_or t (0 + k) o.zero ≡ get_or (product_of o left right) k o.zero) → t ≡ product_of o left right
  rows_whole t left right u v size same =
      ext_get_or o.zero t (product_of o left right) (omega (arith, size_of_product o left right u v))
      (λ k b. let e : k ≡ 0 + k = omega arith in ap (λ (n : ℕ). get_or t n o.zero) e ∙ same k)

  -- where a row is not reached, zeros are added
  pub nothing_added : (x c : A) (right : List A) (k : ℕ) → length right ≤ k → x ≡ o.add x (o.mul c (get_or right k o.zero))
  nothing_added x c right k u =
      sym (ap (λ (y : A). o.add x (o.mul c y)) (get_or_past right k o.zero u) ∙ ap (o.add x) (mul_zero o l c) ∙ l.add_zero x)

  -- the next coefficient of a sum is pushed
  pub sum_step : (p q : List A) (i : ℕ) (x : A) → i < max (length p) (length q) → x ≡ o.add (get_or p i o.zero) (get_or q i o.zero) →
      take i (sum_of o p q) ++ x ∷ [] ≡ take (i + 1) (sum_of o p q)
  sum_step p q i x u e =
      let inside : i < length (sum_of o p q) = omega (arith, length-sum o p q) in
      ap (λ (y : A). take i (sum_of o p q) ++ y ∷ []) (e ∙ sym (sum-coefficient o l p q i)) ∙ sym (take_more (sum_of o p q) i o.zero inside)

pub sum_whole : {A : Type 0} (o : Ops A) (p q : List A) (i : ℕ) → max (length p) (length q) ≤ i → take i (sum_of o p q) ≡ sum_of o p q
sum_whole o p q i u = let all : length (sum_of o p q) ≤ i = omega (arith, length-sum o p q) in take_all i (sum_of o p q) all
