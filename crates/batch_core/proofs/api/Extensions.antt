-- The extension of a table of copies is the sum of the copies' extensions, by the weights of the copies or of the instances that they stand for
use Rattle.std.proofs.Common.{◌≡◌, ℕ, zero, suc, ◌+◌, ◌-◌, ◌*◌, ◌^◌, ◌<◌, ◌≤◌, ◌⊎◌, inl, inr, Bool, if◌then◌else◌, ◌==◌, List, [], ◌∷◌, ◌++◌, length, get_or, refl, sym, ◌∙◌, ap, ap₂, arith, length-append}
use Rattle.std.proofs.Math.Nat.{min-eq_left, min-eq_right, min-le_right}
use Rattle.std.proofs.lemmas.Bool.{cases_eq, cases_lt, eq-eqb, ne_eqb}
use Rattle.field_ext.specs.Ring.{Ops, Laws}
use Rattle.field_ext.specs.Sums.{sum_below}
use Rattle.field_ext.specs.Multilinear.{eq_poly, extension_at}
use Rattle.field_ext.proofs.api.Rings.{zero_add, zero_mul}
use Rattle.field_ext.proofs.api.Solve.{var, ◌⊕◌, ◌⊗◌, solve}
use Rattle.mle_table.proofs.api.SumLaws.{sum_below-same}
use Rattle.wiring_poly.proofs.api.Sums.{sum_below-append, sum_below-zero}
use Rattle.batch_core.specs.Copies.{copies_table, instance_of}
use Rattle.batch_core.specs.CopiedValues.{instance_weight}
use Rattle.batch_core.proofs.api.CopySums.{sum_below-scale, sum_below-blocks, eq-copy, sum-one}
use Rattle.batch_core.proofs.api.Joined.{read-joined}
use Rattle.batch_core.proofs.api.CopiedLayers.{all_positions}

module _ {A : Type 0} (o : Ops A) (l : Laws A o) where
  pub ext-copies : (j n : ℕ) (z y : List A) (t : ℕ → List A) → length z ≡ j → length y ≡ n → ((c : ℕ) → length (t c) ≡ 2 ^ j) →
      extension_at o o (λ x. x) (copies_table n t) (z ++ y) ≡ sum_below o (2 ^ n) (λ e. o.mul (eq_poly o y e) (extension_at o o (λ x. x) (t e) z))
  ext-copies j n z y t sz sy s =
      let f : ℕ → A = λ g. o.mul (get_or (copies_table n t) g o.zero) (eq_poly o (z ++ y) g) in
      let count : length (z ++ y) ≡ j + n = omega (arith, length-append z y, sz, sy) in
      let size : 2 ^ length (z ++ y) ≡ 2 ^ n * 2 ^ j = ap (λ (i : ℕ). 2 ^ i) count ∙ sym (all_positions j n) in
      ap (λ (i : ℕ). sum_below o i f) size
      ∙ sum_below-blocks o l (2 ^ n) (2 ^ j) f
      ∙ sum_below-same o l (2 ^ n) _ _ (λ e u.
      sum_below-same o l (2 ^ j) _ (λ g. o.mul (eq_poly o y e) (o.mul (get_or (t e) g o.zero) (eq_poly o z g))) (λ g v.
      ap₂ o.mul (read-joined (2 ^ n) (2 ^ j) t e g o.zero s u v) (eq-copy o l z y j e g sz v)
      ∙ solve o l (get_or (t e) g o.zero ∷ eq_poly o z g ∷ eq_poly o y e ∷ []) (var 0 ⊗ (var 1 ⊗ var 2)) (var 2 ⊗ (var 0 ⊗ var 1)) refl)
      ∙ sum_below-scale o l (2 ^ j) (eq_poly o y e) (λ g. o.mul (get_or (t e) g o.zero) (eq_poly o z g))
      ∙ ap (λ (i : ℕ). o.mul (eq_poly o y e) (sum_below o (2 ^ i) (λ g. o.mul (get_or (t e) g o.zero) (eq_poly o z g)))) (sym sz))

  pub sum_below-add : (n : ℕ) (f h : ℕ → A) → sum_below o n (λ k. o.add (f k) (h k)) ≡ o.add (sum_below o n f) (sum_below o n h)
  sum_below-add zero f h = sym (l.add_zero o.zero)
  sum_below-add (suc n) f h =
      ap (λ (x : A). o.add x (o.add (f n) (h n))) (sum_below-add n f h)
      ∙ solve o l (sum_below o n f ∷ sum_below o n h ∷ f n ∷ h n ∷ []) (var 0 ⊕ var 1 ⊕ (var 2 ⊕ var 3)) (var 0 ⊕ var 2 ⊕ (var 1 ⊕ var 3)) refl

  picked-same : (i m : ℕ) (x : A) → i ≡ m → (if i == m then x else o.zero) ≡ x
  picked-same i m x e = ap (λ (b : Bool). if b then x else o.zero) (eq-eqb i m e)

  picked-other : (i m : ℕ) (x : A) → (i ≡ m → ⊥) → (if i == m then x else o.zero) ≡ o.zero
  picked-other i m x n = ap (λ (b : Bool). if b then x else o.zero) (ne_eqb i m n)

  -- of all terms one is left
  one_term : (count i : ℕ) (v : A) (f : ℕ → A) → i < count → sum_below o count (λ m. o.mul (if i == m then v else o.zero) (f m)) ≡ o.mul v (f i)
  one_term zero i v f b = absurd (omega arith)
  one_term (suc count) i v f b = by_last (λ below. one_term count i v f below) (cases_eq i count)
    where
      by_last : (i < count → sum_below o count (λ m. o.mul (if i == m then v else o.zero) (f m)) ≡ o.mul v (f i)) → (i ≡ count) ⊎ (i ≡ count → ⊥) →
          o.add (sum_below o count (λ m. o.mul (if i == m then v else o.zero) (f m))) (o.mul (if i == count then v else o.zero) (f count)) ≡ o.mul v (f i)
      by_last earlier (inl e) =
          ap₂ o.add
          (sum_below-same o l count _ (λ m. o.zero) (λ m u. ap (λ (x : A). o.mul x (f m)) (picked-other i m v (λ same. absurd (omega (arith, same, e, u)))) ∙ zero_mul o l (f m)) ∙ sum_below-zero o l count)
          (ap (λ (x : A). o.mul x (f count)) (picked-same i count v e) ∙ ap (λ (k : ℕ). o.mul v (f k)) (sym e))
          ∙ zero_add o l (o.mul v (f i))
      by_last earlier (inr n) =
          let below : i < count = omega arith in
          ap₂ o.add (earlier below) (ap (λ (x : A). o.mul x (f count)) (picked-other i count v n) ∙ zero_mul o l (f count))
          ∙ l.add_zero (o.mul v (f i))

  -- a sum over copies is one over what they stand for
  pub by_target : (n count : ℕ) (w : ℕ → A) (target : ℕ → ℕ) (f : ℕ → A) → ((c : ℕ) → target c < count) →
      sum_below o n (λ c. o.mul (w c) (f (target c))) ≡ sum_below o count (λ m. o.mul (sum_below o n (λ c. if target c == m then w c else o.zero)) (f m))
  by_target zero count w target f b =
      sym (sum_below-same o l count _ (λ m. o.zero) (λ m u. zero_mul o l (f m)) ∙ sum_below-zero o l count)
  by_target (suc n) count w target f b =
      ap₂ o.add (by_target n count w target f b) (sym (one_term count (target n) (w n) f (b n)))
      ∙ sym (sum_below-add count (λ m. o.mul (sum_below o n (λ c. if target c == m then w c else o.zero)) (f m)) (λ m. o.mul (if target n == m then w n else o.zero) (f m)))
      ∙ sum_below-same o l count _ _ (λ m u. sym (
      l.mul_comm (o.add (sum_below o n (λ c. if target c == m then w c else o.zero)) (if target n == m then w n else o.zero)) (f m)
      ∙ l.mul_add (f m) (sum_below o n (λ c. if target c == m then w c else o.zero)) (if target n == m then w n else o.zero)
      ∙ ap₂ o.add (l.mul_comm (f m) (sum_below o n (λ c. if target c == m then w c else o.zero))) (l.mul_comm (f m) (if target n == m then w n else o.zero))))

  target_below : (count c : ℕ) → 1 ≤ count → instance_of count c < count
  target_below count c some = omega (arith, min-le_right c (count - 1))

  -- a sum over copies of what their instances give is one over the instances, by their weights
  pub by_instance : (count : ℕ) (y : List A) (f : ℕ → A) → 1 ≤ count →
      sum_below o (2 ^ length y) (λ c. o.mul (eq_poly o y c) (f (instance_of count c))) ≡ sum_below o count (λ m. o.mul (instance_weight o y count m) (f m))
  by_instance count y f some = by_target (2 ^ length y) count (eq_poly o y) (instance_of count) f (λ c. target_below count c some)

  -- and so is the extension of a table of copies, each of which has its instance's table
  pub ext-instances : (j n count : ℕ) (z y : List A) (t : ℕ → List A) → 1 ≤ count → length z ≡ j → length y ≡ n → ((m : ℕ) → length (t m) ≡ 2 ^ j) →
      extension_at o o (λ x. x) (copies_table n (λ c. t (instance_of count c))) (z ++ y) ≡ sum_below o count (λ m. o.mul (instance_weight o y count m) (extension_at o o (λ x. x) (t m) z))
  ext-instances j n count z y t some sz sy s =
      ext-copies j n z y (λ c. t (instance_of count c)) sz sy (λ c. s (instance_of count c))
      ∙ ap (λ (i : ℕ). sum_below o (2 ^ i) (λ c. o.mul (eq_poly o y c) (extension_at o o (λ x. x) (t (instance_of count c)) z))) (sym sy)
      ∙ by_instance count y (λ m. extension_at o o (λ x. x) (t m) z) some

  -- the instances' weights add to 1
  pub weights_add : (count : ℕ) (y : List A) → 1 ≤ count → sum_below o count (instance_weight o y count) ≡ o.one
  weights_add count y some =
      sum_below-same o l count (instance_weight o y count) (λ m. o.mul (instance_weight o y count m) o.one) (λ m u. sym (l.mul_one (instance_weight o y count m)))
      ∙ sym (by_instance count y (λ m. o.one) some)
      ∙ sum_below-same o l (2 ^ length y) _ (eq_poly o y) (λ c u. l.mul_one (eq_poly o y c))
      ∙ sum-one o l y

  -- an instance before the last has the weight of its one copy
  pub weight-before : (count : ℕ) (y : List A) (m : ℕ) → m + 1 < count → count ≤ 2 ^ length y → instance_weight o y count m ≡ eq_poly o y m
  weight-before count y m b room =
      sum_below-same o l (2 ^ length y) _ (λ c. o.mul (if m == c then eq_poly o y m else o.zero) o.one) (λ c u. by_copy c (cases_eq m c))
      ∙ one_term (2 ^ length y) m (eq_poly o y m) (λ c. o.one) (omega arith)
      ∙ l.mul_one (eq_poly o y m)
    where
      by_copy : (c : ℕ) → (m ≡ c) ⊎ (m ≡ c → ⊥) → (if instance_of count c == m then eq_poly o y c else o.zero) ≡ o.mul (if m == c then eq_poly o y m else o.zero) o.one
      by_copy c (inl e) =
          let low : c ≤ count - 1 = omega arith in
          let is : instance_of count c ≡ m = min-eq_left low ∙ sym e in
          picked-same (instance_of count c) m (eq_poly o y c) is
          ∙ ap (eq_poly o y) (sym e)
          ∙ sym (l.mul_one (if m == c then eq_poly o y m else o.zero) ∙ picked-same m c (eq_poly o y m) e)
      by_copy c (inr n) =
          picked-other (instance_of count c) m (eq_poly o y c) (differs c n (cases_lt c (count - 1)))
          ∙ sym (ap (λ (x : A). o.mul x o.one) (picked-other m c (eq_poly o y m) n) ∙ zero_mul o l o.one)
        where
          differs : (c : ℕ) → (m ≡ c → ⊥) → (c < count - 1) ⊎ (count - 1 ≤ c) → instance_of count c ≡ m → ⊥
          differs c n (inl low) is = let low' : c ≤ count - 1 = omega arith in n (sym (sym (min-eq_left low') ∙ is))
          differs c n (inr high) is = let last : count - 1 ≡ m = sym (min-eq_right high) ∙ is in absurd (omega (arith, last, b))

  -- the last has that of its copy and of all past it
  pub weight-last : (last : ℕ) (y : List A) → last < 2 ^ length y → instance_weight o y (last + 1) last ≡ sum_below o (2 ^ length y - last) (λ e. eq_poly o y (last + e))
  weight-last last y room =
      let parts : 2 ^ length y ≡ last + (2 ^ length y - last) = omega arith in
      let f : ℕ → A = λ c. if instance_of (last + 1) c == last then eq_poly o y c else o.zero in
      ap (λ (i : ℕ). sum_below o i f) parts
      ∙ sum_below-append o l last (2 ^ length y - last) f
      ∙ ap₂ o.add
      (sum_below-same o l last f (λ c. o.zero) (λ c u. before c u) ∙ sum_below-zero o l last)
      (sum_below-same o l (2 ^ length y - last) (λ e. f (last + e)) (λ e. eq_poly o y (last + e)) (λ e u. after e))
      ∙ zero_add o l (sum_below o (2 ^ length y - last) (λ e. eq_poly o y (last + e)))
    where
      before : (c : ℕ) → c < last → (if instance_of (last + 1) c == last then eq_poly o y c else o.zero) ≡ o.zero
      before c u =
          let low : c ≤ last + 1 - 1 = omega arith in
          picked-other (instance_of (last + 1) c) last (eq_poly o y c) (λ is. let same : c ≡ last = sym (min-eq_left low) ∙ is in absurd (omega (arith, same, u)))

      after : (e : ℕ) → (if instance_of (last + 1) (last + e) == last then eq_poly o y (last + e) else o.zero) ≡ eq_poly o y (last + e)
      after e =
          let high : last + 1 - 1 ≤ last + e = omega arith in
          let same : last + 1 - 1 ≡ last = omega arith in
          picked-same (instance_of (last + 1) (last + e)) last (eq_poly o y (last + e)) (min-eq_right high ∙ same)
