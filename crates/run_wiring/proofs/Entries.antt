-- Tables of entries, column by column
use Rattle.std.proofs.Common.{◌≡◌, ◌≢◌, ℕ, zero, suc, ◌+◌, ◌-◌, ◌*◌, ◌/◌, ◌%◌, ◌^◌, ◌<◌, ◌≤◌, inl, inr, List, [], ◌∷◌, length, get_or, set, replicate, drop, if◌then◌else◌, ◌==◌, refl, sym, ◌∙◌, ap, ap₂, arith, get_or-set_same, get_or-set_other, pow-suc}
use Rattle.std.proofs.lemmas.Bool.{cases_eq}
use Rattle.field_ext.specs.Field.{K, k_ops, zero_k, one_k, add_k, mul_k, neg_k}
use Rattle.field_ext.proofs.api.KLaws.{k_laws}
use Rattle.field_ext.specs.Ring.{Ops, Laws}
use Rattle.field_ext.specs.Sums.{sum_below}
use Rattle.field_ext.proofs.api.Solve.{var, nil, unit, ◌⊕◌, ◌⊗◌, solve}
use Rattle.field_ext.proofs.api.Rings.{zero_add, zero_mul, mul_zero}
use Rattle.mle_table.proofs.api.EqualitySteps.{pow_up}
use Rattle.std.proofs.lemmas.List.{length-replicate}
use Rattle.mle_table.proofs.api.SumLaws.{sum_below-same}
use Rattle.wiring_poly.proofs.api.Sums.{sum_below-append, sum_below-zero}
use Rattle.run_wiring.specs.Runs.{IsWithin}
use Rattle.run_wiring.specs.declared.run.Run.{Run}
use Rattle.run_wiring.specs.declared.carries.Carries.{Carries}
use Rattle.run_wiring.specs.declared.column.Column.{Column}
use Rattle.run_wiring.specs.Entries.{factor, run_sum, share, carries_of, AreSmall, carried, weight, weighed, before_column}
use Rattle.run_wiring.proofs.Halving.{digit_weight, run_halved}
use Rattle.run_wiring.proofs.Padding.{padded, padded-next, eq-padded}

-- what is left to sum after the low digits, where these leave such carries
abbrev pub left_over : ℕ → List K → List K → List K → ℕ → ℕ → ℕ → ℕ → ℕ → ℕ → Carries → K
left_over m z b c first left lstep right rstep last from =
    run_sum k_ops (padded k_ops k_laws m z) (padded k_ops k_laws m b) (padded k_ops k_laws m c) (first + from.position) (left + from.left) lstep (right + from.right) rstep (last + from.within)

module _ {A : Type 0} (o : Ops A) (l : Laws A o) where
  -- a sum where one summand grows
  pub sum-grown : (n : ℕ) (f h : ℕ → A) (k : ℕ) (x : A) → k < n → h k ≡ o.add (f k) x → ((i : ℕ) → i ≢ k → h i ≡ f i) → sum_below o n h ≡ o.add (sum_below o n f) x
  sum-grown zero f h k x u e s = absurd (omega arith)
  sum-grown (suc n) f h k x u e s =
      elim (cases_eq k n) [
        | inl same ↦
            ap₂ o.add (sum_below-same o l n h f (λ i v. let d : i ≢ k = omega arith in s i d)) (ap h (sym same) ∙ e ∙ ap (λ (i : ℕ). o.add (f i) x) same)
            ∙ sym (l.add_assoc (sum_below o n f) (f n) x)
        | inr d ↦
            let other : n ≢ k = λ e. d (sym e) in
            ap₂ o.add (sum-grown n f h k x (omega arith) e s) (s n other)
            ∙ solve o l (sum_below o n f ∷ x ∷ f n ∷ []) (var 0 ⊕ var 1 ⊕ var 2) (var 0 ⊕ var 2 ⊕ var 1) refl
      ]

pub same_carries : (c d : Carries) → c.position ≡ d.position → c.left ≡ d.left → c.right ≡ d.right → c.within ≡ d.within → c ≡ d
same_carries c d p l r w = λ i. record { position = p i; left = l i; right = r i; within = w i }

-- the entry of small carries
pub entry_back : (c : Carries) → AreSmall c → carries_of (((c.within * 2 + c.position) * 3 + c.left) * 3 + c.right) ≡ c
entry_back c s =
    let a = s.position in let b = s.left in let d = s.right in let e = s.within in
    same_carries (carries_of (((c.within * 2 + c.position) * 3 + c.left) * 3 + c.right)) c (omega (arith, a, b, d, e)) (omega (arith, a, b, d, e)) (omega (arith, a, b, d, e)) (omega (arith, a, b, d, e))

-- one transition
pub passed_on : (table : List K) (entry : ℕ) (x w : K) (to : Carries) (new : K) → length table ≡ 36 → entry < 36 → carries_of entry ≡ to → new ≡ add_k (get_or table entry zero_k) (mul_k x w) →
    (of : Carries → K) → weighed (set table entry new) of ≡ add_k (weighed table of) (mul_k x (mul_k w (of to)))
unfolding weighed
passed_on table entry x w to new size u is e of =
    let inside : entry < length table = omega arith in
    sum-grown k_ops k_laws 36 (λ i. mul_k (get_or table i zero_k) (of (carries_of i))) (λ i. mul_k (get_or (set table entry new) i zero_k) (of (carries_of i))) entry (mul_k x (mul_k w (of to))) u
    (ap₂ mul_k (get_or-set_same table entry new zero_k inside ∙ e) (ap of is)
    ∙ solve k_ops k_laws (get_or table entry zero_k ∷ x ∷ w ∷ of to ∷ []) ((var 0 ⊕ var 1 ⊗ var 2) ⊗ var 3) (var 0 ⊗ var 3 ⊕ var 1 ⊗ (var 2 ⊗ var 3)) refl
    ∙ ap (λ (y : K). add_k (mul_k (get_or table entry zero_k) y) (mul_k x (mul_k w (of to)))) (sym (ap of is)))
    (λ i d. ap (λ (y : K). mul_k y (of (carries_of i))) (get_or-set_other table entry i new zero_k d))

-- a table of zeros
pub nothing_weighed : (table : List K) → ((i : ℕ) → get_or table i zero_k ≡ zero_k) → (of : Carries → K) → weighed table of ≡ zero_k
unfolding weighed
nothing_weighed table zeros of =
    sum_below-same k_ops k_laws 36 _ (λ i. zero_k) (λ i u. ap (λ (y : K). mul_k y (of (carries_of i))) (zeros i) ∙ zero_mul k_ops k_laws (of (carries_of i)))
    ∙ sum_below-zero k_ops k_laws 36

-- a value of 0 passes nothing on
pub nothing_passed : (value x s : K) → value ≡ zero_k → s ≡ add_k s (mul_k value x)
nothing_passed value x s e =
    solve k_ops k_laws (s ∷ x ∷ []) (var 0) (var 0 ⊕ nil ⊗ var 1) refl ∙ ap (λ (v : K). add_k s (mul_k v x)) (sym e)

-- both transitions of an entry
pub both_passed : (column : Column) (of : Carries → K) (from carries : Carries) (x s s' s'' : K) → from ≡ carries →
    s' ≡ add_k s (mul_k x (mul_k (weight column from 0) (of (carried column from 0)))) →
    s'' ≡ add_k s' (mul_k x (mul_k (weight column from 1) (of (carried column from 1)))) →
    s'' ≡ add_k s (mul_k x (before_column column of carries))
both_passed column of from carries x s s' s'' is h' h'' =
    h'' ∙ ap (λ (y : K). add_k y (mul_k x (mul_k (weight column from 1) (of (carried column from 1))))) h'
    ∙ solve k_ops k_laws (s ∷ x ∷ mul_k (weight column from 0) (of (carried column from 0)) ∷ mul_k (weight column from 1) (of (carried column from 1)) ∷ [])
    (var 0 ⊕ var 1 ⊗ var 2 ⊕ var 1 ⊗ var 3) (var 0 ⊕ var 1 ⊗ (var 2 ⊕ var 3)) refl
    ∙ ap (λ (d : Carries). add_k s (mul_k x (before_column column of d))) is

-- one more entry
pub entry_added : (table : List K) (column : Column) (of : Carries → K) (i : ℕ) (x s s' : K) → x ≡ get_or table i zero_k →
    s ≡ sum_below k_ops i (λ i. mul_k (get_or table i zero_k) (before_column column of (carries_of i))) →
    s' ≡ add_k s (mul_k x (before_column column of (carries_of i))) →
    s' ≡ sum_below k_ops (i + 1) (λ i. mul_k (get_or table i zero_k) (before_column column of (carries_of i)))
entry_added table column of i x s s' ex h h' =
    let f : ℕ → K = λ i. mul_k (get_or table i zero_k) (before_column column of (carries_of i)) in
    let one : suc i ≡ i + 1 = omega arith in
    h'
    ∙ ap₂ (λ (y v : K). add_k y (mul_k v (before_column column of (carries_of i)))) h ex
    ∙ ap (λ (k : ℕ). sum_below k_ops k f) one

pub weighed_before : (table next : List K) (column : Column) (i : ℕ) → 36 ≤ i → i ≤ 36 →
    ((of : Carries → K) → weighed next of ≡ sum_below k_ops i (λ i. mul_k (get_or table i zero_k) (before_column column of (carries_of i)))) →
    (of : Carries → K) → weighed next of ≡ weighed table (before_column column of)
unfolding weighed
weighed_before table next column i u v h of =
    let all : i ≡ 36 = omega arith in
    h of ∙ ap (λ (k : ℕ). sum_below k_ops k (λ i. mul_k (get_or table i zero_k) (before_column column of (carries_of i)))) all

weighed_same : (table : List K) (f h : Carries → K) → ((c : Carries) → f c ≡ h c) → weighed table f ≡ weighed table h
unfolding weighed
weighed_same table f h e = sum_below-same k_ops k_laws 36 _ _ (λ i u. ap (mul_k (get_or table i zero_k)) (e (carries_of i)))

-- a digit of a sum, and what it carries over
low_digit : (x p d : ℕ) → (x + p + d) % 2 ≡ (x % 2 + p + d) % 2
low_digit x p d = omega arith

carry_on : (x p d : ℕ) → (x + p + d) / 2 ≡ x / 2 + (x % 2 + p + d) / 2
carry_on x p d = omega arith

more_left : (last w : ℕ) → (last + w + 1) / 2 ≡ last / 2 + (last % 2 + w + (1 - 0)) / 2
more_left last w = omega arith

none_left : (last w : ℕ) → (last + w) / 2 ≡ last / 2 + (last % 2 + w + (1 - 1)) / 2
none_left last w = omega arith

factor_digit : (u : K) (x p d : ℕ) → factor k_ops u (x + p + d) ≡ factor k_ops u (x % 2 + p + d)
factor_digit u x p d = ap (λ (i : ℕ). if i == 1 then u else add_k one_k (neg_k u)) (low_digit x p d)

module _ (z b c : List K) (j m n : ℕ) (next : m ≡ suc n) (first left lstep right rstep last : ℕ) where
  -- the column of these numbers
  abbrev pub column_at : Column
  column_at = record {
    position = first % 2;
    left = left % 2;
    lstep = lstep;
    right = right % 2;
    rstep = rstep;
    last = last % 2;
    z = get_or z j zero_k;
    b = get_or b j zero_k;
    c = get_or c j zero_k;
  }

  -- what is left, one column before
  left_before : (from : Carries) →
      before_column column_at (left_over n (drop (j + 1) z) (drop (j + 1) b) (drop (j + 1) c) (first / 2) (left / 2) lstep (right / 2) rstep (last / 2)) from
      ≡ left_over m (drop j z) (drop j b) (drop j c) first left lstep right rstep last from
  left_before from =
      let P : List K → List K = padded k_ops k_laws n in
      let z' : List K = P (drop (j + 1) z) in
      let b' : List K = P (drop (j + 1) b) in
      let c' : List K = P (drop (j + 1) c) in
      let w : ℕ → K = λ d. digit_weight k_ops k_laws (get_or z j zero_k) (get_or b j zero_k) (get_or c j zero_k) (first + from.position) (left + from.left) lstep (right + from.right) rstep d in
      let same : (d : ℕ) → w d ≡ weight column_at from d =
      λ d i. mul_k (factor_digit (get_or z j zero_k) first from.position d i) (mul_k (factor_digit (get_or b j zero_k) left from.left (d * lstep) i) (factor_digit (get_or c j zero_k) right from.right (d * rstep) i)) in
      sym ((λ i. run_sum k_ops (padded-next k_ops k_laws z j m n next i) (padded-next k_ops k_laws b j m n next i) (padded-next k_ops k_laws c j m n next i) (first + from.position) (left + from.left) lstep (right + from.right) rstep (last + from.within))
      ∙ run_halved k_ops k_laws (get_or z j zero_k) (get_or b j zero_k) (get_or c j zero_k) z' b' c' (first + from.position) (left + from.left) lstep (right + from.right) rstep (last + from.within)
      ∙ (λ i. add_k
      (mul_k (same 0 i) (run_sum k_ops z' b' c' (carry_on first from.position 0 i) (carry_on left from.left (0 * lstep) i) lstep (carry_on right from.right (0 * rstep) i) rstep (more_left last from.within i)))
      (mul_k (same 1 i) (run_sum k_ops z' b' c' (carry_on first from.position 1 i) (carry_on left from.left (1 * lstep) i) lstep (carry_on right from.right (1 * rstep) i) rstep (none_left last from.within i)))))

  -- a column more
  pub column_added : (table table' : List K) (column : Column) → column ≡ column_at → ((of : Carries → K) → weighed table' of ≡ weighed table (before_column column of)) → (x : K) →
      weighed table (left_over m (drop j z) (drop j b) (drop j c) first left lstep right rstep last) ≡ x →
      weighed table' (left_over n (drop (j + 1) z) (drop (j + 1) b) (drop (j + 1) c) (first / 2) (left / 2) lstep (right / 2) rstep (last / 2)) ≡ x
  column_added table table' column is sums x h =
      let of : Carries → K = left_over n (drop (j + 1) z) (drop (j + 1) b) (drop (j + 1) c) (first / 2) (left / 2) lstep (right / 2) rstep (last / 2) in
      sums of ∙ ap (λ (t : Column). weighed table (before_column t of)) is ∙ weighed_same table _ _ left_before ∙ h

-- before the first column
pub table_begun : (table : List K) (run : Run) (z b c : List K) (m : ℕ) → length table ≡ 36 → ((i : ℕ) → get_or table i zero_k ≡ zero_k) → length z ≤ m → length b ≤ m → length c ≡ length b →
    IsWithin (length z) (length b) run →
    weighed (set table 18 one_k) (left_over m (drop 0 z) (drop 0 b) (drop 0 c) run.first run.left run.lstep run.right run.rstep (run.count - 1)) ≡ share z b c run
table_begun table run z b c m size zeros u v e within =
    let of : Carries → K = left_over m (drop 0 z) (drop 0 b) (drop 0 c) run.first run.left run.lstep run.right run.rstep (run.count - 1) in
    let first : Carries = record { position = 0; left = 0; right = 0; within = 1 } in
    let some = within.some in
    let all : run.count - 1 + 1 ≡ run.count = omega arith in
    let long : length c ≤ m = omega arith in
    let a : run.first + 0 ≡ run.first = omega arith in
    let d : run.left + 0 ≡ run.left = omega arith in
    let g : run.right + 0 ≡ run.right = omega arith in
    passed_on table 18 one_k one_k first one_k size (omega arith) refl
    (sym (ap (λ (y : K). add_k y (mul_k one_k one_k)) (zeros 18) ∙ solve k_ops k_laws [] (nil ⊕ unit ⊗ unit) unit refl)) of
    ∙ ap (λ (y : K). add_k y (mul_k one_k (mul_k one_k (of first)))) (nothing_weighed table zeros of)
    ∙ solve k_ops k_laws (of first ∷ []) (nil ⊕ unit ⊗ (unit ⊗ var 0)) (var 0) refl
    ∙ (λ i. run_sum k_ops (padded k_ops k_laws m z) (padded k_ops k_laws m b) (padded k_ops k_laws m c) (a i) (d i) run.lstep (g i) run.rstep (all i))
    ∙ sum_below-same k_ops k_laws run.count _ _ (λ t w.
    let p : run.first + t < 2 ^ length z = omega (arith, within.positions, w) in
    let q : run.left + t * run.lstep < 2 ^ length b = within.left t w in
    let r : run.right + t * run.rstep < 2 ^ length c = omega (arith, within.right t w, ap (λ (n : ℕ). 2 ^ n) e) in
    ap₂ mul_k (eq-padded k_ops k_laws m z (run.first + t) u p) (ap₂ mul_k (eq-padded k_ops k_laws m b (run.left + t * run.lstep) v q) (eq-padded k_ops k_laws m c (run.right + t * run.rstep) long r)))

-- after the last
pub table_ended : (table : List K) (n last : ℕ) (z b c : List K) (first left lstep right rstep : ℕ) → n ≡ 0 → last < 2 ^ n →
    weighed table (left_over n z b c first left lstep right rstep last) ≡ sum_below k_ops 18 (λ i. get_or table (18 + i) zero_k)
unfolding weighed
table_ended table n last z b c first left lstep right rstep e u =
    let none : last ≡ 0 = omega (arith, u, ap (λ (k : ℕ). 2 ^ k) e) in
    let of : Carries → K = left_over 0 z b c first left lstep right rstep 0 in
    (λ i. sum_below k_ops 36 (λ k. mul_k (get_or table k zero_k) (left_over (e i) z b c first left lstep right rstep (none i) (carries_of k))))
    ∙ sum_below-append k_ops k_laws 18 18 (λ k. mul_k (get_or table k zero_k) (of (carries_of k)))
    ∙ ap₂ add_k
    (sum_below-same k_ops k_laws 18 _ (λ k. zero_k)
    (λ k v. let w : 0 + k / 18 ≡ 0 = omega arith in ap (λ (y : ℕ). mul_k (get_or table k zero_k) (sum_below k_ops y (λ t. mul_k one_k (mul_k one_k one_k)))) w ∙ mul_zero k_ops k_laws (get_or table k zero_k))
    ∙ sum_below-zero k_ops k_laws 18)
    (sum_below-same k_ops k_laws 18 _ (λ k. get_or table (18 + k) zero_k)
    (λ k v. let w : 0 + (18 + k) / 18 ≡ 1 = omega arith in ap (λ (y : ℕ). mul_k (get_or table (18 + k) zero_k) (sum_below k_ops y (λ t. mul_k one_k (mul_k one_k one_k)))) w
    ∙ solve k_ops k_laws (get_or table (18 + k) zero_k ∷ []) (var 0 ⊗ (nil ⊕ unit ⊗ (unit ⊗ unit))) (var 0) refl))
    ∙ zero_add k_ops k_laws (sum_below k_ops 18 (λ i. get_or table (18 + i) zero_k))

all_zero : (n : ℕ) (x : K) → x ≡ zero_k → (i : ℕ) → get_or (replicate n x) i zero_k ≡ zero_k
all_zero zero x e i = refl
all_zero (suc n) x e zero = e
all_zero (suc n) x e (suc i) = all_zero n x e i

pub begun : (run : Run) (z b c : List K) (m : ℕ) (x y : K) → x ≡ zero_k → y ≡ one_k → length z ≤ m → length b ≤ m → length c ≡ length b → IsWithin (length z) (length b) run →
    weighed (set (replicate 36 x) 18 y) (left_over m (drop 0 z) (drop 0 b) (drop 0 c) run.first run.left run.lstep run.right run.rstep (run.count - 1)) ≡ share z b c run
begun run z b c m x y ex ey u v e within =
    let of : Carries → K = left_over m (drop 0 z) (drop 0 b) (drop 0 c) run.first run.left run.lstep run.right run.rstep (run.count - 1) in
    ap (λ (t : K). weighed (set (replicate 36 x) 18 t) of) ey ∙ table_begun (replicate 36 x) run z b c m (length-replicate 36 x) (all_zero 36 x ex) u v e within

-- the greatest place is below the power of two
pub last_fits : (run : Run) (k j m : ℕ) → k ≤ m → IsWithin k j run → run.count - 1 < 2 ^ m
last_fits run k j m u within = let some = within.some in let capacity = within.positions in let up = pow_up k m u in omega (arith, some, capacity, up)

pub halved_fits : (last m n : ℕ) → m ≡ suc n → last < 2 ^ m → last / 2 < 2 ^ n
halved_fits last m n e u = omega (arith, u, ap (λ (k : ℕ). 2 ^ k) e, pow-suc 2 n)
