-- The wiring polynomials of copies are those of one copy times the polynomial of "all three are one copy", which is a product
use Rattle.std.proofs.Common.{◌≡◌, ℕ, zero, suc, ◌+◌, ◌*◌, ◌^◌, ◌<◌, ◌≤◌, List, [], ◌∷◌, ◌++◌, map, length, get_or, drop, All, drop_of_length-le, refl, sym, ◌∙◌, ap, ap₂, arith, pow-suc}
use Rattle.std.proofs.lemmas.List.{drop_more, length-map}
use Rattle.std.proofs.lemmas.List.Elements.{All-head, All-tail}
use Rattle.field_ext.specs.Ring.{Ops, Laws}
use Rattle.field_ext.specs.Sums.{sum_below}
use Rattle.field_ext.specs.Multilinear.{eq_poly}
use Rattle.circuit_core.specs.declared.gate.Kind.{Kind}
use Rattle.circuit_core.specs.declared.gate.Kind.TheVariants.{Add, Mul}
use Rattle.circuit_core.specs.declared.gate.CircuitGate.{CircuitGate}
use Rattle.circuit_core.specs.Parts.{IsOver}
use Rattle.wiring_poly.specs.Wiring.{by_kind, sum_gates, gate_weight, wiring_add, wiring_mul}
use Rattle.field_ext.proofs.api.Rings.{zero_add, mul_zero}
use Rattle.field_ext.proofs.api.Solve.{var, nil, unit, ◌⊕◌, ◌⊗◌, minus, solve}
use Rattle.mle_table.proofs.api.SumLaws.{sum_below-same, sum_below-pairs}
use Rattle.mle_table.proofs.api.Fold.{eq-even, eq-odd}
use Rattle.batch_core.specs.Copies.{joined, moved, copies}
use Rattle.batch_core.specs.CopiedWiring.{same_copy, same_bit, same_bits}
use Rattle.batch_core.proofs.api.CopySums.{length-joined, sum_below-scale, sum_below-times, eq-copy}

module _ {A : Type 0} (o : Ops A) (l : Laws A o) where
  sum_gates-append : (s : ℕ) (gates more : List CircuitGate) (f : ℕ → CircuitGate → A) →
      sum_gates o s (gates ++ more) f ≡ o.add (sum_gates o s gates f) (sum_gates o (s + length gates) more f)
  sum_gates-append s [] more f = let e : s ≡ s + 0 = omega arith in ap (λ (i : ℕ). sum_gates o i more f) e ∙ sym (zero_add o l (sum_gates o (s + 0) more f))
  sum_gates-append s (gate ∷ gates) more f =
      let e : s + 1 + length gates ≡ s + suc (length gates) = omega arith in
      ap (o.add (f s gate)) (sum_gates-append (s + 1) gates more f ∙ ap (λ (i : ℕ). o.add (sum_gates o (s + 1) gates f) (sum_gates o i more f)) e)
      ∙ sym (l.add_assoc (f s gate) (sum_gates o (s + 1) gates f) (sum_gates o (s + suc (length gates)) more f))

  -- lists of q gates one after another
  sum_gates-joined : (m q : ℕ) (gates : ℕ → List CircuitGate) (f : ℕ → CircuitGate → A) → ((c : ℕ) → length (gates c) ≡ q) →
      sum_gates o 0 (joined m gates) f ≡ sum_below o m (λ c. sum_gates o (c * q) (gates c) f)
  sum_gates-joined zero q gates f s = refl
  sum_gates-joined (suc m) q gates f s =
      let e : 0 + length (joined m gates) ≡ m * q = omega (arith, length-joined m q gates s) in
      sum_gates-append 0 (joined m gates) (gates m) f
      ∙ ap₂ o.add (sum_gates-joined m q gates f s) (ap (λ (i : ℕ). sum_gates o i (gates m) f) e)

  -- gates that are moved on, at positions that are moved on
  sum_gates-moved : (d s by : ℕ) (gates : List CircuitGate) (f : ℕ → CircuitGate → A) →
      sum_gates o (d + s) (map (moved by) gates) f ≡ sum_gates o s gates (λ g gate. f (d + g) (moved by gate))
  sum_gates-moved d s by [] f = refl
  sum_gates-moved d s by (gate ∷ gates) f =
      let e : d + s + 1 ≡ d + (s + 1) = omega arith in
      ap (λ (i : ℕ). o.add (f (d + s) (moved by gate)) (sum_gates o i (map (moved by) gates) f)) e
      ∙ ap (o.add (f (d + s) (moved by gate))) (sum_gates-moved d (s + 1) by gates f)

  -- a factor that all gates have
  sum_gates-scaled : (P : CircuitGate → Type 0) (s n : ℕ) (gates : List CircuitGate) (c : A) (f h : ℕ → CircuitGate → A) → All P gates → s + length gates ≤ n →
      ((g : ℕ) (gate : CircuitGate) → g < n → P gate → f g gate ≡ o.mul c (h g gate)) → sum_gates o s gates f ≡ o.mul c (sum_gates o s gates h)
  sum_gates-scaled P s n [] c f h a u e = sym (mul_zero o l c)
  sum_gates-scaled P s n (gate ∷ gates) c f h a u e =
      ap₂ o.add (e s gate (omega arith) (All-head P gate gates a)) (sum_gates-scaled P (s + 1) n gates c f h (All-tail P gate gates a) (omega arith) e)
      ∙ sym (l.mul_add c (h s gate) (sum_gates o (s + 1) gates h))

  -- for a sum over the gates of one kind
  module _ (pick : Kind → A → A) (scaled : (kind : Kind) (c v : A) → pick kind (o.mul c v) ≡ o.mul c (pick kind v)) where
    abbrev share : List A → List A → List A → ℕ → CircuitGate → A
    share z b c g gate = pick gate.kind (gate_weight o z b c g gate)

    one_copy : (j k e : ℕ) (gates : List CircuitGate) (z b c y x w : List A) → length gates ≡ 2 ^ j → All (IsOver (2 ^ k)) gates → length z ≡ j → length b ≡ k → length c ≡ k →
        sum_gates o (e * 2 ^ j) (map (moved (e * 2 ^ k)) gates) (share (z ++ y) (b ++ x) (c ++ w))
        ≡ o.mul (o.mul (eq_poly o y e) (o.mul (eq_poly o x e) (eq_poly o w e))) (sum_gates o 0 gates (share z b c))
    one_copy j k e gates z b c y x w size over sz sb sc =
        let start : e * 2 ^ j ≡ e * 2 ^ j + 0 = omega arith in
        ap (λ (i : ℕ). sum_gates o i (map (moved (e * 2 ^ k)) gates) (share (z ++ y) (b ++ x) (c ++ w))) start
        ∙ sum_gates-moved (e * 2 ^ j) 0 (e * 2 ^ k) gates (share (z ++ y) (b ++ x) (c ++ w))
        ∙ sum_gates-scaled (IsOver (2 ^ k)) 0 (2 ^ j) gates (o.mul (eq_poly o y e) (o.mul (eq_poly o x e) (eq_poly o w e))) _ (share z b c) over (omega arith) (λ g gate u p.
        ap (pick gate.kind)
        (ap₂ o.mul (eq-copy o l z y j e g sz u) (ap₂ o.mul (eq-copy o l b x k e gate.left sb p.left) (eq-copy o l c w k e gate.right sc p.right))
        ∙ solve o l (eq_poly o z g ∷ eq_poly o y e ∷ eq_poly o b gate.left ∷ eq_poly o x e ∷ eq_poly o c gate.right ∷ eq_poly o w e ∷ [])
        (var 0 ⊗ var 1 ⊗ (var 2 ⊗ var 3 ⊗ (var 4 ⊗ var 5))) (var 1 ⊗ (var 3 ⊗ var 5) ⊗ (var 0 ⊗ (var 2 ⊗ var 4))) refl)
        ∙ scaled gate.kind (o.mul (eq_poly o y e) (o.mul (eq_poly o x e) (eq_poly o w e))) (gate_weight o z b c g gate))

    all_copies : (j k n : ℕ) (gates : List CircuitGate) (z b c y x w : List A) → length gates ≡ 2 ^ j → All (IsOver (2 ^ k)) gates → length z ≡ j → length b ≡ k → length c ≡ k → length y ≡ n →
        sum_gates o 0 (copies n k gates) (share (z ++ y) (b ++ x) (c ++ w)) ≡ o.mul (same_copy o y x w) (sum_gates o 0 gates (share z b c))
    all_copies j k n gates z b c y x w size over sz sb sc sy =
        sum_gates-joined (2 ^ n) (2 ^ j) (λ e. map (moved (e * 2 ^ k)) gates) (share (z ++ y) (b ++ x) (c ++ w)) (λ e. length-map gates (moved (e * 2 ^ k)) ∙ size)
        ∙ ap (λ (i : ℕ). sum_below o (2 ^ i) (λ e. sum_gates o (e * 2 ^ j) (map (moved (e * 2 ^ k)) gates) (share (z ++ y) (b ++ x) (c ++ w)))) (sym sy)
        ∙ sum_below-same o l (2 ^ length y) _ _ (λ e u. one_copy j k e gates z b c y x w size over sz sb sc)
        ∙ sum_below-times o l (2 ^ length y) (λ e. o.mul (eq_poly o y e) (o.mul (eq_poly o x e) (eq_poly o w e))) (sum_gates o 0 gates (share z b c))

  add_scaled : (kind : Kind) (c v : A) → by_kind kind (o.mul c v) o.zero ≡ o.mul c (by_kind kind v o.zero)
  add_scaled Add c v = refl
  add_scaled Mul c v = sym (mul_zero o l c)

  mul_scaled : (kind : Kind) (c v : A) → by_kind kind o.zero (o.mul c v) ≡ o.mul c (by_kind kind o.zero v)
  mul_scaled Add c v = sym (mul_zero o l c)
  mul_scaled Mul c v = refl

  pub copied_add : (j k n : ℕ) (gates : List CircuitGate) (z b c y x w : List A) → length gates ≡ 2 ^ j → All (IsOver (2 ^ k)) gates → length z ≡ j → length b ≡ k → length c ≡ k → length y ≡ n →
      wiring_add o (copies n k gates) (z ++ y) (b ++ x) (c ++ w) ≡ o.mul (same_copy o y x w) (wiring_add o gates z b c)
  copied_add = all_copies (λ kind v. by_kind kind v o.zero) add_scaled

  pub copied_mul : (j k n : ℕ) (gates : List CircuitGate) (z b c y x w : List A) → length gates ≡ 2 ^ j → All (IsOver (2 ^ k)) gates → length z ≡ j → length b ≡ k → length c ≡ k → length y ≡ n →
      wiring_mul o (copies n k gates) (z ++ y) (b ++ x) (c ++ w) ≡ o.mul (same_copy o y x w) (wiring_mul o gates z b c)
  copied_mul = all_copies (λ kind v. by_kind kind o.zero v) mul_scaled

  -- "all three are one copy" is a product over the coordinates
  pub same-product : (y x w : List A) → length x ≡ length y → length w ≡ length y → same_copy o y x w ≡ same_bits o y x w
  same-product [] x w sx sw = first x w (omega arith) (omega arith)
    where
      first : (x w : List A) → length x ≡ 0 → length w ≡ 0 → o.add o.zero (o.mul o.one (o.mul (eq_poly o x 0) (eq_poly o w 0))) ≡ o.one
      first [] [] sx sw = solve o l [] (nil ⊕ unit ⊗ (unit ⊗ unit)) unit refl
      first [] (w ∷ ws) sx sw = absurd (omega arith)
      first (x ∷ xs) w sx sw = absurd (omega arith)
  same-product (y ∷ ys) [] w sx sw = absurd (omega arith)
  same-product (y ∷ ys) (x ∷ xs) [] sx sw = absurd (omega arith)
  same-product (y ∷ ys) (x ∷ xs) (w ∷ ws) sx sw =
      let factor : A = same_bit o y x w in
      ap (λ (n : ℕ). sum_below o n (λ e. o.mul (eq_poly o (y ∷ ys) e) (o.mul (eq_poly o (x ∷ xs) e) (eq_poly o (w ∷ ws) e)))) (pow-suc 2 (length ys))
      ∙ sum_below-pairs o l (2 ^ length ys) (λ e. o.mul (eq_poly o (y ∷ ys) e) (o.mul (eq_poly o (x ∷ xs) e) (eq_poly o (w ∷ ws) e)))
      ∙ sum_below-same o l (2 ^ length ys) _ (λ e. o.mul factor (o.mul (eq_poly o ys e) (o.mul (eq_poly o xs e) (eq_poly o ws e)))) (λ e u.
      ap₂ o.add
      (ap₂ o.mul (eq-even o l y ys e) (ap₂ o.mul (eq-even o l x xs e) (eq-even o l w ws e)))
      (ap₂ o.mul (eq-odd o l y ys e) (ap₂ o.mul (eq-odd o l x xs e) (eq-odd o l w ws e)))
      ∙ solve o l (y ∷ x ∷ w ∷ eq_poly o ys e ∷ eq_poly o xs e ∷ eq_poly o ws e ∷ [])
      ((unit ⊕ minus (var 0)) ⊗ var 3 ⊗ ((unit ⊕ minus (var 1)) ⊗ var 4 ⊗ ((unit ⊕ minus (var 2)) ⊗ var 5)) ⊕ var 0 ⊗ var 3 ⊗ (var 1 ⊗ var 4 ⊗ (var 2 ⊗ var 5)))
      ((var 0 ⊗ (var 1 ⊗ var 2) ⊕ (unit ⊕ minus (var 0)) ⊗ ((unit ⊕ minus (var 1)) ⊗ (unit ⊕ minus (var 2)))) ⊗ (var 3 ⊗ (var 4 ⊗ var 5))) refl)
      ∙ sum_below-scale o l (2 ^ length ys) factor (λ e. o.mul (eq_poly o ys e) (o.mul (eq_poly o xs e) (eq_poly o ws e)))
      ∙ ap (o.mul factor) (same-product ys xs ws (omega arith) (omega arith))

  -- the product, one more coordinate at a time
  pub same_more : (ys xs ws : List A) (i : ℕ) (y x w p q all : A) → i < length ys → length xs ≡ length ys → length ws ≡ length ys → y ≡ get_or ys i y → x ≡ get_or xs i x → w ≡ get_or ws i w →
      q ≡ o.mul p (same_bit o y x w) → o.mul p (same_bits o (drop i ys) (drop i xs) (drop i ws)) ≡ all → o.mul q (same_bits o (drop (i + 1) ys) (drop (i + 1) xs) (drop (i + 1) ws)) ≡ all
  same_more ys xs ws i y x w p q all u sx sw ey ex ew e h =
      let ux : i < length xs = omega arith in
      let uw : i < length ws = omega arith in
      ap (λ (t : A). o.mul t (same_bits o (drop (i + 1) ys) (drop (i + 1) xs) (drop (i + 1) ws))) e
      ∙ l.mul_assoc p (same_bit o y x w) (same_bits o (drop (i + 1) ys) (drop (i + 1) xs) (drop (i + 1) ws))
      ∙ ap (o.mul p) (sym (
      ap (λ (t : List A). same_bits o t (drop i xs) (drop i ws)) (drop_more ys i y u ∙ ap (λ (t : A). t ∷ drop (i + 1) ys) (sym ey))
      ∙ ap (λ (t : List A). same_bits o (y ∷ drop (i + 1) ys) t (drop i ws)) (drop_more xs i x ux ∙ ap (λ (t : A). t ∷ drop (i + 1) xs) (sym ex))
      ∙ ap (same_bits o (y ∷ drop (i + 1) ys) (x ∷ drop (i + 1) xs)) (drop_more ws i w uw ∙ ap (λ (t : A). t ∷ drop (i + 1) ws) (sym ew))))
      ∙ h

  pub same_all : (ys xs ws : List A) (i : ℕ) (p all : A) → length ys ≤ i → o.mul p (same_bits o (drop i ys) (drop i xs) (drop i ws)) ≡ all → p ≡ all
  same_all ys xs ws i p all u h = sym (l.mul_one p) ∙ sym (ap (λ (t : List A). o.mul p (same_bits o t (drop i xs) (drop i ws))) (drop_of_length-le ys u)) ∙ h
