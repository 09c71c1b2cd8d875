-- The extension of a layer's values is the sum of its summand over all Boolean points
use Rattle.std.proofs.Common.{◌≡◌, ℕ, zero, suc, ◌+◌, ◌^◌, List, [], ◌∷◌, ◌++◌, map, length, take, drop, get_or, All, refl, sym, ◌∙◌, ap, ap₂, arith}
use Rattle.std.proofs.lemmas.List.Elements.{All-head, All-tail}
use Rattle.field_ext.specs.Ring.{Ops, Laws}
use Rattle.field_ext.specs.Sums.{sum_below, sum_cube}
use Rattle.field_ext.specs.Multilinear.{eq_poly, extension_at, bits_of}
use Rattle.circuit_core.specs.declared.gate.Kind.{Kind}
use Rattle.circuit_core.specs.declared.gate.Kind.TheVariants.{Add, Mul}
use Rattle.circuit_core.specs.declared.gate.CircuitGate.{CircuitGate}
use Rattle.circuit_core.specs.Parts.{IsOver}
use Rattle.wiring_poly.specs.Wiring.{by_kind, sum_gates, gate_weight, summand, summand_at, gate_output, values_above}
use Rattle.field_ext.proofs.api.Solve.{var, nil, ◌⊕◌, ◌⊗◌, solve}
use Rattle.mle_table.proofs.api.SumLaws.{sum_cube-same, sum_cube-add, sum_cube-scale, sum_cube-zero}
use Rattle.mle_table.proofs.api.Points.{sum-eq, ext-bits}
use Rattle.field_ext.proofs.api.Sums.{sum_below-front}

pub take-front : {A : Type 0} (u v : List A) → take (length u) (u ++ v) ≡ u
take-front [] v = refl
take-front (x ∷ u) v = ap (λ (t : List _). x ∷ t) (take-front u v)

-- a vector that is written whole through its slice
pub written_back : {A : Type 0} (old new : List A) (n : ℕ) → length new ≡ n → take n (new ++ drop (length new) old) ≡ new
written_back old new n e = ap (λ (i : ℕ). take i (new ++ drop (length new) old)) (sym e) ∙ take-front new (drop (length new) old)

pub drop-front : {A : Type 0} (u v : List A) → drop (length u) (u ++ v) ≡ v
drop-front [] v = refl
drop-front (x ∷ u) v = drop-front u v

module _ {A : Type 0} (o : Ops A) (l : Laws A o) where
  -- the summand as one sum over the gates
  pub summand_gates : (g : ℕ) (gates : List CircuitGate) (w : ℕ → CircuitGate → A) (s p : A) →
      o.add (o.mul (sum_gates o g gates (λ k gate. by_kind gate.kind (w k gate) o.zero)) s) (o.mul (sum_gates o g gates (λ k gate. by_kind gate.kind o.zero (w k gate))) p)
      ≡ sum_gates o g gates (λ k gate. o.mul (w k gate) (by_kind gate.kind s p))
  summand_gates g [] w s p = solve o l (s ∷ p ∷ []) (nil ⊗ var 0 ⊕ nil ⊗ var 1) nil refl
  summand_gates g (gate ∷ gates) w s p =
      split gate.kind (sum_gates o (g + 1) gates (λ k gate. by_kind gate.kind (w k gate) o.zero)) (sum_gates o (g + 1) gates (λ k gate. by_kind gate.kind o.zero (w k gate)))
      ∙ ap (o.add (o.mul (w g gate) (by_kind gate.kind s p))) (summand_gates (g + 1) gates w s p)
    where
      split : (kind : Kind) (x y : A) → o.add (o.mul (o.add (by_kind kind (w g gate) o.zero) x) s) (o.mul (o.add (by_kind kind o.zero (w g gate)) y) p)
          ≡ o.add (o.mul (w g gate) (by_kind kind s p)) (o.add (o.mul x s) (o.mul y p))
      split Mul x y = solve o l (w g gate ∷ x ∷ y ∷ s ∷ p ∷ []) ((nil ⊕ var 1) ⊗ var 3 ⊕ (var 0 ⊕ var 2) ⊗ var 4) (var 0 ⊗ var 4 ⊕ (var 1 ⊗ var 3 ⊕ var 2 ⊗ var 4)) refl
      split Add x y = solve o l (w g gate ∷ x ∷ y ∷ s ∷ p ∷ []) ((var 0 ⊕ var 1) ⊗ var 3 ⊕ (nil ⊕ var 2) ⊗ var 4) (var 0 ⊗ var 3 ⊕ (var 1 ⊗ var 3 ⊕ var 2 ⊗ var 4)) refl

  -- as sum_cube-same, with the length of the points known
  pub sum_cube-sized : (n : ℕ) (f h : List A → A) → ((w : List A) → length w ≡ n → f w ≡ h w) → sum_cube o n f ≡ sum_cube o n h
  sum_cube-sized zero f h e = e [] refl
  sum_cube-sized (suc n) f h e =
      ap₂ o.add (sum_cube-sized n _ _ (λ w s. e (o.zero ∷ w) (ap (λ (k : ℕ). suc k) s))) (sum_cube-sized n _ _ (λ w s. e (o.one ∷ w) (ap (λ (k : ℕ). suc k) s)))

  -- a cube of m + n coordinates is a cube of m of cubes of n
  pub sum_cube-split : (m n k : ℕ) (f : List A → A) → m + n ≡ k → sum_cube o k f ≡ sum_cube o m (λ u. sum_cube o n (λ v. f (u ++ v)))
  sum_cube-split zero n k f e = let s : k ≡ n = omega arith in ap (λ (j : ℕ). sum_cube o j f) s
  sum_cube-split (suc m) n zero f e = absurd (omega arith)
  sum_cube-split (suc m) n (suc k) f e = ap₂ o.add (sum_cube-split m n k (λ w. f (o.zero ∷ w)) (omega arith)) (sum_cube-split m n k (λ w. f (o.one ∷ w)) (omega arith))

  pub sum_cube-gates : (n g : ℕ) (gates : List CircuitGate) (f : ℕ → CircuitGate → List A → A) → sum_cube o n (λ w. sum_gates o g gates (λ k gate. f k gate w)) ≡ sum_gates o g gates (λ k gate. sum_cube o n (f k gate))
  sum_cube-gates n g [] f = sum_cube-zero o l n
  sum_cube-gates n g (gate ∷ gates) f =
      sum_cube-add o l n (f g gate) (λ w. sum_gates o (g + 1) gates (λ k gate. f k gate w)) ∙ ap (o.add (sum_cube o n (f g gate))) (sum_cube-gates n (g + 1) gates f)

  -- one gate's share of the sum
  gate_share : (n : ℕ) (c : A) (x y : ℕ) (h : List A → List A → A) →
      sum_cube o n (λ u. sum_cube o n (λ v. o.mul (o.mul c (o.mul (eq_poly o u x) (eq_poly o v y))) (h u v))) ≡ o.mul c (h (bits_of o n x) (bits_of o n y))
  gate_share n c x y h =
      sum_cube-same o l n _ _ (λ u.
      sum_cube-same o l n _ (λ v. o.mul (o.mul c (eq_poly o u x)) (o.mul (eq_poly o v y) (h u v)))
      (λ v. solve o l (c ∷ eq_poly o u x ∷ eq_poly o v y ∷ h u v ∷ []) (var 0 ⊗ (var 1 ⊗ var 2) ⊗ var 3) (var 0 ⊗ var 1 ⊗ (var 2 ⊗ var 3)) refl)
      ∙ sum_cube-scale o l n (o.mul c (eq_poly o u x)) (λ v. o.mul (eq_poly o v y) (h u v))
      ∙ ap (o.mul (o.mul c (eq_poly o u x))) (sum-eq o l n y (h u))
      ∙ l.mul_assoc c (eq_poly o u x) (h u (bits_of o n y)))
      ∙ sum_cube-scale o l n c (λ u. o.mul (eq_poly o u x) (h u (bits_of o n y)))
      ∙ ap (o.mul c) (sum-eq o l n x (λ u. h u (bits_of o n y)))

  sum_below-alike : (n : ℕ) (f h : ℕ → A) → ((k : ℕ) → f k ≡ h k) → sum_below o n f ≡ sum_below o n h
  sum_below-alike zero f h e = refl
  sum_below-alike (suc n) f h e = ap₂ o.add (sum_below-alike n f h e) (e n)

  values_gates : (n s : ℕ) (gates : List CircuitGate) (f : CircuitGate → A) (e : ℕ → A) → length gates ≡ n →
      sum_below o n (λ g. o.mul (get_or (map f gates) g o.zero) (e (s + g))) ≡ sum_gates o s gates (λ k gate. o.mul (f gate) (e k))
  values_gates zero s [] f e u = refl
  values_gates (suc n) s [] f e u = absurd (omega arith)
  values_gates zero s (gate ∷ gates) f e u = absurd (omega arith)
  values_gates (suc n) s (gate ∷ gates) f e u =
      let z : s + 0 ≡ s = omega arith in
      sum_below-front o l n (λ g. o.mul (get_or (map f (gate ∷ gates)) g o.zero) (e (s + g)))
      ∙ ap₂ o.add (ap (λ (k : ℕ). o.mul (f gate) (e k)) z)
      (sum_below-alike n _ _ (λ g. let i : s + suc g ≡ (s + 1) + g = omega arith in ap (λ (k : ℕ). o.mul (get_or (map f gates) g o.zero) (e k)) i)
      ∙ values_gates n (s + 1) gates f e (omega arith))

  -- sums over gates that agree at each gate of the list
  pub sum_gates-all : (P : CircuitGate → Type 0) (s : ℕ) (gates : List CircuitGate) (f h : ℕ → CircuitGate → A) → All P gates → ((k : ℕ) (gate : CircuitGate) → P gate → f k gate ≡ h k gate) → sum_gates o s gates f ≡ sum_gates o s gates h
  sum_gates-all P s [] f h a e = refl
  sum_gates-all P s (gate ∷ gates) f h a e = ap₂ o.add (e s gate (All-head P gate gates a)) (sum_gates-all P (s + 1) gates f h (All-tail P gate gates a) e)

  pub layer_sum : (n : ℕ) (gates : List CircuitGate) (t z : List A) → length gates ≡ 2 ^ length z → All (IsOver (2 ^ n)) gates →
      extension_at o o (λ x. x) (values_above o gates t) z ≡ sum_cube o (n + n) (λ w. summand_at o o (λ x. x) n gates t z w)
  layer_sum n gates t z size below =
      let V : List A → A = extension_at o o (λ x. x) t in
      let P : CircuitGate → Type 0 = IsOver (2 ^ n) in
      let f : CircuitGate → A = λ gate. gate_output o gate (get_or t gate.left o.zero) (get_or t gate.right o.zero) in
      sum_below-alike (2 ^ length z) _ _ (λ g. let i : g ≡ 0 + g = omega arith in ap (λ (k : ℕ). o.mul (get_or (values_above o gates t) g o.zero) (eq_poly o z k)) i)
      ∙ values_gates (2 ^ length z) 0 gates f (eq_poly o z) size
      ∙ sum_gates-all P 0 gates _ _ below (λ k gate p.
      l.mul_comm (f gate) (eq_poly o z k)
      ∙ ap (o.mul (eq_poly o z k)) (ap₂ (gate_output o gate) (sym (ext-bits o l n gate.left t p.left)) (sym (ext-bits o l n gate.right t p.right)))
      ∙ sym (gate_share n (eq_poly o z k) gate.left gate.right (λ u v. by_kind gate.kind (o.add (V u) (V v)) (o.mul (V u) (V v)))))
      ∙ sym (sum_cube-gates n 0 gates (λ k gate u. sum_cube o n (λ v. o.mul (gate_weight o z u v k gate) (by_kind gate.kind (o.add (V u) (V v)) (o.mul (V u) (V v))))))
      ∙ sum_cube-same o l n _ _ (λ u.
      sym (sum_cube-gates n 0 gates (λ k gate v. o.mul (gate_weight o z u v k gate) (by_kind gate.kind (o.add (V u) (V v)) (o.mul (V u) (V v)))))
      ∙ sum_cube-same o l n _ _ (λ v. sym (summand_gates 0 gates (λ k gate. gate_weight o z u v k gate) (o.add (V u) (V v)) (o.mul (V u) (V v)))))
      ∙ sum_cube-sized n _ _ (λ u su. sum_cube-sized n _ _ (λ v sv. at_parts u v su))
      ∙ sym (sum_cube-split n n (n + n) (λ w. summand_at o o (λ x. x) n gates t z w) refl)
    where
      at_parts : (u v : List A) → length u ≡ n → summand o o (λ x. x) gates t z u v ≡ summand_at o o (λ x. x) n gates t z (u ++ v)
      at_parts u v s =
          ap₂ (summand o o (λ x. x) gates t z)
          (sym (take-front u v) ∙ ap (λ (k : ℕ). take k (u ++ v)) s)
          (sym (drop-front u v) ∙ ap (λ (k : ℕ). drop k (u ++ v)) s)
