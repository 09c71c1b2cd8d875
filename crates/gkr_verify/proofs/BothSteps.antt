-- Sums with weights at two points, one more position at a time
use Rattle.std.proofs.Common.{◌≡◌, ℕ, zero, suc, ◌+◌, ◌*◌, ◌^◌, ◌<◌, List, [], ◌∷◌, length, drop, get_or, refl, sym, ◌∙◌, ap, ap₂, subst, arith, ◌≤◌}
use Rattle.field_ext.specs.Ring.{Ops, Laws}
use Rattle.field_ext.specs.Field.{K, k_ops, add_k, mul_k, zero_k}
use Rattle.field_ext.specs.Sums.{sum_below}
use Rattle.field_ext.specs.Multilinear.{eq_poly}
use Rattle.field_ext.proofs.api.Solve.{var, nil, ◌⊕◌, ◌⊗◌, solve}
use Rattle.mle_table.proofs.api.EqualitySteps.{pow_up}
use Rattle.circuit_core.specs.declared.gate.Kind.{Kind}
use Rattle.circuit_core.specs.declared.gate.Kind.TheVariants.{Add, Mul}
use Rattle.circuit_core.specs.declared.gate.CircuitGate.{CircuitGate}
use Rattle.wiring_poly.specs.Wiring.{by_kind, sum_gates}
use Rattle.wiring_poly.proofs.api.GateSteps.{summed_none, summed_more, summed_all}
use Rattle.field_ext.proofs.api.KLaws.{k_laws}

-- positions that fit in 20 coordinates have few blocks
pub few_blocks : (block blocks size n : ℕ) → block < blocks → blocks * 1024 < size + 1024 → size ≤ 2 ^ n → n ≤ 20 → block < 1024
few_blocks block blocks size n u bound fits few = let most : 2 ^ n ≤ 1048576 = pow_up n 20 few in omega (arith, u, bound, fits, most)

module _ {A : Type 0} (o : Ops A) (l : Laws A o) where
  -- the factors h and k of a block at both points, with the weight a of the second, at shares of 0
  pub factors_none : (h a k : A) → o.add (o.mul h o.zero) (o.mul a (o.mul k o.zero)) ≡ o.zero
  factors_none h a k = solve o l (h ∷ a ∷ k ∷ []) (var 0 ⊗ nil ⊕ var 1 ⊗ (var 2 ⊗ nil)) nil refl

  -- at a value's shares
  pub factors_value : (h a k x y v : A) → o.add (o.mul h (o.mul x v)) (o.mul a (o.mul k (o.mul y v))) ≡ o.mul (o.add (o.mul x h) (o.mul a (o.mul y k))) v
  factors_value h a k x y v =
      solve o l (h ∷ a ∷ k ∷ x ∷ y ∷ v ∷ [])
      (var 0 ⊗ (var 3 ⊗ var 5) ⊕ var 1 ⊗ (var 2 ⊗ (var 4 ⊗ var 5))) ((var 3 ⊗ var 0 ⊕ var 1 ⊗ (var 4 ⊗ var 2)) ⊗ var 5) refl

  -- and at shares that are added
  pub factors_more : (h a k x y p q : A) →
      o.add (o.mul h (o.add x p)) (o.mul a (o.mul k (o.add y q))) ≡ o.add (o.add (o.mul h x) (o.mul a (o.mul k y))) (o.add (o.mul h p) (o.mul a (o.mul k q)))
  factors_more h a k x y p q =
      solve o l (h ∷ a ∷ k ∷ x ∷ y ∷ p ∷ q ∷ [])
      (var 0 ⊗ (var 3 ⊕ var 5) ⊕ var 1 ⊗ (var 2 ⊗ (var 4 ⊕ var 6)))
      (var 0 ⊗ var 3 ⊕ var 1 ⊗ (var 2 ⊗ var 4) ⊕ (var 0 ⊗ var 5 ⊕ var 1 ⊗ (var 2 ⊗ var 6))) refl

  -- a sum of weighted terms is the weighted sum, over the numbers below n
  pub sum_below-both : (n : ℕ) (t x y : ℕ → A) (a : A) →
      sum_below o n (λ g. o.mul (t g) (o.add (x g) (o.mul a (y g)))) ≡ o.add (sum_below o n (λ g. o.mul (t g) (x g))) (o.mul a (sum_below o n (λ g. o.mul (t g) (y g))))
  sum_below-both zero t x y a = solve o l (a ∷ []) nil (nil ⊕ var 0 ⊗ nil) refl
  sum_below-both (suc n) t x y a =
      let s : A = sum_below o n (λ g. o.mul (t g) (x g)) in
      let r : A = sum_below o n (λ g. o.mul (t g) (y g)) in
      ap (λ (p : A). o.add p (o.mul (t n) (o.add (x n) (o.mul a (y n))))) (sum_below-both n t x y a)
      ∙ solve o l (s ∷ a ∷ r ∷ t n ∷ x n ∷ y n ∷ [])
      (var 0 ⊕ var 1 ⊗ var 2 ⊕ var 3 ⊗ (var 4 ⊕ var 1 ⊗ var 5)) (var 0 ⊕ var 3 ⊗ var 4 ⊕ var 1 ⊗ (var 2 ⊕ var 3 ⊗ var 5)) refl

  -- over the add gates and over the multiply gates
  term-add : (kind : Kind) (x y a v : A) →
      by_kind kind (o.mul (o.add x (o.mul a y)) v) o.zero ≡ o.add (by_kind kind (o.mul x v) o.zero) (o.mul a (by_kind kind (o.mul y v) o.zero))
  term-add Add x y a v = solve o l (x ∷ y ∷ a ∷ v ∷ []) ((var 0 ⊕ var 2 ⊗ var 1) ⊗ var 3) (var 0 ⊗ var 3 ⊕ var 2 ⊗ (var 1 ⊗ var 3)) refl
  term-add Mul x y a v = solve o l (a ∷ []) nil (nil ⊕ var 0 ⊗ nil) refl

  term-mul : (kind : Kind) (x y a v : A) →
      by_kind kind o.zero (o.mul (o.add x (o.mul a y)) v) ≡ o.add (by_kind kind o.zero (o.mul x v)) (o.mul a (by_kind kind o.zero (o.mul y v)))
  term-mul Add x y a v = solve o l (a ∷ []) nil (nil ⊕ var 0 ⊗ nil) refl
  term-mul Mul x y a v = solve o l (x ∷ y ∷ a ∷ v ∷ []) ((var 0 ⊕ var 2 ⊗ var 1) ⊗ var 3) (var 0 ⊗ var 3 ⊕ var 2 ⊗ (var 1 ⊗ var 3)) refl

  sum_gates-both : (g : ℕ) (gates : List CircuitGate) (f x y : ℕ → CircuitGate → A) (a : A) → ((g : ℕ) (gate : CircuitGate) → f g gate ≡ o.add (x g gate) (o.mul a (y g gate))) →
      sum_gates o g gates f ≡ o.add (sum_gates o g gates x) (o.mul a (sum_gates o g gates y))
  sum_gates-both g [] f x y a e = solve o l (a ∷ []) nil (nil ⊕ var 0 ⊗ nil) refl
  sum_gates-both g (gate ∷ gates) f x y a e =
      ap₂ o.add (e g gate) (sum_gates-both (g + 1) gates f x y a e)
      ∙ solve o l (x g gate ∷ a ∷ y g gate ∷ sum_gates o (g + 1) gates x ∷ sum_gates o (g + 1) gates y ∷ [])
      (var 0 ⊕ var 1 ⊗ var 2 ⊕ (var 3 ⊕ var 1 ⊗ var 4)) (var 0 ⊕ var 3 ⊕ var 1 ⊗ (var 2 ⊕ var 4)) refl

  pub add_gates-both : (gates : List CircuitGate) (x y : ℕ → A) (a : A) (v : CircuitGate → A) →
      sum_gates o 0 gates (λ g gate. by_kind gate.kind (o.mul (o.add (x g) (o.mul a (y g))) (v gate)) o.zero)
      ≡ o.add (sum_gates o 0 gates (λ g gate. by_kind gate.kind (o.mul (x g) (v gate)) o.zero)) (o.mul a (sum_gates o 0 gates (λ g gate. by_kind gate.kind (o.mul (y g) (v gate)) o.zero)))
  add_gates-both gates x y a v = sum_gates-both 0 gates _ _ _ a (λ g gate. term-add gate.kind (x g) (y g) a (v gate))

  pub mul_gates-both : (gates : List CircuitGate) (x y : ℕ → A) (a : A) (v : CircuitGate → A) →
      sum_gates o 0 gates (λ g gate. by_kind gate.kind o.zero (o.mul (o.add (x g) (o.mul a (y g))) (v gate)))
      ≡ o.add (sum_gates o 0 gates (λ g gate. by_kind gate.kind o.zero (o.mul (x g) (v gate)))) (o.mul a (sum_gates o 0 gates (λ g gate. by_kind gate.kind o.zero (o.mul (y g) (v gate)))))
  mul_gates-both gates x y a v = sum_gates-both 0 gates _ _ _ a (λ g gate. term-mul gate.kind (x g) (y g) a (v gate))

-- the weight of a position at both points
abbrev pub both_weight : List K → List K → K → ℕ → K
both_weight first second a g = add_k (eq_poly k_ops first g) (mul_k a (eq_poly k_ops second g))

module _ (first second : List K) (a : K) (left right : List K) where
  abbrev pub operands : CircuitGate → K
  operands gate = mul_k (eq_poly k_ops left gate.left) (eq_poly k_ops right gate.right)

  -- what a gate adds to the sum over the add gates, and to that over the multiply gates
  abbrev pub add_term : ℕ → CircuitGate → K
  add_term g gate = by_kind gate.kind (mul_k (both_weight first second a g) (operands gate)) zero_k

  abbrev pub mul_term : ℕ → CircuitGate → K
  mul_term g gate = by_kind gate.kind zero_k (mul_k (both_weight first second a g) (operands gate))

-- the terms of the gates before g are summed
abbrev pub IsSumFrom : List CircuitGate → (ℕ → CircuitGate → K) → ℕ → K → Type 0
IsSumFrom gates f g sum = add_k sum (sum_gates k_ops g (drop g gates) f) ≡ sum_gates k_ops 0 gates f

module _ (gates : List CircuitGate) (f : ℕ → CircuitGate → K) where
  -- nothing is summed
  pub from_start : (n : ℕ) (sum : K) → 0 ≡ n → sum ≡ zero_k → IsSumFrom gates f n sum
  from_start n sum e h = subst (λ (m : ℕ). IsSumFrom gates f m sum) e (summed_none k_ops k_laws sum (sum_gates k_ops 0 gates f) h)

  -- a block begins, of which nothing is summed
  pub from_block : (m n : ℕ) (others none : K) → m ≡ n → none ≡ zero_k → IsSumFrom gates f m others → IsSumFrom gates f n (add_k others none)
  from_block m n others none e h p =
      subst (λ (x : K). IsSumFrom gates f n x) (sym (ap (add_k others) h ∙ k_laws.add_zero others)) (subst (λ (k : ℕ). IsSumFrom gates f k others) e p)

  -- one more gate's term, beside what other blocks add
  pub from_more : (g : ℕ) (d : CircuitGate) (others here next : K) → g < length gates →
      next ≡ add_k here (f g (get_or gates g d)) → IsSumFrom gates f g (add_k others here) → IsSumFrom gates f (g + 1) (add_k others next)
  from_more g d others here next u e h =
      summed_more k_ops k_laws gates f g d (add_k others here) (add_k others next) _ u
      (ap (add_k others) e ∙ sym (k_laws.add_assoc others here (f g (get_or gates g d)))) h

  -- a block is done
  pub from_done : (m n : ℕ) (sum next : K) → m ≡ n → next ≡ sum → IsSumFrom gates f m sum → IsSumFrom gates f n next
  from_done m n sum next e h p = subst (λ (x : K). IsSumFrom gates f n x) (sym h) (subst (λ (k : ℕ). IsSumFrom gates f k sum) e p)

  -- all gates are summed
  pub from_all : (n : ℕ) (sum : K) → length gates ≤ n → IsSumFrom gates f n sum → sum ≡ sum_gates k_ops 0 gates f
  from_all n sum u p = summed_all k_ops k_laws gates f n sum (sum_gates k_ops 0 gates f) u p
