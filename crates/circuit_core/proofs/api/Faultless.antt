-- What a circuit with no fault keeps
use Rattle.std.proofs.Common.{◌≡◌, ℕ, zero, suc, ◌+◌, ◌^◌, ◌<◌, ◌≤◌, Bool, true, false, ◌&&◌, not, eqb, length, map, get_or, [], Option, Some, None, is_some, unwrap_or, refl, ap, ◌∙◌, arith, IsTrue, All, cond}
use Rattle.std.specs.Prelude.{nat_le, is_none}
use Rattle.std.specs.List.{list_all, range_with_len}
use Rattle.std.proofs.lemmas.Bool.{and_parts, and_from, leb-true, le-leb, ltb-true, eqb-true, cond-true, cond-false, lt-ltb, ne_eqb, eq-eqb}
use Rattle.std.proofs.lemmas.List.{get_or_default}
use Rattle.circuit_core.specs.declared.gate.Leaf.{Leaf}
use Rattle.circuit_core.specs.declared.gate.Leaf.TheVariants.{Input, Const}
use Rattle.circuit_core.specs.Parts.{Parts, height, width_of, gate_of, zero_gate, IsOver}
use Rattle.circuit_core.specs.Faults.{first_below, first_in_layer, first_at_gate, unless, fault_of, depth_fault, width_fault, zero_fault, operand_fault, leaf_fault, is_there, IsLeafWithin, held_by, exponent_of}
use Rattle.circuit_core.specs.Sound.{greatest, exponent_at}
use Rattle.circuit_core.proofs.api.First.{or_none, none_below, first_below_at}

pub none_from_test : {X : Type 0} (o : Option X) → IsTrue (is_none o) → o ≡ None
none_from_test None h = refl
none_from_test (Some x) h = cc

pub unless-none : {X : Type 0} (b : Bool) (x : X) → unless b x ≡ None → b ≡ true
unless-none true x e = refl
unless-none false x e = cc

pub unless-some : {X : Type 0} (b : Bool) (x y : X) → unless b x ≡ Some y → (b ≡ false) × (x ≡ y)
unless-some true x y e = cc
unless-some false x y e = (refl, cc)

pub unless_true : {X : Type 0} (b : Bool) (x : X) → b ≡ true → unless b x ≡ None
unless_true b x e = rw e refl

pub unless_false : {X : Type 0} (b : Bool) (x : X) → b ≡ false → unless b x ≡ Some x
unless_false b x e = rw e refl

-- the k that `exponent_of` finds
pub exponent_found : (n k : ℕ) → exponent_of greatest n ≡ Some k → (n ≡ 2 ^ k) × (1 ≤ k) × (k ≤ 20)
exponent_found n k e =
    let f = λ (j : ℕ). unless (not (eqb n (2 ^ (j + 1)))) (j + 1) in
    let at = first_below_at f 20 k e in
    let found = unless-some (not (eqb n (2 ^ (at.0 + 1)))) (at.0 + 1) k at.2 in
    let power : n ≡ 2 ^ (at.0 + 1) = eqb-true n (2 ^ (at.0 + 1)) (from_not (eqb n (2 ^ (at.0 + 1))) found.0) in
    (power ∙ ap (λ (j : ℕ). 2 ^ j) found.1, omega arith, omega arith)
  where
    from_not : (b : Bool) → not b ≡ false → b ≡ true
    from_not true e = refl
    from_not false e = cc

module _ (p : Parts) (faultless : fault_of greatest p ≡ None) where
  -- no fault of any kind
  kinds : (depth_fault greatest p ≡ None) × (first_below (height p + 1) (width_fault greatest p) ≡ None) × (first_at_gate p (zero_fault p) ≡ None) × (first_at_gate p (operand_fault p) ≡ None) × (first_below (length p.leaves) (leaf_fault p) ≡ None)
  kinds =
      let a = or_none (depth_fault greatest p) _ faultless in
      let b = or_none (first_below (height p + 1) (width_fault greatest p)) _ a.1 in
      let c = or_none (first_at_gate p (zero_fault p)) _ b.1 in
      let d = or_none (first_at_gate p (operand_fault p)) _ c.1 in
      (a.0, b.0, c.0, d.0, d.1)

  pub height_bounds : (1 ≤ height p) × (height p ≤ 1024)
  height_bounds =
      let b = and_parts _ _ (unless-none _ _ kinds.0) in
      (leb-true _ _ b.0, leb-true _ _ b.1)

  pub width_bounds : (i : ℕ) → i ≤ height p → (is_some (exponent_of greatest (width_of p i)) ≡ true) × (held_by p i ≤ width_of p i)
  width_bounds i l =
      let b = and_parts _ _ (unless-none _ _ (none_below (width_fault greatest p) (height p + 1) i kinds.1 (omega arith))) in
      (b.0, leb-true _ _ b.1)

  -- a layer has 2 ^ k positions
  pub width_power : (i : ℕ) → i ≤ height p → (width_of p i ≡ 2 ^ exponent_at p i) × (1 ≤ exponent_at p i) × (exponent_at p i ≤ 20)
  width_power i l = at (exponent_of greatest (width_of p i)) refl (width_bounds i l).0
    where
      at : (o : Option ℕ) → exponent_of greatest (width_of p i) ≡ o → is_some o ≡ true → (width_of p i ≡ 2 ^ unwrap_or (exponent_of greatest (width_of p i)) 0) × (1 ≤ unwrap_or (exponent_of greatest (width_of p i)) 0) × (unwrap_or (exponent_of greatest (width_of p i)) 0 ≤ 20)
      at None e s = cc
      at (Some k) e s = rw e (exponent_found (width_of p i) k e)

  exponent_bounds : (i : ℕ) → i ≤ height p → (nat_le 1 (exponent_at p i) && nat_le (exponent_at p i) 20) ≡ true
  exponent_bounds i l =
      let k = width_power i l in
      and_from _ _ (le-leb 1 _ k.1) (le-leb _ 20 k.2)

  pub exponents_bounded : (a n : ℕ) → a + n ≤ height p + 1 → list_all (λ k. nat_le 1 k && nat_le k 20) (map (exponent_at p) (range_with_len a n)) ≡ true
  exponents_bounded a zero l = refl
  exponents_bounded a (suc n) l = and_from _ _ (exponent_bounds a (omega arith)) (exponents_bounded (a + 1) n (omega arith))

  -- each operand is a position of the layer below
  pub operands_below : (i g : ℕ) → i < height p → g < width_of p i → ((gate_of p i g).left < width_of p (i + 1)) × ((gate_of p i g).right < width_of p (i + 1))
  operands_below i g l m =
      let here = none_below (first_in_layer p (operand_fault p)) (height p) i kinds.3 l in
      let both = or_none _ _ (none_below (operand_fault p i) (width_of p i) g here m) in
      (ltb-true _ _ (unless-none _ _ both.0), ltb-true _ _ (unless-none _ _ both.1))

  -- the operands of a whole layer
  pub layer_over : (i : ℕ) → i < height p → All (IsOver (width_of p (i + 1))) (get_or p.layers i [])
  layer_over i l g d m =
      let width : width_of p i ≡ length (get_or p.layers i []) = cond-true _ _ _ (lt-ltb i (height p) l) in
      let both = operands_below i g l (omega arith) in
      let same = get_or_default (get_or p.layers i []) g d zero_gate m in
      rw same (record { left = both.0; right = both.1 })

  leaf_within : (leaf : Leaf) → is_there p.inputs leaf ≡ true → IsLeafWithin p.inputs leaf
  leaf_within (Input j) e = ltb-true j p.inputs e
  leaf_within (Const x) e = tt

  pub leaves_within : All (IsLeafWithin p.inputs) p.leaves
  leaves_within k d l =
      let here = unless-none _ _ (none_below (leaf_fault p) (length p.leaves) k kinds.4 l) in
      let same = get_or_default p.leaves k d (Input 0) l in
      rw same (leaf_within (get_or p.leaves k (Input 0)) here)

  -- position 0 and the leaves are held by the input layer
  pub leaves_room : 1 + length p.leaves ≤ width_of p (height p)
  leaves_room =
      let held = (width_bounds (height p) (omega arith)).1 in
      let other = cond-false (eqb (height p) 0) p.outputs (cond (eqb (height p) (height p)) (length p.leaves) 0) (ne_eqb (height p) 0 (λ e. omega (arith, e, height_bounds.0))) in
      let last = cond-true (eqb (height p) (height p)) (length p.leaves) 0 (eq-eqb (height p) (height p) refl) in
      omega (arith, held, other, last)
