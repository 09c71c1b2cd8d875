-- The circuit of a list of nodes has no fault
use Rattle.std.proofs.Common.{◌≡◌, ℕ, zero, suc, ◌+◌, ◌-◌, ◌^◌, ◌<◌, ◌≤◌, true, ◌&&◌, ◌||◌, not, eqb, List, [], ◌++◌, length, map, replicate, get_or, Option, Some, None, is_some, unwrap_or, refl, sym, ap, ap₂, ◌∙◌, subst, inl, inr, arith, All, length-append}
use Rattle.std.specs.Prelude.{nat_lt, nat_le, if◌then◌else◌, ◌==◌}
use Rattle.std.specs.Option.{option_or}
use Rattle.std.specs.List.{filter, range_with_len}
use Rattle.std.proofs.Math.Nat.{pow-le-pow_right}
use Rattle.std.proofs.lemmas.Bool.{ltb-true, ltb-false, le-ltb, lt-ltb, leb-true, le-leb, eqb-true, eq-eqb, and_parts, and_from, or_left, or_right, or_cases, cases_lt, cases_Bool, cond-true, cond-false}
use Rattle.std.proofs.lemmas.Bool.Decides.{eqb_tells}
use Rattle.std.proofs.lemmas.List.{length-map, length-replicate, get_or-append_right, get_or-replicate, get_or_past}
use Rattle.std.proofs.lemmas.List.Elements.{All-same, All-weaker, All-cons, All-append, All-map, All-replicate, All-get_or}
use Rattle.circuit_core.specs.declared.gate.CircuitGate.{CircuitGate}
use Rattle.circuit_core.specs.declared.gate.Leaf as core
use Rattle.circuit_core.specs.declared.gate.Leaf.TheVariants as leaf
use Rattle.circuit_core.specs.Sound.{greatest}
use Rattle.circuit_core.specs.Parts.{Limits, Parts, IsOver, height, width_of, gate_of, zero_gate}
use Rattle.circuit_core.specs.Faults.{first_below, first_in_layer, unless, fault_of, depth_fault, width_fault, zero_fault, operand_fault, leaf_fault, is_there, held_by, exponent_of, is_padding, is_zero_gate}
use Rattle.circuit_core.proofs.api.First.{or_none, none_below, first_below_at, none_from_each}
use Rattle.circuit_core.proofs.api.Faultless.{unless-none, unless-some, unless_true, unless_false}
use Rattle.node_core.specs.declared.node.Node.{Node}
use Rattle.node_core.specs.declared.node.Node.TheVariants.{Input, Constant, Operation}
use Rattle.node_core.specs.Nodes.{Nodes, IsNodeList, IsFineAt, node_at}
use Rattle.layer_compile.specs.Levels.{level, height_of}
use Rattle.layer_compile.specs.Rows.{is_at, row, place, IsAbove}
use Rattle.layer_compile.specs.Circuits.{size_for, padded, placed, gate_above, layers_from, leaf_of, circuit_of, too_wide, refusal_of, AreKept}
use Rattle.layer_compile.proofs.Places.{filter_place, filter_within}
use Rattle.layer_compile.proofs.Standing.{row_above, row_below, row_top, carried_stands, operands_stand, not_leaf}

-- one is found where one is there
found : {X : Type 0} (f : ℕ → Option X) (n i : ℕ) (x : X) → i < n → f i ≡ Some x → (y : X) × (first_below n f ≡ Some y)
found {X} f n i x l e = at (first_below n f) refl
  where
    at : (o : Option X) → first_below n f ≡ o → (y : X) × (first_below n f ≡ Some y)
    at None none = absurd (let wrong : Some x ≡ None = sym e ∙ none_below f n i none l in cc)
    at (Some y) e = (y, e)

-- a size is a power of two of at least this many positions
pub record IsSize (m : ℕ) : Type 0 where
  pub k : ℕ
  pub power : size_for m ≡ 2 ^ k
  pub least : 1 ≤ k
  pub most : k ≤ 20
  pub capacity : m ≤ size_for m

pub sized : (m : ℕ) → m ≤ 1048576 → IsSize m
sized m l =
    let f = λ (j : ℕ). unless (nat_lt (2 ^ (j + 1)) m) (j + 1) in
    let some = found f 20 19 20 (omega arith) (unless_false (nat_lt 1048576 m) 20 (le-ltb 1048576 m l)) in
    let at = first_below_at f 20 some.0 some.1 in
    let here = unless-some (nat_lt (2 ^ (at.0 + 1)) m) (at.0 + 1) some.0 at.2 in
    let power : size_for m ≡ 2 ^ some.0 = ap (λ o. 2 ^ unwrap_or o 20) some.1 in
    let enough : m ≤ 2 ^ (at.0 + 1) = ltb-false (2 ^ (at.0 + 1)) m here.0 in
    record {
      k = some.0;
      power = power;
      least = omega (arith, here.1);
      most = omega (arith, here.1, at.1);
      capacity = subst (λ s. m ≤ s) (sym (power ∙ ap (λ (k : ℕ). 2 ^ k) (sym here.1))) enough;
    }

-- no size is greater than the greatest
pub size_small : (m : ℕ) → size_for m ≤ 1048576
size_small m = at (first_below 20 (λ j. unless (nat_lt (2 ^ (j + 1)) m) (j + 1))) refl
  where
    at : (o : Option ℕ) → first_below 20 (λ j. unless (nat_lt (2 ^ (j + 1)) m) (j + 1)) ≡ o → size_for m ≤ 1048576
    at None e = rw (ap (λ o. 2 ^ unwrap_or o 20) e) (omega arith)
    at (Some k) e =
        let found = first_below_at (λ j. unless (nat_lt (2 ^ (j + 1)) m) (j + 1)) 20 k e in
        let is = unless-some (nat_lt (2 ^ (found.0 + 1)) m) (found.0 + 1) k found.2 in
        let low : k ≤ 20 = omega (arith, is.1, found.1) in
        rw (ap (λ o. 2 ^ unwrap_or o 20) e) (pow-le-pow_right {n = 2} (omega arith) low)

pub size_is_width : (m : ℕ) → m ≤ 1048576 → is_some (exponent_of greatest (size_for m)) ≡ true
size_is_width m l =
    let size = sized m l in
    let f = λ (j : ℕ). unless (not (eqb (size_for m) (2 ^ (j + 1)))) (j + 1) in
    let j = size.k - 1 in
    let next : j + 1 ≡ size.k = omega (arith, size.least) in
    let here : eqb (size_for m) (2 ^ (j + 1)) ≡ true = eq-eqb _ _ (size.power ∙ ap (λ (k : ℕ). 2 ^ k) (sym next)) in
    let some = found f 20 j (j + 1) (omega (arith, size.least, size.most)) (unless_false _ _ (ap not here)) in
    ap is_some some.1

-- as many gates as the size says
length-padded : (gates : List CircuitGate) → 1 + length gates ≤ size_for (1 + length gates) → length (padded gates) ≡ size_for (1 + length gates)
length-padded gates l =
    omega (arith, l, length-append gates (replicate (size_for (1 + length gates) - (1 + length gates)) zero_gate), length-replicate (size_for (1 + length gates) - (1 + length gates)) zero_gate)

-- past the gates there is padding
padded_past : (gates : List CircuitGate) (g : ℕ) → length gates < g → get_or (padded gates) g zero_gate ≡ zero_gate
padded_past gates zero l = absurd (omega arith)
padded_past gates (suc g) l =
    let m = size_for (1 + length gates) - (1 + length gates) in
    get_or-append_right gates (replicate m zero_gate) (length gates) g zero_gate refl (omega arith)
    ∙ elim (cases_lt (g - length gates) m) [
      | inl u ↦ get_or-replicate m (g - length gates) zero_gate zero_gate u
      | inr u ↦ get_or_past (replicate m zero_gate) (g - length gates) zero_gate (omega (arith, u, length-replicate m zero_gate))
    ]

padded_below : (width : ℕ) (gates : List CircuitGate) → 0 < width → All (IsOver width) gates → All (IsOver width) (padded gates)
padded_below width gates l below =
    let zeros : IsOver width zero_gate = record { left = l; right = l } in
    let m = size_for (1 + length gates) - (1 + length gates) in
    All-cons (IsOver width) zero_gate (gates ++ replicate m zero_gate) zeros
    (All-append (IsOver width) gates (replicate m zero_gate) below (All-replicate (IsOver width) m zero_gate zeros))

module _ (n : Nodes) where
  length-layers_from : (h : ℕ) → length (layers_from n h) ≡ h
  length-layers_from zero = refl
  length-layers_from (suc h) = ap suc (length-layers_from h)

  -- layer i is that of height top - i
  layer_at : (top i h : ℕ) → i + suc h ≡ top → get_or (layers_from n top) i [] ≡ padded (map (gate_above n h) (row n (suc h)))
  layer_at zero i h e = absurd (omega arith)
  layer_at (suc top) zero h e = let same : top ≡ h = omega arith in rw same refl
  layer_at (suc top) (suc i) h e = layer_at top i h (omega arith)

module _ (limits : Limits) (kept : AreKept limits) (n : Nodes) (is : IsNodeList n) (none : refusal_of limits n ≡ None) where
  circuit : Parts
  circuit = circuit_of n

  low : height_of n ≤ 1024
  low =
      let few : height_of n ≤ limits.height = leb-true _ _ (unless-none _ _ (or_none _ _ none).0) in
      omega (arith, kept.height, few)

  narrow : (h : ℕ) → h ≤ height_of n → 1 + length (row n h) ≤ 1048576
  narrow h l =
      let fits : 1 + length (row n h) ≤ 2 ^ limits.exponent = leb-true _ _ (unless-none _ _ (none_below (too_wide limits n) (height_of n + 1) h (or_none _ _ none).1 (omega arith))) in
      let capacity : 2 ^ limits.exponent ≤ 1048576 = pow-le-pow_right {n = 2} (omega arith) kept.exponent in
      omega (arith, fits, capacity)

  size : (h : ℕ) → h ≤ height_of n → IsSize (1 + length (row n h))
  size h l = sized (1 + length (row n h)) (narrow h l)

  tall : height (circuit_of n) ≡ height_of n
  tall = length-layers_from n (height_of n)

  -- the width of a layer is the size for the row of its height
  width_at : (i h : ℕ) → i + h ≡ height_of n → width_of (circuit_of n) i ≡ size_for (1 + length (row n h))
  width_at i zero e = cond-false _ _ _ (le-ltb i (height (circuit_of n)) (omega (arith, tall)))
  width_at i (suc h) e =
      let gates = map (gate_above n h) (row n (suc h)) in
      let many = length-map (row n (suc h)) (gate_above n h) in
      let capacity = (size (suc h) (omega arith)).capacity in
      cond-true _ _ _ (lt-ltb i (height (circuit_of n)) (omega (arith, tall)))
      ∙ ap length (layer_at n (height_of n) i h e)
      ∙ length-padded gates (subst (λ m. 1 + m ≤ size_for (1 + m)) (sym many) capacity)
      ∙ ap (λ m. size_for (1 + m)) many

  gate_at : (i h g : ℕ) → i + suc h ≡ height_of n → gate_of (circuit_of n) i g ≡ get_or (padded (map (gate_above n h) (row n (suc h)))) g zero_gate
  gate_at i h g e = ap (λ gates. get_or gates g zero_gate) (layer_at n (height_of n) i h e)

  no_depth_fault : depth_fault greatest (circuit_of n) ≡ None
  no_depth_fault =
      let many = height (circuit_of n) in
      unless_true (nat_le 1 many && nat_le many 1024) _ (and_from _ _ (le-leb 1 many (omega (arith, tall))) (le-leb many 1024 (omega (arith, tall, low))))

  -- what a layer has to hold is in the row of its height
  held : (i h : ℕ) → i + h ≡ height_of n → held_by (circuit_of n) i ≤ 1 + length (row n h)
  held i h e =
      let leaf_at = λ (k : ℕ). leaf_of (node_at n k) in
      elim (eqb_tells i 0) [
        | inl first ↦
            let same : h ≡ height_of n = omega (arith, first.1) in
            let outputs : row n h ≡ n.outputs = ap (row n) same ∙ row_top n in
            omega (arith, ap length outputs, cond-true (eqb i 0) (length n.outputs) (if i == height (circuit_of n) then length (circuit_of n).leaves else 0) first.0)
        | inr other ↦
            elim (eqb_tells i (height (circuit_of n))) [
              | inl last ↦
                  let same : h ≡ 0 = omega (arith, tall, last.1) in
                  let leaves = length-map (row n 0) leaf_at in
                  let at = cond-false (eqb i 0) (length n.outputs) (if i == height (circuit_of n) then length (circuit_of n).leaves else 0) other.0 in
                  let there = cond-true (eqb i (height (circuit_of n))) (length (circuit_of n).leaves) 0 last.0 in
                  omega (arith, at, there, leaves, ap (λ (h : ℕ). length (row n h)) same)
              | inr inner ↦
                  let at = cond-false (eqb i 0) (length n.outputs) (if i == height (circuit_of n) then length (circuit_of n).leaves else 0) other.0 in
                  let there = cond-false (eqb i (height (circuit_of n))) (length (circuit_of n).leaves) 0 inner.0 in
                  omega (arith, at, there)
            ]
      ]

  no_width_fault : (i : ℕ) → i < height (circuit_of n) + 1 → width_fault greatest (circuit_of n) i ≡ None
  no_width_fault i l =
      let h = height_of n - i in
      let e : i + h ≡ height_of n = omega (arith, tall) in
      let width = width_at i h e in
      let capacity = (size h (omega arith)).capacity in
      let holds : held_by (circuit_of n) i ≤ width_of (circuit_of n) i = omega (arith, held i h e, width, capacity) in
      unless_true (is_some (exponent_of greatest (width_of (circuit_of n) i)) && nat_le (held_by (circuit_of n) i) (width_of (circuit_of n) i)) _
      (and_from _ _ (ap (λ w. is_some (exponent_of greatest w)) width ∙ size_is_width (1 + length (row n h)) (narrow h (omega arith))) (le-leb (held_by (circuit_of n) i) (width_of (circuit_of n) i) holds))

  -- a gate that has to be that of padding is
  padding_gate : (i h g : ℕ) → i + suc h ≡ height_of n → is_padding (circuit_of n) i g ≡ true → gate_of (circuit_of n) i g ≡ zero_gate
  padding_gate i h g e padding =
      let gates = map (gate_above n h) (row n (suc h)) in
      gate_at i h g e
      ∙ elim (or_cases (eqb g 0) (eqb i 0 && nat_lt (length n.outputs) g) padding) [
        | inl at_zero ↦ ap (λ g. get_or (padded gates) g zero_gate) (eqb-true g 0 at_zero)
        | inr past ↦
            let both = and_parts (eqb i 0) (nat_lt (length n.outputs) g) past in
            let first : i ≡ 0 = eqb-true i 0 both.0 in
            let same : suc h ≡ height_of n = omega arith in
            let many : length gates ≡ length n.outputs = length-map (row n (suc h)) (gate_above n h) ∙ ap length (ap (row n) same ∙ row_top n) in
            padded_past gates g (omega (arith, many, ltb-true (length n.outputs) g both.1))
      ]

  no_zero_fault : (i g : ℕ) → i < height (circuit_of n) → zero_fault (circuit_of n) i g ≡ None
  no_zero_fault i g l =
      let p = circuit_of n in
      let h = height_of n - suc i in
      unless_true (not (is_padding p i g) || is_zero_gate (gate_of p i g)) _
      (elim (cases_Bool (is_padding p i g)) [
        | inl padding ↦ or_right _ _ (ap is_zero_gate (padding_gate i h g (omega (arith, tall)) padding))
        | inr gate ↦ or_left _ _ (ap not gate)
      ])

  place_below : (h k : ℕ) → h < height_of n → (k < length n.nodes) × (is_at n h k ≡ true) → place n h k < 1 + length (row n h)
  place_below h k l s = omega (arith, filter_place (is_at n h) (length n.nodes) k s.0 s.1, ap length (row_below n h l))

  own_below : (h k : ℕ) (node : Node) → h < height_of n → IsAbove n h k → level n k ≡ suc h → node_at n k ≡ node → IsOver (1 + length (row n h)) (placed n h node)
  own_below h k (Input j) l above at e = absurd (not_leaf n is h k (Input j) above at e refl)
  own_below h k (Constant x) l above at e = absurd (not_leaf n is h k (Constant x) above at e refl)
  own_below h k (Operation gate) l above at e =
      let below = operands_stand n is h k gate above at e in
      record { left = place_below h gate.left l below.0; right = place_below h gate.right l below.1 }

  gate_below : (h k : ℕ) → h < height_of n → IsAbove n h k → IsOver (1 + length (row n h)) (gate_above n h k)
  gate_below h k l above =
      elim (eqb_tells (level n k) (suc h)) [
        | inl own ↦ subst (IsOver (1 + length (row n h))) (sym (cond-true _ _ _ own.0)) (own_below h k (node_at n k) l above own.1 refl)
        | inr other ↦
            subst (IsOver (1 + length (row n h))) (sym (cond-false _ _ _ other.0)) (record { left = place_below h k l (carried_stands n h k above other.1); right = omega arith })
      ]

  operands_below : (i h g : ℕ) → i + suc h ≡ height_of n → IsOver (1 + length (row n h)) (gate_of (circuit_of n) i g)
  operands_below i h g e =
      let below = IsOver (1 + length (row n h)) in
      let gates = map (gate_above n h) (row n (suc h)) in
      let each = All-map below (gate_above n h) (row n (suc h)) (All-weaker (IsAbove n h) (λ k. below (gate_above n h k)) (λ k. gate_below h k (omega arith)) (row n (suc h)) (row_above n is h (omega arith))) in
      let all = padded_below (1 + length (row n h)) gates (omega arith) each in
      let zeros : below zero_gate = record { left = omega arith; right = omega arith } in
      subst below (sym (gate_at i h g e))
      (elim (cases_lt g (length (padded gates))) [
        | inl u ↦ All-get_or below (padded gates) g zero_gate u all
        | inr u ↦ subst below (sym (get_or_past (padded gates) g zero_gate u)) zeros
      ])

  no_operand_fault : (i g : ℕ) → i < height (circuit_of n) → operand_fault (circuit_of n) i g ≡ None
  no_operand_fault i g l =
      let p = circuit_of n in
      let h = height_of n - suc i in
      let below = operands_below i h g (omega (arith, tall)) in
      let width = width_at (i + 1) h (omega (arith, tall)) in
      let capacity = (size h (omega arith)).capacity in
      let left : (gate_of p i g).left < width_of p (i + 1) = omega (arith, below.left, width, capacity) in
      let right : (gate_of p i g).right < width_of p (i + 1) = omega (arith, below.right, width, capacity) in
      ap₂ option_or (unless_true (nat_lt (gate_of p i g).left (width_of p (i + 1))) _ (lt-ltb _ _ left)) (unless_true (nat_lt (gate_of p i g).right (width_of p (i + 1))) _ (lt-ltb _ _ right))

  leaf_there : (k : ℕ) (node : Node) → IsFineAt n.inputs k node → is_there n.inputs (leaf_of node) ≡ true
  leaf_there k (Input j) fine = lt-ltb j n.inputs fine
  leaf_there k (Constant x) fine = refl
  leaf_there k (Operation gate) fine = refl

  no_leaf_fault : (k : ℕ) → k < length (circuit_of n).leaves → leaf_fault (circuit_of n) k ≡ None
  no_leaf_fault k l =
      let there = λ (leaf : core.Leaf). is_there n.inputs leaf ≡ true in
      let leaf_at = λ (k : ℕ). leaf_of (node_at n k) in
      let rows = filter (is_at n 0) (range_with_len 0 (length n.nodes)) in
      let each = λ (k : ℕ) (s : (k < length n.nodes) × (is_at n 0 k ≡ true)). leaf_there k (node_at n k) (is.fine k s.0) in
      let all = All-map there leaf_at (row n 0) (All-same (λ k. there (leaf_at k)) (row n 0) rows (row_below n 0 (omega arith)) (All-weaker _ (λ k. there (leaf_at k)) each rows (filter_within (is_at n 0) (length n.nodes)))) in
      unless_true _ _ (All-get_or there (circuit_of n).leaves k (leaf.Input 0) l all)

  pub faultless : fault_of greatest (circuit_of n) ≡ None
  faultless =
      let p = circuit_of n in
      let zeros = λ (i : ℕ) (l : i < height p). none_from_each (zero_fault p i) (width_of p i) (λ g m. no_zero_fault i g l) in
      let operands = λ (i : ℕ) (l : i < height p). none_from_each (operand_fault p i) (width_of p i) (λ g m. no_operand_fault i g l) in
      rw (no_depth_fault, none_from_each (width_fault greatest p) (height p + 1) no_width_fault, none_from_each (first_in_layer p (zero_fault p)) (height p) zeros, none_from_each (first_in_layer p (operand_fault p)) (height p) operands, none_from_each (leaf_fault p) (length p.leaves) no_leaf_fault) refl
