-- Which nodes are below a node that is at a height
use Rattle.std.proofs.Common.{◌≡◌, ◌≢◌, ℕ, zero, suc, ◌+◌, ◌<◌, ◌≤◌, max, true, eqb, length, get_or, refl, ap, ◌∙◌, subst, inl, inr, arith, All}
use Rattle.std.specs.List.{filter, range_with_len}
use Rattle.std.proofs.lemmas.Bool.{cases_lt, cond-true, cond-false, lt-ltb, le-ltb, leb-true, le-leb, eq-eqb, and_parts, and_from, or_left, or_right}
use Rattle.std.proofs.lemmas.List.Elements.{All-same, All-weaker}
use Rattle.std.proofs.lemmas.List.Folds.{list_any_at}
use Rattle.circuit_core.specs.declared.gate.CircuitGate.{CircuitGate}
use Rattle.node_core.specs.declared.node.Node.{Node}
use Rattle.node_core.specs.declared.node.Node.TheVariants.{Operation}
use Rattle.node_core.specs.Nodes.{Nodes, IsNodeList, IsFineAt, node_at}
use Rattle.layer_compile.specs.Levels.{level, levels, level_of, height_of, is_output, has_operand, is_used_above}
use Rattle.layer_compile.specs.Rows.{is_at, row, IsAbove}
use Rattle.layer_compile.proofs.UsedAbove.{used-output, used-lower, used-by}
use Rattle.layer_compile.proofs.LevelsOf.{level_at, output_level}
use Rattle.layer_compile.proofs.Places.{filter_within}

module _ (n : Nodes) where
  -- what is below the outputs
  pub row_below : (h : ℕ) → h < height_of n → row n h ≡ filter (is_at n h) (range_with_len 0 (length n.nodes))
  row_below h l = cond-true _ _ _ (lt-ltb h (height_of n) l)

  pub row_top : row n (height_of n) ≡ n.outputs
  row_top = cond-false _ _ _ (le-ltb (height_of n) (height_of n) (omega arith))

  -- what is used above a height is there, from its level on
  pub stands_from : (h k : ℕ) → level n k ≤ h → is_used_above n h k ≡ true → is_at n h k ≡ true
  stands_from zero k l u = eq-eqb (level n k) 0 (omega arith)
  stands_from (suc h) k l u = and_from _ _ (le-leb (level n k) (suc h) l) u

  -- the nodes of a row above height h
  pub row_above : IsNodeList n → (h : ℕ) → h < height_of n → All (IsAbove n h) (row n (suc h))
  row_above is h l = elim (cases_lt (suc h) (height_of n)) [ inl u ↦ inner u | inr u ↦ top (omega arith) ]
    where
      of_standing : (k : ℕ) → (k < length n.nodes) × (is_at n (suc h) k ≡ true) → IsAbove n h k
      of_standing k s =
          let parts = and_parts _ _ s.1 in
          record { within = s.0; low = leb-true _ _ parts.0; used = used-lower n h (suc h) 0 n.nodes k (omega arith) parts.1 }

      inner : suc h < height_of n → All (IsAbove n h) (row n (suc h))
      inner u =
          All-same (IsAbove n h) (row n (suc h)) (filter (is_at n (suc h)) (range_with_len 0 (length n.nodes))) (row_below (suc h) u)
          (All-weaker _ (IsAbove n h) of_standing (filter (is_at n (suc h)) (range_with_len 0 (length n.nodes))) (filter_within (is_at n (suc h)) (length n.nodes)))

      of_output : suc h ≡ height_of n → All (IsAbove n h) n.outputs
      of_output same i d m =
          let k = get_or n.outputs i d in
          let named : is_output n k ≡ true = list_any_at (λ output. eqb output k) n.outputs i d m (eq-eqb k k refl) in
          let low : level n k < height_of n = output_level n k named in
          record { within = is.outputs_there i d m; low = omega arith; used = used-output n h 0 n.nodes k named }

      top : suc h ≡ height_of n → All (IsAbove n h) (row n (suc h))
      top same = All-same (IsAbove n h) (row n (suc h)) n.outputs (ap (row n) same ∙ row_top) (of_output same)

  -- it is carried from below where it has a lower level
  pub carried_stands : (h k : ℕ) → IsAbove n h k → level n k ≢ suc h → (k < length n.nodes) × (is_at n h k ≡ true)
  carried_stands h k above other =
      let low : level n k ≤ h = omega (arith, other, above.low) in
      (above.within, stands_from h k low above.used)

  operand_stands : IsNodeList n → (h k operand : ℕ) → IsAbove n h k → operand < k → level n operand ≤ h → h < level n k → has_operand (node_at n k) operand ≡ true → (operand < length n.nodes) × (is_at n h operand ≡ true)
  operand_stands is h k operand above before low high named =
      let used = used-by n is h k operand above.within named high (used-lower n 0 h 0 n.nodes k (omega arith) above.used) in
      (omega (arith, before, above.within), stands_from h operand low used)

  -- a node at its own level is an operation on nodes that are below
  pub operands_stand : IsNodeList n → (h k : ℕ) (gate : CircuitGate) → IsAbove n h k → level n k ≡ suc h → node_at n k ≡ Operation gate → ((gate.left < length n.nodes) × (is_at n h gate.left ≡ true)) × ((gate.right < length n.nodes) × (is_at n h gate.right ≡ true))
  operands_stand is h k gate above at e =
      let deep : level n k ≡ 1 + max (level n gate.left) (level n gate.right) = level_at n k is above.within ∙ ap (level_of (levels n)) e in
      let before = subst (λ node. IsFineAt n.inputs k node) e (is.fine k above.within) in
      let named_left = ap (λ node. has_operand node gate.left) e ∙ or_left _ _ (eq-eqb gate.left gate.left refl) in
      let named_right = ap (λ node. has_operand node gate.right) e ∙ or_right _ _ (eq-eqb gate.right gate.right refl) in (
        operand_stands is h k gate.left above before.0 (omega arith) (omega arith) named_left,
        operand_stands is h k gate.right above before.1 (omega arith) (omega arith) named_right,
      )

  pub not_leaf : IsNodeList n → (h k : ℕ) (node : Node) → IsAbove n h k → level n k ≡ suc h → node_at n k ≡ node → level_of (levels n) node ≡ 0 → ⊥
  not_leaf is h k node above at e low =
      let is_leaf : level n k ≡ 0 = level_at n k is above.within ∙ ap (level_of (levels n)) e ∙ low in
      omega arith

  -- each place of a row is a node
  pub row_within : IsNodeList n → (h : ℕ) → h ≤ height_of n → All (λ k. k < length n.nodes) (row n h)
  row_within is h l =
      let standing = λ (k : ℕ) (s : (k < length n.nodes) × (is_at n h k ≡ true)). s.0 in
      let inside = λ (k : ℕ). k < length n.nodes in
      elim (cases_lt h (height_of n)) [
        | inl u ↦
            let rows = filter (is_at n h) (range_with_len 0 (length n.nodes)) in
            All-same inside (row n h) rows (row_below h u) (All-weaker _ inside standing rows (filter_within (is_at n h) (length n.nodes)))
        | inr u ↦
            let same : h ≡ height_of n = omega arith in
            All-same inside (row n h) n.outputs (ap (row n) same ∙ row_top) is.outputs_there
      ]
