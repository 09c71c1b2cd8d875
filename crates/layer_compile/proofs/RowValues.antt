-- The values of a height are those of the nodes that are there
use Rattle.std.proofs.Common.{◌≡◌, ℕ, zero, suc, ◌+◌, ◌-◌, ◌<◌, ◌≤◌, true, List, ◌∷◌, ◌++◌, length, map, replicate, get_or, refl, sym, ap, ap₂, ◌∙◌, inl, inr, arith}
use Rattle.std.specs.List.{filter, range_with_len}
use Rattle.std.proofs.lemmas.Bool.{cases_lt, cond-true, cond-false, eqb-true}
use Rattle.std.proofs.lemmas.Bool.Decides.{eqb_tells}
use Rattle.std.proofs.lemmas.List.{get_or-map, get_or-append_right, get_or-replicate, get_or_past, length-map, length-replicate, map-append}
use Rattle.std.proofs.lemmas.List.Elements.{All-same, All-weaker}
use Rattle.field_ext.specs.Field.{F, of, add_f}
use Rattle.field_ext.proofs.api.Elements.{of_self, of-value}
use Rattle.circuit_core.specs.Parts.{combined, gate_value, leaf_value, padded_values, values_of, layer_values, zero_f, zero_gate}
use Rattle.node_core.specs.declared.node.Node.{Node}
use Rattle.node_core.specs.declared.node.Node.TheVariants.{Input, Constant, Operation}
use Rattle.node_core.specs.Nodes.{Nodes, IsNodeList, node_at, node_value, values}
use Rattle.node_core.proofs.api.NodeValues.{value_at}
use Rattle.layer_compile.specs.Levels.{level, levels, level_of, height_of}
use Rattle.layer_compile.specs.Rows.{is_at, row, place, IsAbove}
use Rattle.layer_compile.specs.Circuits.{size_for, padded, placed, gate_above, layers_from, leaf_of, circuit_of, output_values}
use Rattle.layer_compile.proofs.LevelsOf.{level_at}
use Rattle.layer_compile.proofs.Places.{filter_at, filter_place, filter_within}
use Rattle.layer_compile.proofs.Lists.{map_agree, map-map, map-replicate, get_or_behind}
use Rattle.layer_compile.proofs.Standing.{row_above, row_below, row_top, carried_stands, operands_stand, not_leaf}

pub add_f_zero : (x : F) → add_f x zero_f ≡ x
add_f_zero x =
    let none : x.value + zero_f.value ≡ x.value = omega (arith, of-value 0) in
    ap of none ∙ of_self x

module _ (n : Nodes) (is : IsNodeList n) (inputs : List F) where
  abbrev pub value : ℕ → F
  value k = get_or (values n inputs) k zero_f

  -- the values of a height: 0, those of its row, and zeros
  abbrev pub row_values : ℕ → List F
  row_values h = padded_values (size_for (1 + length (row n h))) (map value (row n h))

  -- a node that is at a height has its value at its place
  pub read_place : (h k : ℕ) → h < height_of n → k < length n.nodes → is_at n h k ≡ true → get_or (row_values h) (place n h k) zero_f ≡ value k
  read_place h k l m s =
      let count = length n.nodes in
      let rows = filter (is_at n h) (range_with_len 0 count) in
      let j = length (filter (is_at n h) (range_with_len 0 k)) in
      let there : j < length rows = filter_place (is_at n h) count k m s in
      ap (λ r. get_or (padded_values (size_for (1 + length r)) (map value r)) (1 + j) zero_f) (row_below n h l)
      ∙ get_or_behind zero_f (map value rows) (replicate (size_for (1 + length rows) - (1 + length (map value rows))) zero_f) j zero_f (omega (arith, length-map rows value))
      ∙ get_or-map value rows j 0 zero_f there
      ∙ ap value (filter_at (is_at n h) count k 0 m s)

  -- the gate of a node at its own level
  own_gate : (h k : ℕ) (node : Node) → h < height_of n → IsAbove n h k → level n k ≡ suc h → node_at n k ≡ node → gate_value (row_values h) (placed n h node) ≡ node_value inputs (values n inputs) node
  own_gate h k (Input j) l above at e = absurd (not_leaf n is h k (Input j) above at e refl)
  own_gate h k (Constant x) l above at e = absurd (not_leaf n is h k (Constant x) above at e refl)
  own_gate h k (Operation gate) l above at e =
      let below = operands_stand n is h k gate above at e in
      ap₂ (combined gate.kind) (read_place h gate.left l below.0.0 below.0.1) (read_place h gate.right l below.1.0 below.1.1)

  -- a gate makes the value of its node
  pub gate_right : (h k : ℕ) → h < height_of n → IsAbove n h k → gate_value (row_values h) (gate_above n h k) ≡ value k
  gate_right h k l above =
      elim (eqb_tells (level n k) (suc h)) [
        | inl e ↦
            ap (gate_value (row_values h)) (cond-true _ _ _ e.0) ∙ own_gate h k (node_at n k) l above e.1 refl ∙ sym (value_at n inputs k is above.within)
        | inr e ↦
            let below = carried_stands n h k above e.1 in
            ap (gate_value (row_values h)) (cond-false _ _ _ e.0)
            ∙ ap (λ x. add_f x zero_f) (read_place h k l below.0 below.1) ∙ add_f_zero (value k)
      ]

  layer_right : (h : ℕ) → h < height_of n → map (gate_value (row_values h)) (padded (map (gate_above n h) (row n (suc h)))) ≡ row_values (suc h)
  layer_right h l =
      let gates = row n (suc h) in
      let make = gate_value (row_values h) in
      let many = length-map gates (gate_above n h) in
      let padding = size_for (1 + length (map (gate_above n h) gates)) - (1 + length (map (gate_above n h) gates)) in
      let counts : padding ≡ size_for (1 + length gates) - (1 + length (map value gates)) = ap₂ (λ (a b : ℕ). size_for (1 + a) - (1 + b)) many (many ∙ sym (length-map gates value)) in
      ap₂ (λ y ys. y ∷ ys) (add_f_zero zero_f)
      (map-append make (map (gate_above n h) gates) (replicate padding zero_gate)
      ∙ ap₂ (λ xs ys. xs ++ ys)
      (map-map make (gate_above n h) gates ∙ map_agree (λ k. make (gate_above n h k)) value gates (All-weaker (IsAbove n h) (λ k. make (gate_above n h k) ≡ value k) (λ k. gate_right h k l) gates (row_above n is h l)))
      (map-replicate make padding zero_gate ∙ ap₂ (λ m z. replicate m z) counts (add_f_zero zero_f)))

  leaf_right : (k : ℕ) (node : Node) → level_of (levels n) node ≡ 0 → leaf_value inputs (leaf_of node) ≡ node_value inputs (values n inputs) node
  leaf_right k (Input j) e = refl
  leaf_right k (Constant x) e = refl
  leaf_right k (Operation gate) e = absurd (omega arith)

  leaves_right : map (leaf_value inputs) (map (λ k. leaf_of (node_at n k)) (row n 0)) ≡ map value (row n 0)
  leaves_right =
      let rows = filter (is_at n 0) (range_with_len 0 (length n.nodes)) in
      let each = λ (k : ℕ) (s : (k < length n.nodes) × (is_at n 0 k ≡ true)). leaf_right k (node_at n k) (sym (level_at n k is s.0) ∙ eqb-true _ _ s.1) ∙ sym (value_at n inputs k is s.0) in
      let leaf = λ (k : ℕ). leaf_value inputs (leaf_of (node_at n k)) in
      map-map (leaf_value inputs) (λ k. leaf_of (node_at n k)) (row n 0)
      ∙ map_agree leaf value (row n 0) (All-same (λ k. leaf k ≡ value k) (row n 0) rows (row_below n 0 (omega arith)) (All-weaker _ (λ k. leaf k ≡ value k) each rows (filter_within (is_at n 0) (length n.nodes))))

  abbrev pub input_values : List F
  input_values = padded_values (size_for (1 + length (row n 0))) (map (leaf_value inputs) (map (λ k. leaf_of (node_at n k)) (row n 0)))

  pub values_at_height : (h : ℕ) → h ≤ height_of n → values_of (layers_from n h) input_values ≡ row_values h
  values_at_height zero l = ap (padded_values (size_for (1 + length (row n 0)))) leaves_right
  values_at_height (suc h) l =
      ap (λ below. map (gate_value below) (padded (map (gate_above n h) (row n (suc h))))) (values_at_height h (omega arith)) ∙ layer_right h (omega arith)

  -- the first layer holds the outputs
  pub outputs_right : layer_values (circuit_of n) inputs 0 ≡ padded_values (size_for (1 + length n.outputs)) (output_values n inputs)
  outputs_right =
      values_at_height (height_of n) (omega arith) ∙ ap (λ r. padded_values (size_for (1 + length r)) (map value r)) (row_top n)

  pub output_at : (j : ℕ) → j < length n.outputs → get_or (layer_values (circuit_of n) inputs 0) (1 + j) zero_f ≡ value (get_or n.outputs j 0)
  output_at j l =
      let padding = replicate (size_for (1 + length n.outputs) - (1 + length (output_values n inputs))) zero_f in
      ap (λ vs. get_or vs (1 + j) zero_f) outputs_right
      ∙ get_or_behind zero_f (output_values n inputs) padding j zero_f (omega (arith, l, length-map n.outputs value))
      ∙ get_or-map value n.outputs j 0 zero_f l

  pub zero_at_0 : get_or (layer_values (circuit_of n) inputs 0) 0 zero_f ≡ zero_f
  zero_at_0 = ap (λ vs. get_or vs 0 zero_f) outputs_right

  pub zero_past : (g : ℕ) → length n.outputs < g → get_or (layer_values (circuit_of n) inputs 0) g zero_f ≡ zero_f
  zero_past zero l = absurd (omega arith)
  zero_past (suc g) l =
      let outputs = output_values n inputs in
      let padding = size_for (1 + length n.outputs) - (1 + length outputs) in
      ap (λ vs. get_or vs (suc g) zero_f) outputs_right
      ∙ get_or-append_right outputs (replicate padding zero_f) (length outputs) g zero_f refl (omega (arith, l, length-map n.outputs value))
      ∙ elim (cases_lt (g - length outputs) padding) [
        | inl u ↦ get_or-replicate padding (g - length outputs) zero_f zero_f u
        | inr u ↦ get_or_past (replicate padding zero_f) (g - length outputs) zero_f (omega (arith, u, length-replicate padding zero_f))
      ]
