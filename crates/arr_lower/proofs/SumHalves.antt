-- A sum by halves needs no more halvings than the list is long.
use Rattle.std.proofs.Common.{◌≡◌, ℕ, zero, suc, ◌-◌, ◌/◌, ◌≤◌, List, [], ◌∷◌, take, drop, length, refl, ap, sym, ◌∙◌, arith}
use Rattle.std.proofs.lemmas.List.{length-take-le, length-drop}
use Rattle.circuit_core.specs.declared.gate.Kind.TheVariants.{Add}
use Rattle.node_core.specs.declared.node.Node.{Node}
use Rattle.arr_lower.specs.Operations.{MadeOne, first_half, sum_within, sum_node, operation_node}
use Rattle.arr_lower.proofs.MadeInTurn.{one_of}

abbrev in_halves : (List ℕ → List Node → MadeOne) → ℕ → List ℕ → List Node → MadeOne
in_halves sum half items nodes =
    let left = sum (take half items) nodes in
    let right = sum (drop half items) left.nodes in
    operation_node Add (left.item, right.item) right.nodes

halves-short : (items : List ℕ) (half depth : ℕ) → half ≡ first_half (length items) → 2 ≤ length items → length items ≤ suc depth → (length (take half items) ≤ depth) × (length (drop half items) ≤ depth)
halves-short items half depth is long short =
    let some : half ≤ length items = omega arith in
    let front = length-take-le half items some in
    let rest = length-drop half items in
    (omega arith, omega arith)

sum_within-enough : (depth other : ℕ) (items : List ℕ) (nodes : List Node) → length items ≤ depth → length items ≤ other → sum_within depth items nodes ≡ sum_within other items nodes
sum_within-enough depth other [] nodes enough too = refl
sum_within-enough depth other (item ∷ []) nodes enough too = refl
sum_within-enough zero other (item ∷ next ∷ items) nodes enough too = absurd (omega arith)
sum_within-enough (suc depth) zero (item ∷ next ∷ items) nodes enough too = absurd (omega arith)
sum_within-enough (suc depth) (suc other) (item ∷ next ∷ items) nodes enough too =
    let all : List ℕ = item ∷ next ∷ items in
    let half = first_half (length all) in
    let by_depth = halves-short all half depth refl (omega arith) enough in
    let by_other = halves-short all half other refl (omega arith) too in
    ap (λ (left : MadeOne). let right = sum_within depth (drop half all) left.nodes in operation_node Add (left.item, right.item) right.nodes)
    (sum_within-enough depth other (take half all) nodes by_depth.0 by_other.0)
    ∙ ap (λ (right : MadeOne). operation_node Add ((sum_within other (take half all) nodes).item, right.item) right.nodes)
    (sum_within-enough depth other (drop half all) (sum_within other (take half all) nodes).nodes by_depth.1 by_other.1)

sum_node-halves : (items : List ℕ) (half : ℕ) (nodes : List Node) → 2 ≤ length items → half ≡ first_half (length items) → sum_node items nodes ≡ in_halves sum_node half items nodes
sum_node-halves [] half nodes long is = absurd (omega arith)
sum_node-halves (item ∷ []) half nodes long is = absurd (omega arith)
sum_node-halves (item ∷ next ∷ items) half nodes long is =
    let all : List ℕ = item ∷ next ∷ items in
    let depth : ℕ = suc (length items) in
    let short = halves-short all half depth is (omega arith) (omega arith) in
    ap (λ h. in_halves (sum_within depth) h all nodes) (sym is)
    ∙ ap (λ (left : MadeOne). let right = sum_within depth (drop half all) left.nodes in operation_node Add (left.item, right.item) right.nodes)
    (sum_within-enough depth (length (take half all)) (take half all) nodes short.0 (omega arith))
    ∙ ap (λ (right : MadeOne). operation_node Add ((sum_node (take half all) nodes).item, right.item) right.nodes)
    (sum_within-enough depth (length (drop half all)) (drop half all) (sum_node (take half all) nodes).nodes short.1 (omega arith))

-- as the call makes it
pub sum_node-by_halves : (items front rest : List ℕ) (half : ℕ) (before between after : List Node) (left right : ℕ) → 2 ≤ length items → half ≡ length items - length items / 2 → front ≡ take half items → rest ≡ drop half items
    → sum_node front before ≡ one_of left between → sum_node rest between ≡ one_of right after → sum_node items before ≡ operation_node Add (left, right) after
sum_node-by_halves items front rest half before between after left right long is_half is_front is_rest sum_left sum_right =
    sum_node-halves items half before long (omega arith)
    ∙ ap (λ (made : MadeOne). let right = sum_node (drop half items) made.nodes in operation_node Add (made.item, right.item) right.nodes) (ap (λ xs. sum_node xs before) (sym is_front) ∙ sum_left)
    ∙ ap (λ (made : MadeOne). operation_node Add (left, made.item) made.nodes) (ap (λ xs. sum_node xs between) (sym is_rest) ∙ sum_right)
