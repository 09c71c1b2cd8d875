-- How the nodes of an array's elements are made, after those made so far. A node's number is its place in the list.
use Rattle.std.specs.Prelude.{ℕ, zero, suc, ◌+◌, ◌*◌, ◌/◌, ◌%◌, List, [], ◌∷◌, ◌++◌, length, map, take, drop, get_or, Bool, false, ◌==◌, nat_lt, if◌then◌else◌}
use Rattle.std.specs.List.{zip, range_with_len, position_or_len}
use Rattle.arr_ast.specs.declared.expression.Sign.{Sign}
use Rattle.arr_ast.specs.declared.expression.Sign.TheVariants.{Plus, Minus}
use Rattle.arr_ast.specs.declared.expression.SingleFunction.{SingleFunction}
use Rattle.arr_ast.specs.declared.expression.SingleFunction.TheVariants.{Sum, Transpose}
use Rattle.arr_ast.specs.declared.expression.PairFunction.{PairFunction}
use Rattle.arr_ast.specs.declared.expression.PairFunction.TheVariants.{Scale, Dot, MatMul}
use Rattle.arr_ast.specs.declared.shape.ShapeOf.{ShapeOf}
use Rattle.arr_ast.specs.declared.shape.ShapeOf.TheVariants.{Matrix}
use Rattle.field_ext.specs.Field.{F, of}
use Rattle.arr_scope.specs.Limits.{minus_one}
use Rattle.circuit_core.specs.declared.gate.Kind.{Kind}
use Rattle.circuit_core.specs.declared.gate.Kind.TheVariants.{Add, Mul}
use Rattle.node_core.specs.declared.node.Node.{Node}
use Rattle.node_core.specs.declared.node.Node.TheVariants.{Input, Constant, Operation}

-- numbers of nodes, and all nodes made so far
pub record Made : Type 0 where
  pub items : List ℕ
  pub nodes : List Node

-- the number of one node, and all nodes made so far
pub record MadeOne : Type 0 where
  pub item : ℕ
  pub nodes : List Node

abbrev pub one_made : MadeOne → Made
one_made one = record { items = one.item ∷ []; nodes = one.nodes }

-- nodes that were made before
abbrev pub none_made : List ℕ → List Node → Made
none_made items nodes = record { items = items; nodes = nodes }

-- so many leaves; those of a program come first, so the number of an input is its leaf's
abbrev pub leaf_nodes : ℕ → List Node → Made
leaf_nodes count nodes = record {
  items = range_with_len (length nodes) count;
  nodes = nodes ++ map Input (range_with_len (length nodes) count);
}

-- the nodes of a list, each made after those of the elements before it
abbrev pub made_after : {A : Type 0} → (A → List Node → MadeOne) → List A → Made → Made
made_after make [] made = made
made_after make (x ∷ xs) made =
    let one = make x made.nodes in
    made_after make xs (record { items = made.items ++ one.item ∷ []; nodes = one.nodes })

abbrev pub made_each : {A : Type 0} → (A → List Node → MadeOne) → List A → List Node → Made
made_each make xs nodes = made_after make xs (record { items = []; nodes = nodes })

abbrev pub is_constant : F → Node → Bool
is_constant x (Input j) = false
is_constant x (Constant y) = y.value == x.value
is_constant x (Operation gate) = false

-- where a constant is, or the number of nodes
abbrev pub constant_place : ℕ → List Node → ℕ
constant_place value nodes = position_or_len (is_constant (of value)) nodes

-- a constant is made at its first use
abbrev pub constant_node : ℕ → List Node → MadeOne
constant_node value nodes = record {
  item = constant_place value nodes;
  nodes = if nat_lt (constant_place value nodes) (length nodes) then nodes
      else nodes ++ Constant (of value) ∷ [];
}

-- a sum or a product of two nodes
abbrev pub operation_node : Kind → ℕ × ℕ → List Node → MadeOne
operation_node kind pair nodes = record {
  item = length nodes;
  nodes = nodes ++ Operation (record { kind = kind; left = pair.0; right = pair.1 }) ∷ [];
}

-- the second of a pair times -1, and the first plus that
abbrev pub difference_node : ℕ → ℕ × ℕ → List Node → MadeOne
difference_node factor pair nodes =
    operation_node Add (pair.0, length nodes) (operation_node Mul (pair.1, factor) nodes).nodes

-- element by element of two lists
abbrev pub pairwise_nodes : Kind → List ℕ → List ℕ → List Node → Made
pairwise_nodes kind left right nodes = made_each (operation_node kind) (zip left right) nodes

-- one node times each
abbrev pub scaled_nodes : ℕ → List ℕ → List Node → Made
scaled_nodes factor items nodes = made_each (λ item. operation_node Mul (factor, item)) items nodes

-- each times -1
abbrev pub negated_nodes : List ℕ → List Node → Made
negated_nodes items nodes =
    let factor = constant_node minus_one nodes in
    made_each (λ item. operation_node Mul (item, factor.item)) items factor.nodes

abbrev pub difference_nodes : List ℕ → List ℕ → List Node → Made
difference_nodes left right nodes =
    let factor = constant_node minus_one nodes in
    made_each (difference_node factor.item) (zip left right) factor.nodes

-- the first n / 2 of n, rounded up
abbrev pub first_half : ℕ → ℕ
first_half n = (n + 1) / 2

-- the sum of the first half plus the sum of the rest, where so many halvings are enough; the sum of nothing is the constant 0
abbrev pub sum_within : ℕ → List ℕ → List Node → MadeOne
sum_within depth [] nodes = constant_node 0 nodes
sum_within depth (item ∷ []) nodes = record { item = item; nodes = nodes }
sum_within zero (item ∷ next ∷ items) nodes = constant_node 0 nodes
sum_within (suc depth) (item ∷ next ∷ items) nodes =
    let half = first_half (length (item ∷ next ∷ items)) in
    let left = sum_within depth (take half (item ∷ next ∷ items)) nodes in
    let right = sum_within depth (drop half (item ∷ next ∷ items)) left.nodes in
    operation_node Add (left.item, right.item) right.nodes

abbrev pub sum_node : List ℕ → List Node → MadeOne
sum_node items nodes = sum_within (length items) items nodes

-- the products of pairs in order, then their sum
abbrev pub dot_node : List (ℕ × ℕ) → List Node → MadeOne
dot_node pairs nodes = let products = made_each (operation_node Mul) pairs nodes in
    sum_node products.items products.nodes

-- row k / q of rows of m, with column k % q of rows of q
abbrev pub product_pairs : ℕ → ℕ → List ℕ → List ℕ → ℕ → List (ℕ × ℕ)
product_pairs m q left right k =
    map (λ l. (get_or left (k / q * m + l) 0, get_or right (l * q + k % q) 0)) (range_with_len 0 m)

-- the elements of a product of n rows of m and m rows of q, row by row
abbrev pub matmul_nodes : ℕ → ℕ → ℕ → List ℕ → List ℕ → List Node → Made
matmul_nodes n m q left right nodes =
    made_each (λ k. dot_node (product_pairs m q left right k)) (range_with_len 0 (n * q)) nodes

-- n rows of m, as m rows of n
abbrev pub transposed_items : ℕ → ℕ → List ℕ → List ℕ
transposed_items n m items =
    map (λ k. get_or items (k % n * m + k / n) 0) (range_with_len 0 (m * n))

abbrev pub signed_nodes : Sign → List ℕ → List ℕ → List Node → Made
signed_nodes Plus left right nodes = pairwise_nodes Add left right nodes
signed_nodes Minus left right nodes = difference_nodes left right nodes

abbrev pub single_nodes : SingleFunction → ShapeOf → List ℕ → List Node → Made
single_nodes Sum shape items nodes = one_made (sum_node items nodes)
single_nodes Transpose (Matrix n m) items nodes = none_made (transposed_items n m items) nodes
single_nodes Transpose shape items nodes = none_made items nodes

abbrev pub pair_nodes : PairFunction → ShapeOf → ShapeOf → List ℕ → List ℕ → List Node → Made
pair_nodes Scale shape other left right nodes = scaled_nodes (get_or left 0 0) right nodes
pair_nodes Dot shape other left right nodes = one_made (dot_node (zip left right) nodes)
pair_nodes MatMul (Matrix n m) (Matrix k q) left right nodes =
    matmul_nodes n m q left right nodes
pair_nodes MatMul shape other left right nodes = none_made [] nodes
