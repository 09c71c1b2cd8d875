-- What is counted where shapes aren't refused.
use Rattle.std.proofs.Common.{◌≡◌, ℕ, ◌+◌, ◌*◌, ◌≤◌, Ok, sym, subst, arith}
use Rattle.std.specs.Prelude.{nat_le, nat_lt}
use Rattle.std.proofs.lemmas.Bool.Decides.{nat_tests}
use Rattle.arr_ast.specs.declared.expression.Sign.TheVariants.{Plus, Minus}
use Rattle.arr_ast.specs.declared.shape.ShapeOf.{ShapeOf}
use Rattle.arr_scope.specs.declared.counts.Counts.{Counts}
use Rattle.arr_scope.specs.declared.refused.CheckKind.TheVariants as kinds
use Rattle.arr_scope.specs.declared.refused.CheckRefused.TheVariants.{Bad}
use Rattle.arr_ast.specs.declared.lang.Lang.{Lang}
use Rattle.arr_ast.specs.declared.lang.Lang.TheVariants.{One, Two}
use Rattle.arr_scope.specs.Counting.{step_at, nodes_at, constant_at}
use Rattle.arr_scope.specs.Shape.{size_of, same_shape, for_nodes, for_minus_one, sum_shape, product_shape}
use Rattle.arr_scope.specs.Limits.{most_nodes}
use Rattle.arr_scope.proofs.api.Answered.{bind_ok, if_ok, pair_ok, same_ok}

pub step_at-is : (at : ℕ) (before counts : Counts) → step_at at before ≡ Ok counts → counts ≡ record before { steps = before.steps + 1 }
step_at-is at before counts e =
    sym (same_ok (record before { steps = before.steps + 1 }) counts (if_ok (nat_lt before.steps 1048576) (Ok (record before { steps = before.steps + 1 })) (Bad at kinds.Steps) counts e).1)

pub most_nodes-bounded : (lang : Lang) → most_nodes lang ≤ 1048576
most_nodes-bounded One = omega arith
most_nodes-bounded Two = omega arith

pub nodes_at-is : (at more : ℕ) (before counts : Counts) → nodes_at at more before ≡ Ok counts → (counts ≡ record before { nodes = more + before.nodes }) × (more + before.nodes ≤ 1048576)
nodes_at-is at more before counts e =
    let found = if_ok (nat_le (more + before.nodes) (most_nodes before.lang)) (Ok (record before { nodes = more + before.nodes })) (Bad at kinds.Nodes) counts e in
    let within : more + before.nodes ≤ most_nodes before.lang = grind (arith, nat_tests, found.0) in
    (sym (same_ok (record before { nodes = more + before.nodes }) counts found.1), omega (arith, within, most_nodes-bounded before.lang))

pub for_nodes-counts : (at count : ℕ) (shape found : ShapeOf) (before counts : Counts) → for_nodes at count shape before ≡ Ok (found, counts) → nodes_at at count before ≡ Ok counts
for_nodes-counts at count shape found before counts e =
    let parts = bind_ok (nodes_at at count before) _ (found, counts) e in
    subst (λ (c : Counts). nodes_at at count before ≡ Ok c) (sym (pair_ok (found, counts) shape parts.0 parts.2).1) parts.1

pub for_minus_one-counts : (at count : ℕ) (shape found : ShapeOf) (before counts : Counts) → for_minus_one at count shape before ≡ Ok (found, counts) →
    (middle : Counts) × (constant_at at 2147483646 before ≡ Ok middle) × (nodes_at at count middle ≡ Ok counts)
for_minus_one-counts at count shape found before counts e =
    let parts = bind_ok (constant_at at 2147483646 before) _ (found, counts) e in
    (parts.0, parts.1, for_nodes-counts at count shape found parts.0 counts parts.2)

pub sum-counts : (at : ℕ) (left right found : ShapeOf) (before counts : Counts) → sum_shape Plus at left right before ≡ Ok (found, counts) → nodes_at at (size_of left) before ≡ Ok counts
sum-counts at left right found before counts e =
    for_nodes-counts at (size_of left) left found before counts (if_ok (same_shape left right) (for_nodes at (size_of left) left before) (Bad at kinds.Shape) (found, counts) e).1

pub difference-counts : (at : ℕ) (left right found : ShapeOf) (before counts : Counts) → sum_shape Minus at left right before ≡ Ok (found, counts) →
    (middle : Counts) × (constant_at at 2147483646 before ≡ Ok middle) × (nodes_at at (size_of left * 2) middle ≡ Ok counts)
difference-counts at left right found before counts e =
    for_minus_one-counts at (size_of left * 2) left found before counts (if_ok (same_shape left right) (for_minus_one at (size_of left * 2) left before) (Bad at kinds.Shape) (found, counts) e).1

pub product-counts : (at : ℕ) (left right found : ShapeOf) (before counts : Counts) → product_shape at left right before ≡ Ok (found, counts) → nodes_at at (size_of left) before ≡ Ok counts
product-counts at left right found before counts e =
    for_nodes-counts at (size_of left) left found before counts (if_ok (same_shape left right) (for_nodes at (size_of left) left before) (Bad at kinds.Shape) (found, counts) e).1
