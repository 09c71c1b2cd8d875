-- The nodes after the inputs are as many as the inputs have numbers.
use Rattle.std.proofs.Common.{◌≡◌, ℕ, ◌+◌, ◌&&◌, ◌≤◌, List, [], ◌∷◌, reverse, Ok, ap, sym, ◌∙◌, subst, arith}
use Rattle.std.specs.Prelude.{nat_lt, nat_le}
use Rattle.std.proofs.lemmas.Bool.Decides.{nat_tests}
use Rattle.std.proofs.lemmas.List.Sums.{sum_by-cons}
use Rattle.arr_ast.specs.declared.lang.Lang.{Lang}
use Rattle.arr_ast.specs.declared.program.Dimension.{Dimension}
use Rattle.arr_ast.specs.declared.program.Dimensions.{Dimensions}
use Rattle.arr_ast.specs.declared.program.Dimensions.TheVariants.{Scalar, Vector, Matrix}
use Rattle.arr_ast.specs.declared.shape.ShapeOf.{ShapeOf}
use Rattle.arr_ast.specs.declared.shape.ShapeOf.TheVariants.{Scalar as ShapeScalar, Vector as ShapeVector, Matrix as ShapeMatrix}
use Rattle.arr_ast.specs.ProgramTree.{InputTree, ProgramTree}
use Rattle.arr_scope.specs.declared.counts.Counts.{Counts}
use Rattle.arr_scope.specs.Agrees.{◌>>=◌, each}
use Rattle.arr_scope.specs.Counting.{step_at, nodes_at}
use Rattle.arr_run.specs.Operations.{Operations}
use Rattle.arr_run.specs.Program.{after_input, after_top, run_of, if_any_output, dimension_of, input_shape, declared_shape, numbers_of_input, input_count, none_counted}
use Rattle.arr_scope.specs.Shape.{size_of}
use Rattle.arr_scope.specs.Limits.{most_nodes}
use Rattle.arr_run.specs.Definitions.{after_definitions}
use Rattle.arr_run.specs.State.{State, state, bound, if_free}
use Rattle.arr_scope.proofs.api.Answered.{bind_ok, if_ok, same_ok}
use Rattle.arr_scope.proofs.api.Counted.{most_nodes-bounded}

-- a step leaves the nodes as they were
pub step_at-keeps : (at : ℕ) (counts after : Counts) → step_at at counts ≡ Ok after → after.nodes ≡ counts.nodes
step_at-keeps at counts after e =
    let found = if_ok (nat_lt counts.steps 1048576) (Ok (record counts { steps = counts.steps + 1 })) _ after e in
    sym (ap (λ (c : Counts). c.nodes) (same_ok (record counts { steps = counts.steps + 1 }) after found.1))

nodes_at-adds : (at more : ℕ) (counts after : Counts) → nodes_at at more counts ≡ Ok after → after.nodes ≡ more + counts.nodes
nodes_at-adds at more counts after e =
    let found = if_ok (nat_le (more + counts.nodes) (most_nodes counts.lang)) (Ok (record counts { nodes = more + counts.nodes })) _ after e in
    sym (ap (λ (c : Counts). c.nodes) (same_ok (record counts { nodes = more + counts.nodes }) after found.1))

nodes_at-few : (at more : ℕ) (counts after : Counts) → nodes_at at more counts ≡ Ok after → after.nodes ≤ 1048576
nodes_at-few at more counts after e =
    let found = if_ok (nat_le (more + counts.nodes) (most_nodes counts.lang)) (Ok (record counts { nodes = more + counts.nodes })) _ after e in
    let inside : more + counts.nodes ≤ most_nodes counts.lang = grind (arith, nat_tests, found.0) in
    let within : more + counts.nodes ≤ 1048576 = omega (arith, inside, most_nodes-bounded counts.lang) in
    subst (λ (c : Counts). c.nodes ≤ 1048576) (same_ok (record counts { nodes = more + counts.nodes }) after found.1) within

dimension_of-same : (dimension : Dimension) (n : ℕ) → dimension_of dimension ≡ Ok n → n ≡ dimension.size
dimension_of-same dimension n e = sym (same_ok dimension.size n (if_ok (nat_le 1 dimension.size && nat_le dimension.size 4096) (Ok dimension.size) _ n e).1)

-- a shape that is within its limits is the one declared
pub input_shape-declared : (dimensions : Dimensions) (shape : ShapeOf) → input_shape dimensions ≡ Ok shape → shape ≡ declared_shape dimensions
input_shape-declared Scalar shape e = sym (same_ok ShapeScalar shape e)
input_shape-declared (Vector first) shape e =
    let n = bind_ok (dimension_of first) (λ n. Ok (ShapeVector n)) shape e in
    sym (same_ok (ShapeVector n.0) shape n.2) ∙ ap ShapeVector (dimension_of-same first n.0 n.1)
input_shape-declared (Matrix first second) shape e =
    let n = bind_ok (dimension_of first) (λ n. dimension_of second >>= λ m. Ok (ShapeMatrix n m)) shape e in
    let m = bind_ok (dimension_of second) (λ m. Ok (ShapeMatrix n.0 m)) shape n.2 in
    sym (same_ok (ShapeMatrix n.0 m.0) shape m.2)
    ∙ ap (λ k. ShapeMatrix k m.0) (dimension_of-same first n.0 n.1) ∙ ap (ShapeMatrix first.size) (dimension_of-same second m.0 m.1)

module _ {A S : Type 0} (operations : Operations A S) where
  after_input-nodes : (input : InputTree) (before after : State A S) → after_input operations input before ≡ Ok after → after.counts.nodes ≡ numbers_of_input input + before.counts.nodes
  after_input-nodes input before after e =
      let stepped = bind_ok (step_at input.at before.counts) _ after e in
      let free = bind_ok (if_free input.name.at (bound input.name before.names)) _ after stepped.2 in
      let shaped = bind_ok (input_shape input.dimensions) _ after free.2 in
      let counted = bind_ok (nodes_at input.name.at (size_of shaped.0) stepped.0) _ after shaped.2 in
      let named : after.counts.nodes ≡ counted.0.nodes = sym (ap (λ (r : State A S). r.counts.nodes) (same_ok _ after counted.2)) in
      let more : counted.0.nodes ≡ size_of shaped.0 + stepped.0.nodes = nodes_at-adds input.name.at (size_of shaped.0) stepped.0 counted.0 counted.1 in
      let begun : stepped.0.nodes ≡ before.counts.nodes = step_at-keeps input.at before.counts stepped.0 stepped.1 in
      let size : size_of shaped.0 ≡ numbers_of_input input = ap size_of (input_shape-declared input.dimensions shaped.0 shaped.1) in
      omega (arith, named, more, begun, size)

  inputs-nodes : (inputs : List InputTree) (before after : State A S) → each (after_input operations) inputs before ≡ Ok after → after.counts.nodes ≡ input_count inputs + before.counts.nodes
  inputs-nodes [] before after e = let same : after.counts.nodes ≡ before.counts.nodes = sym (ap (λ (r : State A S). r.counts.nodes) (same_ok before after e)) in omega (arith, same)
  inputs-nodes (input ∷ inputs) before after e =
      let first = bind_ok (after_input operations input before) (each (after_input operations) inputs) after e in
      let one : first.0.counts.nodes ≡ numbers_of_input input + before.counts.nodes = after_input-nodes input before first.0 first.1 in
      let rest : after.counts.nodes ≡ input_count inputs + first.0.counts.nodes = inputs-nodes inputs first.0 after first.2 in
      omega (arith, one, rest, sum_by-cons numbers_of_input input inputs)

  pub start-nodes : (lang : Lang) (inputs : List InputTree) (kept : S) (after : State A S) → each (after_input operations) inputs (state [] (none_counted lang) kept) ≡ Ok after → after.counts.nodes ≡ input_count inputs
  start-nodes lang inputs kept after e = let nodes : after.counts.nodes ≡ input_count inputs + 0 = inputs-nodes inputs (state [] (none_counted lang) kept) after e in omega (arith, nodes)

  inputs-few : (inputs : List InputTree) (before after : State A S) → before.counts.nodes ≤ 1048576 → each (after_input operations) inputs before ≡ Ok after → after.counts.nodes ≤ 1048576
  inputs-few [] before after few e = subst (λ (r : State A S). r.counts.nodes ≤ 1048576) (same_ok before after e) few
  inputs-few (input ∷ inputs) before after few e =
      let first = bind_ok (after_input operations input before) (each (after_input operations) inputs) after e in
      let stepped = bind_ok (step_at input.at before.counts) _ first.0 first.1 in
      let free = bind_ok (if_free input.name.at (bound input.name before.names)) _ first.0 stepped.2 in
      let shaped = bind_ok (input_shape input.dimensions) _ first.0 free.2 in
      let counted = bind_ok (nodes_at input.name.at (size_of shaped.0) stepped.0) _ first.0 shaped.2 in
      let named : first.0.counts.nodes ≡ counted.0.nodes = sym (ap (λ (r : State A S). r.counts.nodes) (same_ok _ first.0 counted.2)) in
      let now = nodes_at-few input.name.at (size_of shaped.0) stepped.0 counted.0 counted.1 in
      inputs-few inputs first.0 after (omega (arith, named, now)) first.2

  -- a program that isn't refused has no more inputs than it may have nodes
  pub few-inputs : (lang : Lang) (program : ProgramTree) (kept : S) (after : State A S) → run_of operations lang program kept ≡ Ok after → input_count program.inputs ≤ 1048576
  few-inputs lang program kept after e =
      let inputs = each (after_input operations) program.inputs (state [] (none_counted lang) kept) in
      let tops = each (after_top operations (reverse program.definitions)) program.statements in
      let whole = bind_ok (inputs >>= after_definitions [] program.definitions >>= tops) (if_any_output program.end) after e in
      let defined = bind_ok (inputs >>= after_definitions [] program.definitions) tops whole.0 whole.1 in
      let begun = bind_ok inputs (after_definitions [] program.definitions) defined.0 defined.1 in
      let few = inputs-few program.inputs (state [] (none_counted lang) kept) begun.0 (omega arith) begun.1 in
      let many = start-nodes lang program.inputs kept begun.0 begun.1 in
      omega (arith, few, many)

pub ruleset of_inputs = (start-nodes)
