-- The run over nodes beside the run over shapes: the nodes that are counted are those that are made.
use Rattle.std.proofs.Common.{◌≡◌, ℕ, zero, suc, ◌+◌, ◌-◌, ◌*◌, ◌≤◌, ◌==◌, ◌&&◌, Bool, true, false, List, [], ◌∷◌, ◌++◌, length, get_or, Some, Ok, Err, refl, sym, ap, ◌∙◌, subst, arith, length-append}
use Rattle.std.specs.Prelude.{if◌then◌else◌, nat_le, ◌||◌, IsTrue, IsSome, is_ok}
use Rattle.std.specs.List.{zip, range_with_len}
use Rattle.std.specs.FinSet as set
use Rattle.std.specs.Cmp.{unsigned_tied, nat_cmp_total}
use Rattle.std.specs.Ordering.{nat_cmp}
use Rattle.std.proofs.lemmas.Bool.{eqb-true}
use Rattle.std.proofs.lemmas.Bool.Decides.{nat_tests}
use Rattle.std.proofs.lemmas.List.{length_push, length-set}
use Rattle.std.proofs.lemmas.List.FromFn.{length-range_with_len, length-map-range_with_len}
use Rattle.arr_ast.specs.declared.expression.Sign.{Sign}
use Rattle.arr_ast.specs.declared.expression.Sign.TheVariants.{Plus, Minus}
use Rattle.arr_ast.specs.declared.expression.SingleFunction.{SingleFunction}
use Rattle.arr_ast.specs.declared.expression.SingleFunction.TheVariants.{Sum, Transpose}
use Rattle.arr_ast.specs.declared.expression.PairFunction.{PairFunction}
use Rattle.arr_ast.specs.declared.expression.PairFunction.TheVariants.{Scale, Dot, MatMul}
use Rattle.arr_ast.specs.declared.program.Dimension.{Dimension}
use Rattle.arr_ast.specs.declared.program.Dimensions.{Dimensions}
use Rattle.arr_ast.specs.declared.program.Dimensions.TheVariants as dimensions
use Rattle.arr_ast.specs.declared.shape.ShapeOf.{ShapeOf}
use Rattle.arr_ast.specs.declared.shape.ShapeOf.TheVariants.{Scalar, Vector, Matrix}
use Rattle.arr_ast.specs.declared.lang.Lang.{Lang}
use Rattle.arr_ast.specs.declared.lang.Lang.TheVariants.{One, Two}
use Rattle.arr_ast.specs.ProgramTree.{ProgramTree}
use Rattle.arr_scope.specs.declared.counts.Counts.{Counts}
use Rattle.arr_scope.specs.declared.refused.CheckKind.TheVariants as kinds
use Rattle.arr_scope.specs.declared.refused.CheckRefused.{CheckRefused}
use Rattle.arr_scope.specs.declared.refused.CheckRefused.TheVariants.{Bad}
use Rattle.arr_scope.specs.Agrees.{Answer, ◌>>=◌}
use Rattle.arr_scope.specs.Counting.{nodes_at, constant_at, element_number, with_constant}
use Rattle.arr_run.specs.Program.{end_of, run_of, dimension_of, input_shape, none_counted, input_count}
use Rattle.arr_scope.specs.Shape.{size_of, same_shape, for_nodes, for_minus_one, sum_shape, single_shape, pair_shape}
use Rattle.arr_run.specs.State.{State}
use Rattle.arr_scope.proofs.api.Answered.{bind_ok, if_ok, pair_ok, same_ok}
use Rattle.arr_scope.proofs.api.Counted.{step_at-is, nodes_at-is, for_nodes-counts, for_minus_one-counts, sum-counts, difference-counts, product-counts}
use Rattle.arr_run.proofs.api.Counted.{some-output, outputs_at-is}
use Rattle.arr_run.proofs.api.InputNodes.{few-inputs}
use Rattle.arr_run.proofs.api.Wider.{Kept as IsKept, state_in_two, run_kept}
use Rattle.arr_run.proofs.api.Related.{Gives, GoTogether, GoOn, Begin, BothStates, programs}
use Rattle.arr_scope.proofs.api.Shapes.{same_shape-size, for_nodes-shape, for_minus_one-shape, sum_shape-shape, product_shape-shape}
use Rattle.arr_check.specs.declared.shapes.Shapes.{Shapes}
use Rattle.arr_check.specs.Program.{run_program, run_end, or_none}
use Rattle.arr_check.specs.Shapes.{shapes}
use Rattle.field_ext.specs.Field.{F, of}
use Rattle.field_ext.proofs.api.Elements.{of-value}
use Rattle.circuit_core.specs.declared.gate.Kind.{Kind}
use Rattle.circuit_core.specs.declared.gate.Kind.TheVariants.{Add, Mul}
use Rattle.node_core.specs.declared.node.Node.{Node}
use Rattle.node_core.specs.declared.node.Node.TheVariants.{Constant}
use Rattle.node_core.specs.Nodes.{Nodes, IsNodeList}
use Rattle.arr_lower.specs.Lowering.{Kept, kept_after, nodes, nodes_at_end, nodes_of}
use Rattle.arr_scope.specs.Limits.{minus_one}
use Rattle.arr_lower.specs.Operations.{Made, MadeOne, leaf_nodes, constant_node, operation_node, difference_node, signed_nodes, pairwise_nodes, difference_nodes, scaled_nodes, negated_nodes, sum_node, dot_node, product_pairs, matmul_nodes, single_nodes, pair_nodes}
use Rattle.arr_lower.proofs.Adds.{Adds, has, has-push, adds-as, operation-adds, difference-adds, each-adds, each-size, leaves-add, sum-adds, dot-adds, matmul-adds, zip-size}
use Rattle.arr_lower.proofs.Means.{nodes-fine, outputs-there}
use Rattle.arr_lower.proofs.Means.{same_some}

-- what is counted is there
record IsCounted (counts : Counts) (kept : Kept) : Type 0 where
  nodes_are : length kept.nodes ≡ counts.nodes
  outputs_are : length kept.outputs ≡ counts.outputs
  few_nodes : counts.nodes ≤ 1048576
  few_outputs : counts.outputs ≤ 65535
  constants_are : (x : F) → set.contains counts.constants x.value ≡ has x kept.nodes

abbrev with_made : List Node → Kept → Kept
with_made made kept = record kept { nodes = made }

-- nodes that are counted and made
nodes-counted : (at more : ℕ) (before counts : Counts) (kept : Kept) (made : List Node) → nodes_at at more before ≡ Ok counts → Adds more kept.nodes made → IsCounted before kept → IsCounted counts (with_made made kept)
nodes-counted at more before counts kept made e adds counted =
    let found = nodes_at-is at more before counts e in
    let some : IsCounted (record before { nodes = more + before.nodes }) (with_made made kept) = record {
      nodes_are = omega (arith, adds.long, counted.nodes_are);
      outputs_are = counted.outputs_are;
      few_nodes = found.1;
      few_outputs = counted.few_outputs;
      constants_are = λ x. counted.constants_are x ∙ sym (adds.same x);
    } in
    subst (λ (c : Counts). IsCounted c (with_made made kept)) (sym found.0) some

same-number : (a b : ℕ) → (a == b) ≡ (b == a)
same-number a b = grind (arith, nat_tests)

-- a constant more, of which a set knows
one-known : (n : ℕ) (constants : set.FinSet nat_cmp) (before : List Node) (x : F) → set.contains constants x.value ≡ has x before →
    set.contains (set.insert constants (element_number n)) x.value ≡ has x (before ++ Constant (of n) ∷ [])
one-known n constants before x known =
    set.contains-insert nat_cmp_total constants (element_number n) x.value
    ∙ (λ i. (unsigned_tied x.value (element_number n) ∙ same-number x.value (element_number n) ∙ ap (λ k. k == x.value) (sym (of-value n))) i || known i)
    ∙ sym (has-push x before (Constant (of n)))

constant_if : (b : Bool) (at n : ℕ) (before counts : Counts) (kept : Kept) → has (of n) kept.nodes ≡ b → (if b then Ok before else (nodes_at at 1 before >>= λ counts. Ok (with_constant (element_number n) counts))) ≡ Ok counts →
    IsCounted before kept → IsCounted counts (with_made (if b then kept.nodes else kept.nodes ++ Constant (of n) ∷ []) kept)
constant_if true at n before counts kept is e counted = subst (λ (c : Counts). IsCounted c kept) (same_ok before counts e) counted
constant_if false at n before counts kept is e counted =
    let parts = bind_ok (nodes_at at 1 before) (λ counts. Ok (with_constant (element_number n) counts)) counts e in
    let found = nodes_at-is at 1 before parts.0 parts.1 in
    let some : IsCounted (with_constant (element_number n) (record before { nodes = 1 + before.nodes })) (with_made (kept.nodes ++ Constant (of n) ∷ []) kept) = record {
      nodes_are = omega (arith, length_push kept.nodes (Constant (of n)), counted.nodes_are);
      outputs_are = counted.outputs_are;
      few_nodes = found.1;
      few_outputs = counted.few_outputs;
      constants_are = λ x. one-known n before.constants kept.nodes x (counted.constants_are x);
    } in
    subst (λ (c : Counts). IsCounted c (with_made (kept.nodes ++ Constant (of n) ∷ []) kept)) (ap (with_constant (element_number n)) (sym found.0) ∙ same_ok (with_constant (element_number n) parts.0) counts parts.2) some

constant-counted : (at n : ℕ) (before counts : Counts) (kept : Kept) → constant_at at n before ≡ Ok counts → IsCounted before kept → IsCounted counts (with_made (constant_node n kept.nodes).nodes kept)
constant-counted at n before counts kept e counted =
    let known : set.contains before.constants (element_number n) ≡ has (of n) kept.nodes = ap (set.contains before.constants) (sym (of-value n)) ∙ counted.constants_are (of n) in
    constant_if (has (of n) kept.nodes) at n before counts kept refl
    (ap (λ b. if b then Ok before else (nodes_at at 1 before >>= λ counts. Ok (with_constant (element_number n) counts))) (sym known) ∙ e) counted

-- -1, and nodes after it
kept_after-minus_one : (at more : ℕ) (before counts : Counts) (kept : Kept) (made : List Node) → ((middle : Counts) × (constant_at at 2147483646 before ≡ Ok middle) × (nodes_at at more middle ≡ Ok counts)) →
    Adds more (constant_node minus_one kept.nodes).nodes made → IsCounted before kept → IsCounted counts (with_made made kept)
kept_after-minus_one at more before counts kept made parts adds counted =
    nodes-counted at more parts.0 counts (with_made (constant_node minus_one kept.nodes).nodes kept) made parts.2 adds (constant-counted at minus_one before parts.0 kept parts.1 counted)

abbrev Alike : Counts → Shapes → Kept → Type 0
Alike counts s t = IsCounted counts t

abbrev Stand : Shapes → Kept → ShapeOf → Unit {0} → List ℕ → Type 0
Stand s t shape a items = (length items ≡ size_of shape) × (1 ≤ size_of shape)

abbrev Later : Shapes → Kept → Shapes → Kept → Type 0
Later s t s' t' = Unit {0}

abbrev Given : Counts → Shapes → Kept → ShapeOf → Made → Type 0
Given counts s t shape made = Gives shapes nodes Alike Stand Later counts s t shape (tt, s) (kept_after t made)

pairs-long : (left right : List ℕ) (a b shape : ShapeOf) → length left ≡ size_of a → length right ≡ size_of b → same_shape a b ≡ true → shape ≡ a → length (zip left right) ≡ size_of shape
pairs-long left right a b shape l r same is = zip-size left right (size_of a) l (r ∙ sym (same_shape-size a b same)) ∙ sym (ap size_of is)

pairwise-given : (kind : Kind) (at : ℕ) (left right shape : ShapeOf) (before counts : Counts) (s : Shapes) (t : Kept) (a b : List ℕ) → nodes_at at (size_of left) before ≡ Ok counts → same_shape left right ≡ true → shape ≡ left →
    IsCounted before t → Stand s t left tt a → Stand s t right tt b → Given counts s t shape (pairwise_nodes kind a b t.nodes)
pairwise-given kind at left right shape before counts s t a b e same is counted first second =
    let long = pairs-long a b left right left first.0 second.0 same refl in
    let size : length (pairwise_nodes kind a b t.nodes).items ≡ size_of shape = each-size (operation_node kind) (zip a b) t.nodes ∙ long ∙ sym (ap size_of is) in
    let adds = adds-as (length (zip a b) * 1) (size_of left) t.nodes (pairwise_nodes kind a b t.nodes).nodes (omega (arith, long)) (each-adds (operation_node kind) 1 (operation-adds kind) (zip a b) t.nodes) in
    (nodes-counted at (size_of left) before counts t (pairwise_nodes kind a b t.nodes).nodes e adds counted, (size, subst (λ (shape : ShapeOf). 1 ≤ size_of shape) (sym is) first.1), tt)

signed-given : (sign : Sign) (at : ℕ) (left right shape : ShapeOf) (before counts : Counts) (s : Shapes) (t : Kept) (a b : List ℕ) → sum_shape sign at left right before ≡ Ok (shape, counts) →
    IsCounted before t → Stand s t left tt a → Stand s t right tt b → Given counts s t shape (signed_nodes sign a b t.nodes)
signed-given Plus at left right shape before counts s t a b e counted first second =
    let found = sum_shape-shape Plus at left right shape before counts e in
    pairwise-given Add at left right shape before counts s t a b (sum-counts at left right shape before counts e) found.0 found.1 counted first second
signed-given Minus at left right shape before counts s t a b e counted first second =
    let found = sum_shape-shape Minus at left right shape before counts e in
    let factor = constant_node minus_one t.nodes in
    let long = pairs-long a b left right left first.0 second.0 found.0 refl in
    let size : length (difference_nodes a b t.nodes).items ≡ size_of shape = each-size (difference_node factor.item) (zip a b) factor.nodes ∙ long ∙ sym (ap size_of found.1) in
    let adds = adds-as (length (zip a b) * 2) (size_of left * 2) factor.nodes (difference_nodes a b t.nodes).nodes (ap (λ n. n * 2) long) (each-adds (difference_node factor.item) 2 (difference-adds factor.item) (zip a b) factor.nodes) in
    (kept_after-minus_one at (size_of left * 2) before counts t (difference_nodes a b t.nodes).nodes (difference-counts at left right shape before counts e) adds counted, (size, subst (λ (shape : ShapeOf). 1 ≤ size_of shape) (sym found.1) first.1), tt)

opposite-given : (at : ℕ) (of shape : ShapeOf) (before counts : Counts) (s : Shapes) (t : Kept) (items : List ℕ) → for_minus_one at (size_of of) of before ≡ Ok (shape, counts) → IsCounted before t → Stand s t of tt items →
    Given counts s t shape (negated_nodes items t.nodes)
opposite-given at of shape before counts s t items e counted stand =
    let is = for_minus_one-shape at (size_of of) of shape before counts e in
    let factor = constant_node minus_one t.nodes in
    let make : ℕ → List Node → MadeOne = λ item. operation_node Mul (item, factor.item) in
    let size : length (negated_nodes items t.nodes).items ≡ size_of shape = each-size make items factor.nodes ∙ stand.0 ∙ sym (ap size_of is) in
    let adds = adds-as (length items * 1) (size_of of) factor.nodes (negated_nodes items t.nodes).nodes (omega (arith, stand.0)) (each-adds make 1 (λ item before. operation-adds Mul (item, factor.item) before) items factor.nodes) in
    (kept_after-minus_one at (size_of of) before counts t (negated_nodes items t.nodes).nodes (for_minus_one-counts at (size_of of) of shape before counts e) adds counted, (size, subst (λ (shape : ShapeOf). 1 ≤ size_of shape) (sym is) stand.1), tt)

single-given : (function : SingleFunction) (at : ℕ) (of shape : ShapeOf) (before counts : Counts) (s : Shapes) (t : Kept) (items : List ℕ) → single_shape function at of before ≡ Ok (shape, counts) → IsCounted before t → Stand s t of tt items →
    Given counts s t shape (single_nodes function of items t.nodes)
single-given Sum at of shape before counts s t items e counted stand =
    let is = for_nodes-shape at (size_of of - 1) Scalar shape before counts e in
    let adds = adds-as (length items - 1) (size_of of - 1) t.nodes (sum_node items t.nodes).nodes (omega (arith, stand.0)) (sum-adds items t.nodes (omega (arith, stand.0, stand.1))) in (
      nodes-counted at (size_of of - 1) before counts t (sum_node items t.nodes).nodes (for_nodes-counts at (size_of of - 1) Scalar shape before counts e) adds counted,
      (sym (ap size_of is), subst (λ (shape : ShapeOf). 1 ≤ size_of shape) (sym is) (omega arith)),
      tt,
    )
single-given Transpose at (Matrix n m) shape before counts s t items e counted stand =
    let found = pair_ok (shape, counts) (Matrix m n) before e in (
      subst (λ (c : Counts). IsCounted c t) (sym found.1) counted,
      (length-map-range_with_len _ 0 (m * n) ∙ sym (ap size_of found.0), subst (λ (shape : ShapeOf). 1 ≤ size_of shape) (sym found.0) (omega (arith, stand.1))),
      tt,
    )
single-given Transpose at Scalar shape before counts s t items e counted stand = cc
single-given Transpose at (Vector n) shape before counts s t items e counted stand = cc

-- the sides of a matrix that has an element
some-rows : (n m : ℕ) → 1 ≤ n * m → 1 ≤ n
some-rows zero m some = absurd (omega (arith, some))
some-rows (suc n) m some = omega arith

some-product : (n m : ℕ) → 1 ≤ n → 1 ≤ m → 1 ≤ n * m
some-product zero m rows columns = absurd (omega (arith, rows))
some-product (suc n) m rows columns = omega (arith, columns)

pair-given : (function : PairFunction) (at : ℕ) (left right shape : ShapeOf) (before counts : Counts) (s : Shapes) (t : Kept) (a b : List ℕ) → pair_shape function at left right before ≡ Ok (shape, counts) →
    IsCounted before t → Stand s t left tt a → Stand s t right tt b → Given counts s t shape (pair_nodes function left right a b t.nodes)
pair-given Scale at Scalar right shape before counts s t a b e counted first second =
    let is = for_nodes-shape at (size_of right) right shape before counts e in
    let factor : ℕ = get_or a 0 0 in
    let make : ℕ → List Node → MadeOne = λ item. operation_node Mul (factor, item) in
    let size : length (scaled_nodes factor b t.nodes).items ≡ size_of shape = each-size make b t.nodes ∙ second.0 ∙ sym (ap size_of is) in
    let adds = adds-as (length b * 1) (size_of right) t.nodes (scaled_nodes factor b t.nodes).nodes (omega (arith, second.0)) (each-adds make 1 (λ item before. operation-adds Mul (factor, item) before) b t.nodes) in
    (nodes-counted at (size_of right) before counts t (scaled_nodes factor b t.nodes).nodes (for_nodes-counts at (size_of right) right shape before counts e) adds counted, (size, subst (λ (shape : ShapeOf). 1 ≤ size_of shape) (sym is) second.1), tt)
pair-given Dot at (Vector n) (Vector m) shape before counts s t a b e counted first second =
    let found = if_ok (n == m) (for_nodes at (n + n - 1) Scalar before) (Bad at kinds.Shape) (shape, counts) e in
    let is = for_nodes-shape at (n + n - 1) Scalar shape before counts found.1 in
    let same : n ≡ m = eqb-true n m found.0 in
    let long : length (zip a b) ≡ n = zip-size a b n first.0 (second.0 ∙ sym same) in
    let adds = adds-as (length (zip a b) + length (zip a b) - 1) (n + n - 1) t.nodes (dot_node (zip a b) t.nodes).nodes (omega (arith, long)) (dot-adds (zip a b) t.nodes (omega (arith, long, first.1))) in (
      nodes-counted at (n + n - 1) before counts t (dot_node (zip a b) t.nodes).nodes (for_nodes-counts at (n + n - 1) Scalar shape before counts found.1) adds counted,
      (sym (ap size_of is), subst (λ (shape : ShapeOf). 1 ≤ size_of shape) (sym is) (omega arith)),
      tt,
    )
pair-given MatMul at (Matrix n m) (Matrix k q) shape before counts s t a b e counted first second =
    let found = if_ok (m == k) (for_nodes at ((n * q) * (m + m - 1)) (Matrix n q) before) (Bad at kinds.Shape) (shape, counts) e in
    let is = for_nodes-shape at ((n * q) * (m + m - 1)) (Matrix n q) shape before counts found.1 in
    let rows : 1 ≤ n = some-rows n m first.1 in
    let inner : 1 ≤ m = some-rows m n (omega (arith, first.1)) in
    let columns : 1 ≤ q = some-rows q k (omega (arith, second.1)) in
    let some : 1 ≤ n * q = some-product n q rows columns in
    let size : length (matmul_nodes n m q a b t.nodes).items ≡ size_of shape =
    each-size (λ k. dot_node (product_pairs m q a b k)) (range_with_len 0 (n * q)) t.nodes ∙ length-range_with_len 0 (n * q) ∙ sym (ap size_of is) in (
      nodes-counted at ((n * q) * (m + m - 1)) before counts t (matmul_nodes n m q a b t.nodes).nodes (for_nodes-counts at ((n * q) * (m + m - 1)) (Matrix n q) shape before counts found.1) (matmul-adds n m q a b t.nodes inner) counted,
      (size, subst (λ (shape : ShapeOf). 1 ≤ size_of shape) (sym is) some),
      tt,
    )
pair-given function at left right shape before counts s t a b e counted first second = cc

go : GoTogether shapes nodes Alike Stand Later
go = record {
  stays = λ s t. tt;
  further = λ s s' s'' t t' t'' first second. tt;
  kept = λ s s' t t' shape a items later stand. stand;
  constant = λ at n before counts s t e alike. (constant-counted at n before counts t e alike, (refl, omega arith), tt);
  signed = λ sign at left right shape before counts a a' b b' s t e alike first second. signed-given sign at left right shape before counts s t b b' e alike first second;
  product = λ at left right shape before counts a a' b b' s t e alike first second.
      let found = product_shape-shape at left right shape before counts e in
      pairwise-given Mul at left right shape before counts s t b b' (product-counts at left right shape before counts e) found.0 found.1 alike first second;
  opposite = λ at of shape before counts a items s t e alike stand. opposite-given at of shape before counts s t items e alike stand;
  single = λ function at of shape before counts a items s t e alike stand. single-given function at of shape before counts s t items e alike stand;
  pair = λ function at left right shape before counts a a' b b' s t e alike first second. pair-given function at left right shape before counts s t b b' e alike first second;
  stepped = λ at before counts s t e alike.
      subst (λ (c : Counts). IsCounted c t) (sym (step_at-is at before counts e))
      (record { nodes_are = alike.nodes_are; outputs_are = alike.outputs_are; few_nodes = alike.few_nodes; few_outputs = alike.few_outputs; constants_are = alike.constants_are });
  element = λ shape place a items s t within stand. (refl, omega arith);
}

more : GoOn shapes nodes Alike Stand Later
more = record {
  with_element = λ shape place a a' items item s t stand one. (length-set items place (get_or item 0 0) ∙ stand.0, stand.1);
  output = λ at shape before counts a items s t e alike stand.
      let found = outputs_at-is at (size_of shape) before counts e in (
        subst (λ (c : Counts). IsCounted c (record t { outputs = t.outputs ++ items })) (sym found.0)
            (record {
              nodes_are = alike.nodes_are;
              outputs_are = omega (arith, length-append t.outputs items, stand.0, alike.outputs_are);
              few_nodes = alike.few_nodes;
              few_outputs = found.1;
              constants_are = alike.constants_are;
            }),
        tt,
      );
}

dimension-some : (dimension : Dimension) (n : ℕ) → dimension_of dimension ≡ Ok n → 1 ≤ n
dimension-some dimension n e =
    let found = if_ok (nat_le 1 dimension.size && nat_le dimension.size 4096) (Ok dimension.size) (Bad dimension.at kinds.Dims) n e in
    let some : 1 ≤ dimension.size = grind (arith, nat_tests, found.0) in
    subst (λ k. 1 ≤ k) (same_ok dimension.size n found.1) some

-- an input has an element
input-some : (dimensions : Dimensions) (shape : ShapeOf) → input_shape dimensions ≡ Ok shape → 1 ≤ size_of shape
input-some dimensions.Scalar shape e = subst (λ (shape : ShapeOf). 1 ≤ size_of shape) (same_ok Scalar shape e) (omega arith)
input-some (dimensions.Vector first) shape e =
    let n = bind_ok (dimension_of first) (λ n. Ok (Vector n)) shape e in
    subst (λ (shape : ShapeOf). 1 ≤ size_of shape) (same_ok (Vector n.0) shape n.2) (dimension-some first n.0 n.1)
input-some (dimensions.Matrix first second) shape e =
    let n = bind_ok (dimension_of first) (λ n. dimension_of second >>= λ m. Ok (Matrix n m)) shape e in
    let m = bind_ok (dimension_of second) (λ m. Ok (Matrix n.0 m)) shape n.2 in
    subst (λ (shape : ShapeOf). 1 ≤ size_of shape) (same_ok (Matrix n.0 m.0) shape m.2) (some-product n.0 m.0 (dimension-some first n.0 n.1) (dimension-some second m.0 m.1))

begin : Begin shapes nodes Alike Stand Later (λ trees s t. Unit {0})
begin = record {
  input = λ tree trees shape before counts s t fits e alike enough.
      let adds = adds-as (size_of shape) (size_of shape) t.nodes (leaf_nodes (size_of shape) t.nodes).nodes (omega arith) (leaves-add (size_of shape) t.nodes) in
      ((nodes-counted tree.name.at (size_of shape) before counts t (leaf_nodes (size_of shape) t.nodes).nodes e adds alike, (length-range_with_len (length t.nodes) (size_of shape), input-some tree.dimensions shape fits), tt), tt);
}

abbrev pub none_made : Kept
none_made = record { nodes = []; outputs = [] }

none-known : (lang : Lang) (x : F) → set.contains (none_counted lang).constants x.value ≡ has x []
none-known lang x = set.contains-empty nat_cmp x.value

both : (lang : Lang) (program : ProgramTree) → BothStates shapes nodes Alike Stand Later go more (run_of shapes lang program (record {})) (run_of nodes lang program none_made)
both lang program =
    programs shapes nodes Alike Stand Later go more (λ trees s t. Unit {0}) begin lang program (record {}) none_made tt
    (record { nodes_are = refl; outputs_are = refl; few_nodes = omega arith; few_outputs = omega arith; constants_are = none-known lang })

abbrev ShapesAnswer : Type 0
ShapesAnswer = Answer (State (Unit {0}) Shapes)

abbrev NodesAnswer : Type 0
NodesAnswer = Answer (State (List ℕ) Kept)

abbrev counts_of : ShapesAnswer → Answer Counts
counts_of x = ◌>>=◌ {A = Counts × Shapes} (x >>= λ after. Ok (after.counts, after.kept)) (λ end. Ok end.0)

abbrev end_with : NodesAnswer → Answer (Counts × Kept)
end_with y = y >>= λ after. Ok (after.counts, after.kept)

-- where the run over shapes isn't refused, the run over nodes isn't
there : (x : ShapesAnswer) (y : NodesAnswer) → BothStates shapes nodes Alike Stand Later go more x y → IsTrue (is_ok (counts_of x)) → (end : Counts × Kept) × (end_with y ≡ Ok end)
there (Ok x) (Ok y) both accepted = ((y.counts, y.kept), refl)
there (Err e) y both accepted = cc
there (Ok x) (Err f) both accepted = absurd both

is_there : (lang : Lang) (program : ProgramTree) → IsTrue (is_ok (run_program lang program)) → (end : Counts × Kept) × (end_of nodes lang program none_made ≡ Ok end)
is_there lang program accepted = there (run_of shapes lang program (record {})) (run_of nodes lang program none_made) (both lang program) accepted

pub has_nodes : (lang : Lang) (program : ProgramTree) → IsTrue (is_ok (run_program lang program)) → IsSome (nodes_of lang program)
has_nodes lang program accepted = let found = is_there lang program accepted in rw found.1 refl

pub never_refused : (lang : Lang) (program : ProgramTree) (refused : CheckRefused) → IsTrue (is_ok (run_program lang program)) → end_of nodes lang program none_made ≡ Err refused → ⊥
never_refused lang program refused accepted e =
    let found = is_there lang program accepted in let back = sym e in cc (found.1)

-- what the run over shapes counts is there
record IsEnd (lang : Lang) (answer : Answer Counts) (found : Nodes) : Type 0 where
  accepted : IsTrue (is_ok answer)
  counted : IsCounted (or_none lang answer) (record { nodes = found.nodes; outputs = found.outputs })
  some : 1 ≤ (or_none lang answer).outputs

ended : (lang : Lang) (count : ℕ) (x : ShapesAnswer) (y : NodesAnswer) (found : Nodes) → BothStates shapes nodes Alike Stand Later go more x y → ((after : State (Unit {0}) Shapes) → x ≡ Ok after → 1 ≤ after.counts.outputs) →
    nodes_at_end count (end_with y) ≡ Some found → IsEnd lang (counts_of x) found
ended lang count (Ok x) (Ok y) found both some e =
    let made : Nodes = record { inputs = count; nodes = y.kept.nodes; outputs = y.kept.outputs } in
    subst (IsEnd lang (Ok x.counts)) (same_some made found e) (record { accepted = refl; counted = both.1; some = some x refl })
ended lang count (Err refused) (Err other) found both some e = cc
ended lang count (Ok x) (Err refused) found both some e = absurd both
ended lang count (Err refused) (Ok y) found both some e = absurd both

is-end : (lang : Lang) (program : ProgramTree) (found : Nodes) → nodes_of lang program ≡ Some found → IsEnd lang (run_program lang program) found
is-end lang program found e =
    ended lang (input_count program.inputs) (run_of shapes lang program (record {})) (run_of nodes lang program none_made) found (both lang program) (λ after is. some-output shapes lang program (record {}) after is) e

pub accepted : (lang : Lang) (program : ProgramTree) (found : Nodes) → nodes_of lang program ≡ Some found → IsTrue (is_ok (run_program lang program))
accepted lang program found e = (is-end lang program found e).accepted

pub nodes_counted : (lang : Lang) (program : ProgramTree) (found : Nodes) → nodes_of lang program ≡ Some found → length found.nodes ≡ (run_end lang program).nodes
nodes_counted lang program found e = (is-end lang program found e).counted.nodes_are

pub has_outputs : (lang : Lang) (program : ProgramTree) (found : Nodes) → IsTrue (is_ok (run_program lang program)) → nodes_of lang program ≡ Some found → (length found.outputs ≡ (run_end lang program).outputs) × (1 ≤ length found.outputs)
has_outputs lang program found accepted e =
    let end = is-end lang program found e in
    (end.counted.outputs_are, omega (arith, end.counted.outputs_are, end.some))

pub outputs-few : (lang : Lang) (program : ProgramTree) (found : Nodes) → nodes_of lang program ≡ Some found → length found.outputs ≤ 65535
outputs-few lang program found e = let end = is-end lang program found e in omega (arith, end.counted.outputs_are, end.counted.few_outputs)

pub is-list : (lang : Lang) (program : ProgramTree) (found : Nodes) → nodes_of lang program ≡ Some found → IsNodeList found
is-list lang program found e =
    let end = is-end lang program found e in
    record {
      fine = nodes-fine lang program found e;
      outputs_there = outputs-there lang program found e;
      has_output = omega (arith, end.counted.outputs_are, end.some);
      few_nodes = omega (arith, end.counted.nodes_are, end.counted.few_nodes);
      few_outputs = omega (arith, end.counted.outputs_are, end.counted.few_outputs);
    }

-- ---- in both languages

same_end : (count : ℕ) (x y : NodesAnswer) → IsKept (state_in_two nodes) x y → IsSome (nodes_at_end count (end_with x)) → nodes_at_end count (end_with y) ≡ nodes_at_end count (end_with x)
same_end count (Ok x) y kept some = ap (λ (answer : NodesAnswer). nodes_at_end count (end_with answer)) kept
same_end count (Err refused) y kept some = cc

pub same_nodes : (program : ProgramTree) → IsTrue (is_ok (run_program One program)) → nodes_of Two program ≡ nodes_of One program
same_nodes program accepted =
    same_end (input_count program.inputs) (run_of nodes One program none_made) (run_of nodes Two program none_made) (run_kept nodes program none_made) (has_nodes One program accepted)

-- ---- as the call makes it

pub nodes-at_end : (lang : Lang) (program : ProgramTree) (count : ℕ) (start end : Kept) (counts : Counts) → start ≡ none_made → count ≡ input_count program.inputs → end_of nodes lang program start ≡ Ok (counts, end) →
    nodes_of lang program ≡ Some (record { inputs = count; nodes = end.nodes; outputs = end.outputs })
nodes-at_end lang program count start end counts is_start is_count e =
    ap (λ (kept : Kept). nodes_at_end (input_count program.inputs) (end_of nodes lang program kept)) (sym is_start)
    ∙ ap (nodes_at_end (input_count program.inputs)) e
    ∙ ap (λ (n : ℕ). Some (record { inputs = n; nodes = end.nodes; outputs = end.outputs })) (sym is_count)

few_if : (lang : Lang) (program : ProgramTree) (count : ℕ) (x : NodesAnswer) (found : Nodes) → run_of nodes lang program none_made ≡ x → nodes_at_end count (end_with x) ≡ Some found → input_count program.inputs ≤ 1048576
few_if lang program count (Ok after) found is e = few-inputs nodes lang program none_made after is
few_if lang program count (Err refused) found is e = cc

-- a program with nodes has few enough inputs for their numbers
pub inputs_few : (lang : Lang) (program : ProgramTree) (found : Nodes) → nodes_of lang program ≡ Some found → input_count program.inputs ≤ 1048576
inputs_few lang program found e = few_if lang program (input_count program.inputs) (run_of nodes lang program none_made) found refl e
