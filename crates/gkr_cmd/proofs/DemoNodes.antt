-- The nodes of the programs of `demo`, and that they are laid out within the limits of every circuit.
use Rattle.std.proofs.Common.{◌≡◌, ℕ, zero, suc, ◌+◌, ◌-◌, ◌*◌, ◌≤◌, ◌^◌, Bool, true, false, not, nat_lt, le-leb, ◌==◌, List, [], ◌∷◌, ◌++◌, length, map, Some, None, Ok, Err, refl, ap, sym, ◌∙◌, arith}
use Rattle.std.specs.Prelude.{if◌then◌else◌, IsSome}
use Rattle.std.specs.List.{range_with_len, filter}
use Rattle.std.proofs.Math.Nat.{mul-le-mul}
use Rattle.std.proofs.lemmas.List.FromFn.{length-range_with_len, length-map-range_with_len}
use Rattle.std.proofs.lemmas.List.Filters.{length-filter_both}
use Rattle.field_ext.specs.Field.{of}
use Rattle.gkr_cmd.specs.Demo.{demo_case, demo_size}
use Rattle.gkr_cmd.specs.Runs.{HasCircuit}
use Rattle.circuit_core.proofs.api.Faultless.{unless_true}
use Rattle.circuit_core.proofs.api.First.{none_from_each}
use Rattle.layer_compile.specs.Circuits.{circuit_of, refusal_of, too_wide}
use Rattle.layer_compile.specs.Levels.{height_of}
use Rattle.layer_compile.specs.Rows.{row, is_at}
use Rattle.layer_compile.proofs.api.Refusals.{accepted}
use Rattle.arr_compile.specs.Circuits.{limits_of}
use Rattle.arr_compile.proofs.api.SumLevels.{IsLow, length-adds, leaf-low, leaves-low, matmul-low, sum-low}
use Rattle.arr_ast.specs.declared.expression.SingleFunction.TheVariants.{Sum}
use Rattle.arr_ast.specs.declared.expression.PairFunction.TheVariants.{MatMul}
use Rattle.arr_ast.specs.declared.lang.Lang.TheVariants as langs
use Rattle.arr_ast.specs.declared.program.Dimensions.TheVariants as dimensions
use Rattle.arr_ast.specs.declared.shape.ShapeOf.{ShapeOf}
use Rattle.arr_ast.specs.declared.shape.ShapeOf.TheVariants.{Matrix}
use Rattle.arr_ast.specs.ExpressionTree.{ExpressionOf, NoTerm, TermOf, NoFactor, Pair}
use Rattle.arr_ast.specs.ProgramTree.{TopTree, Output, InputTree}
use Rattle.arr_scope.specs.declared.bound.Bound.TheVariants.{Value}
use Rattle.arr_scope.specs.declared.counts.Counts.{Counts}
use Rattle.arr_scope.specs.declared.refused.CheckKind.TheVariants as kinds
use Rattle.arr_scope.specs.declared.refused.CheckRefused.TheVariants.{Bad}
use Rattle.arr_scope.specs.Agrees.{Answer, ◌>>=◌, each}
use Rattle.arr_scope.specs.Counting.{step_at, nodes_at}
use Rattle.arr_run.specs.Definitions.{after_definitions}
use Rattle.arr_run.specs.Expression.{Valued, value_of, added_value, times_value, single_value}
use Rattle.arr_run.specs.Program.{after_input, after_top, if_any_output, input_shape, none_counted, outputs_at, run_of}
use Rattle.arr_scope.specs.Scope.{Names, binding_of}
use Rattle.arr_scope.specs.Shape.{size_of, pair_shape, single_shape}
use Rattle.arr_run.specs.State.{State, state, if_free}
use Rattle.arr_scope.proofs.api.Answered.{bind_ok, same_ok}
use Rattle.arr_run.proofs.api.InputNodes.{input_shape-declared}
use Rattle.node_core.specs.declared.node.Node.{Node}
use Rattle.node_core.specs.declared.node.Node.TheVariants.{Input}
use Rattle.node_core.specs.Nodes.{Nodes}
use Rattle.arr_lower.specs.Operations.{Made, MadeOne, matmul_nodes, sum_node}
use Rattle.arr_lower.specs.Lowering.{Kept, nodes, nodes_at_end, nodes_of}
use Rattle.arr_lower.proofs.api.Counted.{has_nodes}
use Rattle.gkr_cmd.proofs.DemoPrograms.{demo_tree, tree_of, digits_of, square_at, name_at, size_at, alone, total_at, accepted as text_accepted}

abbrev count : ℕ → ℕ
count n = 0 + n * n + n * n

abbrev leaves : ℕ → List Node
leaves n = map Input (range_with_len 0 (count n))

abbrev lefts : ℕ → List ℕ
lefts n = range_with_len 0 (n * n)

abbrev rights : ℕ → List ℕ
rights n = range_with_len (0 + n * n) (n * n)

product : ℕ → Made
product n = matmul_nodes n n n (lefts n) (rights n) (leaves n)

total : ℕ → MadeOne
total n = sum_node (product n).items (product n).nodes

pub demo_nodes : ℕ → Nodes
demo_nodes n = record { inputs = count n; nodes = (total n).nodes; outputs = (total n).item ∷ [] }

-- ---- the run makes them

abbrev none_made : Kept
none_made = record { nodes = []; outputs = [] }

-- an input of a square matrix
input-is : (at number at' at1 at2 n : ℕ) (before after : State (List ℕ) Kept) →
    after_input nodes (record { at = at; name = name_at at' number; dimensions = dimensions.Matrix (size_at at1 n) (size_at at2 n) }) before ≡ Ok after →
    (after.names ≡ before.names ++ (number, Value (Matrix n n) (range_with_len (length before.kept.nodes) (n * n))) ∷ [])
    × (after.kept ≡ record before.kept { nodes = before.kept.nodes ++ map Input (range_with_len (length before.kept.nodes) (n * n)) })
input-is at number at' at1 at2 n before after e =
    let stepped = bind_ok (step_at at before.counts) _ after e in
    let free = bind_ok (if_free at' (binding_of number before.names)) _ after stepped.2 in
    let shaped = bind_ok (input_shape (dimensions.Matrix (size_at at1 n) (size_at at2 n))) _ after free.2 in
    let counted = bind_ok (nodes_at at' (size_of shaped.0) stepped.0) _ after shaped.2 in
    let declared : shaped.0 ≡ Matrix n n = input_shape-declared (dimensions.Matrix (size_at at1 n) (size_at at2 n)) shaped.0 shaped.1 in
    let same = same_ok _ after counted.2 in (
      sym (ap (λ (r : State (List ℕ) Kept). r.names) same)
          ∙ ap (λ (shape : ShapeOf). before.names ++ (number, Value shape (range_with_len (length before.kept.nodes) (size_of shape))) ∷ []) declared,
      sym (ap (λ (r : State (List ℕ) Kept). r.kept) same)
          ∙ ap (λ (shape : ShapeOf). record before.kept { nodes = before.kept.nodes ++ map Input (range_with_len (length before.kept.nodes) (size_of shape)) }) declared,
    )

abbrev product_of : ℕ → List ℕ → List ℕ → List Node → Made
product_of n a b before = matmul_nodes n n n a b before

abbrev total_of : ℕ → List ℕ → List ℕ → List Node → MadeOne
total_of n a b before = sum_node (product_of n a b before).items (product_of n a b before).nodes

abbrev both_names : ℕ → List ℕ → List ℕ → Names (List ℕ)
both_names n a b = (1, Value (Matrix n n) a) ∷ (10, Value (Matrix n n) b) ∷ []

product-is : (at at' at1 at2 n : ℕ) (a b : List ℕ) (counts : Counts) (kept : Kept) (found : Valued (List ℕ) Kept) →
    value_of nodes [] (ExpressionOf (TermOf (Pair MatMul at at' (alone at1 1) (alone at2 10)) NoFactor) NoTerm) (both_names n a b) counts kept ≡ Ok found →
    (found.1 ≡ (product_of n a b kept.nodes).items) × (found.3 ≡ record kept { nodes = (product_of n a b kept.nodes).nodes })
product-is at at' at1 at2 n a b counts kept found e =
    let last = bind_ok _ (added_value nodes [] NoTerm (both_names n a b)) found e in
    let first = bind_ok _ (times_value nodes [] NoFactor (both_names n a b)) last.0 last.1 in
    let shaped = bind_ok (pair_shape MatMul at (Matrix n n) (Matrix n n) counts) _ first.0 first.1 in
    let same : first.0 ≡ found = same_ok first.0 last.0 first.2 ∙ same_ok last.0 found last.2 in
    let made = same_ok _ first.0 shaped.2 ∙ same in
    (sym (ap (λ (v : Valued (List ℕ) Kept). v.1) made), sym (ap (λ (v : Valued (List ℕ) Kept). v.3) made))

total-is : (at n : ℕ) (a b : List ℕ) (counts : Counts) (kept : Kept) (found : Valued (List ℕ) Kept) → value_of nodes [] (total_at at) (both_names n a b) counts kept ≡ Ok found →
    (found.1 ≡ (total_of n a b kept.nodes).item ∷ []) × (found.3 ≡ record kept { nodes = (total_of n a b kept.nodes).nodes })
total-is at n a b counts kept found e =
    let last = bind_ok _ (added_value nodes [] NoTerm (both_names n a b)) found e in
    let first = bind_ok _ (times_value nodes [] NoFactor (both_names n a b)) last.0 last.1 in
    let inner = bind_ok _ (single_value nodes Sum at) first.0 first.1 in
    let shaped = bind_ok (single_shape Sum at inner.0.0 inner.0.2) _ first.0 inner.2 in
    let same : first.0 ≡ found = same_ok first.0 last.0 first.2 ∙ same_ok last.0 found last.2 in
    let made = same_ok _ first.0 shaped.2 ∙ same in
    let product = product-is (at + 4) (at + 10) (at + 11) (at + 13) n a b counts kept inner.0 inner.1 in (
      sym (ap (λ (v : Valued (List ℕ) Kept). v.1) made) ∙ (λ i. (sum_node (product.0 i) (product.1 i).nodes).item ∷ []),
      sym (ap (λ (v : Valued (List ℕ) Kept). v.3) made) ∙ (λ i. record (product.1 i) { nodes = (sum_node (product.0 i) (product.1 i).nodes).nodes }),
    )

output-is : (at at' n : ℕ) (a b : List ℕ) (counts : Counts) (kept : Kept) (after : State (List ℕ) Kept) → after_top nodes [] (Output at (total_at at')) (state (both_names n a b) counts kept) ≡ Ok after →
    after.kept ≡ record { nodes = (total_of n a b kept.nodes).nodes; outputs = kept.outputs ++ (total_of n a b kept.nodes).item ∷ [] }
output-is at at' n a b counts kept after e =
    let stepped = bind_ok (step_at at counts) _ after e in
    let valued = bind_ok (value_of nodes [] (total_at at') (both_names n a b) stepped.0 kept) _ after stepped.2 in
    let counted = bind_ok (outputs_at at (size_of valued.0.0) valued.0.2) _ after valued.2 in
    let same = same_ok _ after counted.2 in
    let total = total-is at' n a b stepped.0 kept valued.0 valued.1 in
    sym (ap (λ (r : State (List ℕ) Kept). r.kept) same) ∙ (λ i. record (total.1 i) { outputs = (total.1 i).outputs ++ total.0 i })

one_top : (top : TopTree) (before after : State (List ℕ) Kept) → each (after_top nodes []) (top ∷ []) before ≡ Ok after → after_top nodes [] top before ≡ Ok after
one_top top before after e =
    let first = bind_ok (after_top nodes [] top before) (each (after_top nodes []) []) after e in
    first.1 ∙ ap Ok (same_ok first.0 after first.2)

any-kept : (end : ℕ) (before after : State (List ℕ) Kept) → if_any_output end before ≡ Ok after → before ≡ after
any-kept end before after e = by (before.counts.outputs == 0) e
  where
    by : (none : Bool) → (if none then Err (Bad end kinds.NoOutput) else Ok before) ≡ Ok after → before ≡ after
    by true e = cc
    by false e = same_ok before after e

-- leaves after leaves
leaves-behind : (first more count : ℕ) → map Input (range_with_len first more) ++ map Input (range_with_len (first + more) count) ≡ map Input (range_with_len first (more + count))
leaves-behind first zero count =
    let from : first + zero ≡ first = omega arith in
    let many : count ≡ zero + count = omega arith in
    λ i. map Input (range_with_len (from i) (many i))
leaves-behind first (suc more) count =
    let from : first + suc more ≡ first + 1 + more = omega arith in
    let many : suc (more + count) ≡ suc more + count = omega arith in
    ap (λ (rest : List Node). Input first ∷ rest)
    (ap (λ (k : ℕ). map Input (range_with_len (first + 1) more) ++ map Input (range_with_len k count)) from ∙ leaves-behind (first + 1) more count)
    ∙ ap (λ (k : ℕ). map Input (range_with_len first k)) many

abbrev kept_of : List Node → Kept
kept_of made = record { nodes = made; outputs = [] }

abbrev kept_total : ℕ → Kept
kept_total n = record { nodes = (total n).nodes; outputs = (total n).item ∷ [] }

made-is : (n digits : ℕ) (after : State (List ℕ) Kept) → run_of nodes langs.One (tree_of n digits) none_made ≡ Ok after → after.kept ≡ kept_total n
unfolding product total
made-is n digits after e =
    let long : ℕ = 13 + 2 * digits in
    let one_input : InputTree = square_at 0 1 n digits in
    let two_input : InputTree = square_at long 10 n digits in
    let top : TopTree = Output (2 * long) (total_at (2 * long + 7)) in
    let end : ℕ = 2 * long + 24 in
    let start : State (List ℕ) Kept = state [] (none_counted langs.One) none_made in
    let inputs = each (after_input nodes) (one_input ∷ two_input ∷ []) start in
    let whole = bind_ok (inputs >>= after_definitions [] [] >>= each (after_top nodes []) (top ∷ [])) (if_any_output end) after e in
    let begun = bind_ok (inputs >>= after_definitions [] []) (each (after_top nodes []) (top ∷ [])) whole.0 whole.1 in
    let read = bind_ok inputs (after_definitions [] []) begun.0 begun.1 in
    let first = bind_ok (after_input nodes one_input start) (each (after_input nodes) (two_input ∷ [])) read.0 read.1 in
    let second = bind_ok (after_input nodes two_input first.0) (each (after_input nodes) []) read.0 first.2 in
    let one = input-is 0 1 (0 + 6) (0 + 8) (0 + 10 + digits) n start first.0 first.1 in
    let two = input-is long 10 (long + 6) (long + 8) (long + 10 + digits) n first.0 second.0 second.1 in
    let ended : second.0 ≡ begun.0 = same_ok second.0 read.0 second.2 ∙ same_ok read.0 begun.0 read.2 in
    let leaf : List Node = map Input (range_with_len 0 (n * n)) in
    let many : length leaf ≡ 0 + n * n = length-map-range_with_len Input 0 (n * n) ∙ omega arith in
    let names : begun.0.names ≡ both_names n (lefts n) (rights n) =
    sym (ap (λ (r : State (List ℕ) Kept). r.names) ended) ∙ two.0
    ∙ (λ i. one.0 i ++ (10, Value (Matrix n n) (range_with_len (length (one.1 i).nodes) (n * n))) ∷ [])
    ∙ ap (λ (k : ℕ). both_names n (lefts n) (range_with_len k (n * n))) many in
    let all : leaf ++ map Input (range_with_len (0 + n * n) (n * n)) ≡ leaves n = leaves-behind 0 (n * n) (n * n) ∙ ap (λ (k : ℕ). map Input (range_with_len 0 k)) (omega arith) in
    let kept : begun.0.kept ≡ kept_of (leaves n) =
    sym (ap (λ (r : State (List ℕ) Kept). r.kept) ended) ∙ two.1
    ∙ (λ i. record (one.1 i) { nodes = (one.1 i).nodes ++ map Input (range_with_len (length (one.1 i).nodes) (n * n)) })
    ∙ ap (λ (k : ℕ). kept_of (leaf ++ map Input (range_with_len k (n * n)))) many
    ∙ ap kept_of all in
    let same : begun.0 ≡ state (both_names n (lefts n) (rights n)) begun.0.counts (kept_of (leaves n)) = λ i. state (names i) begun.0.counts (kept i) in
    let put : after_top nodes [] top (state (both_names n (lefts n) (rights n)) begun.0.counts (kept_of (leaves n))) ≡ Ok whole.0 =
    ap (after_top nodes [] top) (sym same) ∙ one_top top begun.0 whole.0 begun.2 in
    sym (ap (λ (r : State (List ℕ) Kept). r.kept) (any-kept end whole.0 after whole.2))
    ∙ output-is (2 * long) (2 * long + 7) n (lefts n) (rights n) begun.0.counts (kept_of (leaves n)) whole.0 put

abbrev list_of : ℕ → Kept → Nodes
list_of inputs kept = record { inputs = inputs; nodes = kept.nodes; outputs = kept.outputs }

-- a run that goes through, and what it leaves
left : (inputs : ℕ) (wanted : Kept) (x : Answer (State (List ℕ) Kept)) → ((after : State (List ℕ) Kept) → x ≡ Ok after → after.kept ≡ wanted) →
    IsSome (nodes_at_end inputs (x >>= λ after. Ok (after.counts, after.kept))) → nodes_at_end inputs (x >>= λ after. Ok (after.counts, after.kept)) ≡ Some (list_of inputs wanted)
left inputs wanted (Ok after) is some = ap (λ (kept : Kept). Some (list_of inputs kept)) (is after refl)
left inputs wanted (Err refused) is some = cc

pub nodes_are : (n : ℕ) → 2 ≤ n → n ≤ 16 → nodes_of langs.One (demo_tree n) ≡ Some (demo_nodes n)
unfolding demo_nodes demo_tree
nodes_are n least most =
    left (count n) (kept_total n) (run_of nodes langs.One (demo_tree n) none_made) (λ after is. made-is n (length (digits_of n)) after is)
    (has_nodes langs.One (demo_tree n) (text_accepted n least most).checked)

-- ---- they are laid out

-- the sum is at most 13 above the inputs, and there are fewer than 10,000 nodes
pub record IsSmall (n : ℕ) : Type 0 where
  low : IsLow (demo_nodes n).nodes 13 (total n).item
  few : length (demo_nodes n).nodes ≤ 10000

pub small : (n : ℕ) → 2 ≤ n → n ≤ 16 → IsSmall n
unfolding product total demo_nodes
small n least most =
    let square : n * n ≤ 16 * 16 = mul-le-mul {n₁ = n} {m₁ = n} {n₂ = 16} {m₂ = 16} most most in
    let cube : n * (n * n) ≤ 16 * 256 = mul-le-mul {n₁ = n} {m₁ = n * n} {n₂ = 16} {m₂ = 256} most square in
    let some : 2 * 2 ≤ n * n = mul-le-mul {n₁ = 2} {m₁ = 2} {n₂ = n} {m₂ = n} least least in
    let made =
    matmul-low 4 0 n n n (lefts n) (rights n) (leaves n) (omega (arith, least)) (omega (arith, most))
    (leaves-low (count n) 0 (n * n) (omega arith)) (leaves-low (count n) (0 + n * n) (n * n) (omega arith)) (leaf-low (count n) 0 (omega (arith, some))) in
    let sum =
    sum-low (length (product n).items) 8 5 (product n).items (product n).nodes (omega (arith, made.count_is, some)) (omega arith) (omega (arith, made.count_is, square)) made.low in
    let before = length-adds (leaves n) (product n).nodes (2 * n * (n * n)) made.adds in
    let after = length-adds (product n).nodes (total n).nodes (length (product n).items - 1) sum.adds in
    let twice : 2 * n * (n * n) ≡ 2 * (n * (n * n)) = omega arith in
    record {
      low = sum.low;
      few = omega (arith, before, after, made.count_is, square, cube, twice, length-map-range_with_len Input 0 (count n));
    }

filtered : {X : Type 0} (p : X → Bool) (xs : List X) → length (filter p xs) ≤ length xs
filtered p xs = let both = length-filter_both p (λ x. not (p x)) (λ x. refl) xs in omega (arith, both)

if_shorter : {X : Type 0} (passed : Bool) (xs ys : List X) (most : ℕ) → length xs ≤ most → length ys ≤ most → length (if passed then xs else ys) ≤ most
if_shorter true xs ys most l r = l
if_shorter false xs ys most l r = r

row_short : (n h : ℕ) → IsSmall n → length (row (demo_nodes n) h) ≤ 10000
unfolding demo_nodes
row_short n h is =
    let nodes = demo_nodes n in
    let all = range_with_len 0 (length nodes.nodes) in
    let kept = filtered (is_at nodes h) all in
    let many = length-range_with_len 0 (length nodes.nodes) in
    if_shorter (nat_lt h (height_of nodes)) (filter (is_at nodes h) all) nodes.outputs 10000 (omega (arith, kept, many, is.few)) (omega arith)

height_small : (n : ℕ) → IsSmall n → height_of (demo_nodes n) ≤ 14
unfolding demo_nodes
height_small n is = omega (arith, is.low.low)

pub fits : (n : ℕ) → 2 ≤ n → n ≤ 16 → refusal_of (limits_of langs.One) (demo_nodes n) ≡ None
fits n least most =
    let is = small n least most in
    let low = height_small n is in
    accepted (limits_of langs.One) (demo_nodes n) (omega (arith, low))
    (none_from_each (too_wide (limits_of langs.One) (demo_nodes n)) (height_of (demo_nodes n) + 1) (λ h l.
    unless_true _ _ (le-leb (1 + length (row (demo_nodes n) h)) (2 ^ 16) (omega (arith, row_short n h is)))))

-- ---- the case has a circuit

inputs_are : (n : ℕ) → (demo_nodes n).inputs ≡ count n
unfolding demo_nodes
inputs_are n = refl

pub has_circuit : (number : ℕ) → HasCircuit (demo_case number)
has_circuit number =
    let n = demo_size number in
    let least : 2 ≤ n = omega arith in
    let most : n ≤ 16 = omega arith in
    let values = length-map-range_with_len (λ j. of (1 + number + j)) 0 (2 * (n * n)) in
    record {
      parts = circuit_of (demo_nodes n);
      compiled = record {
        tree = demo_tree n;
        nodes = demo_nodes n;
        lowered = record { accepted = text_accepted n least most; nodes_are = nodes_are n least most };
        fits = fits n least most;
        laid_out = refl;
      };
      counted = omega (arith, values, inputs_are n);
    }
