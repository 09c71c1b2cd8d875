-- The run over nodes beside the run over numbers: each operation makes nodes of the values that it means, after those that they name.
use Rattle.std.proofs.Common.{◌≡◌, ℕ, ◌+◌, ◌-◌, ◌*◌, ◌<◌, ◌≤◌, ◌==◌, List, [], ◌∷◌, map, take, drop, length, replicate, get_or, Option, Some, Ok, Err, refl, sym, ap, ◌∙◌, subst, arith}
use Rattle.std.specs.Prelude.{slice_index_or, All}
use Rattle.std.specs.List.{zip}
use Rattle.std.proofs.lemmas.Bool.{eqb-true}
use Rattle.std.proofs.lemmas.List.{length-replicate, length-set, length-take-le, length-drop, drop-drop}
use Rattle.std.proofs.lemmas.List.{length-map}
use Rattle.std.proofs.lemmas.List.Sums.{sum_by-cons}
use Rattle.arr_ast.specs.declared.expression.Sign.{Sign}
use Rattle.arr_ast.specs.declared.expression.Sign.TheVariants.{Plus, Minus}
use Rattle.arr_ast.specs.declared.expression.SingleFunction.{SingleFunction}
use Rattle.arr_ast.specs.declared.expression.SingleFunction.TheVariants.{Sum, Transpose}
use Rattle.arr_ast.specs.declared.expression.PairFunction.{PairFunction}
use Rattle.arr_ast.specs.declared.expression.PairFunction.TheVariants.{Scale, Dot, MatMul}
use Rattle.arr_ast.specs.declared.shape.ShapeOf.{ShapeOf}
use Rattle.arr_ast.specs.declared.shape.ShapeOf.TheVariants.{Scalar, Vector, Matrix}
use Rattle.arr_ast.specs.declared.lang.Lang.{Lang}
use Rattle.arr_ast.specs.ProgramTree.{InputTree, ProgramTree}
use Rattle.arr_scope.specs.declared.counts.Counts.{Counts}
use Rattle.arr_scope.specs.declared.refused.CheckKind.TheVariants as kinds
use Rattle.arr_scope.specs.declared.refused.CheckRefused.TheVariants.{Bad}
use Rattle.arr_scope.specs.Agrees.{Answer, ◌>>=◌}
use Rattle.arr_run.specs.Program.{end_of, run_of, input_count, numbers_of_input}
use Rattle.arr_scope.specs.Shape.{size_of, for_nodes, pair_shape}
use Rattle.arr_run.specs.State.{State}
use Rattle.arr_scope.proofs.api.Answered.{if_ok}
use Rattle.arr_run.proofs.api.InputNodes.{input_shape-declared}
use Rattle.arr_run.proofs.api.Related.{Gives, GoTogether, GoOn, Begin, BothStates, programs}
use Rattle.arr_scope.proofs.api.Shapes.{same_shape-size, sum_shape-shape, product_shape-shape, for_minus_one-shape}
use Rattle.field_ext.specs.Field.{F, of, mul_f, neg_f}
use Rattle.circuit_core.specs.declared.gate.Kind.TheVariants.{Add, Mul}
use Rattle.circuit_core.specs.Parts.{zero_f}
use Rattle.node_core.specs.declared.node.Node.{Node}
use Rattle.node_core.specs.Nodes.{Nodes, IsFineAt, node_at, values}
use Rattle.arr_eval.specs.Meaning.{Kept, numbers, meaning, outputs_of, signed, single, pair}
use Rattle.arr_eval.specs.Numbers.{element, element_wise, sum_of, dot_of}
use Rattle.arr_eval.proofs.api.Sized.{signed-size, element_wise-size, single-size, pair-size}
use Rattle.arr_lower.specs.Lowering.{Kept as KeptNodes, kept_after, nodes, nodes_at_end, nodes_of}
use Rattle.arr_lower.specs.Operations.{Made, MadeOne, one_made, leaf_nodes, constant_node, signed_nodes, pairwise_nodes, negated_nodes, sum_node, dot_node, single_nodes, pair_nodes}
use Rattle.arr_lower.proofs.Grown.{value, IsFine, Grows, Stands, HasOne, grows-none, grows-then, constant-has}
use Rattle.arr_lower.proofs.LeavesMade.{leaf-each, leaves-long}
use Rattle.arr_lower.proofs.MadeEach.{AllStand, HasEach, all-kept, pairwise-has, scaled-has, negated-has, difference-has, ready-pairs}
use Rattle.arr_lower.proofs.Pairwise.{each-append, each-get, each-set, each-length}
use Rattle.arr_lower.proofs.SumsMade.{sum-has, dot-has, matmul-has, transposed-stand}

pub same_some : {A : Type 0} (x y : A) → Some x ≡ Some y → x ≡ y
same_some x y e = cc

module _ (inputs : List F) where
  abbrev Alike : Counts → Kept → KeptNodes → Type 0
  Alike counts s t = IsFine inputs t.nodes × AllStand inputs t.nodes t.outputs s.outputs

  abbrev Stand : Kept → KeptNodes → ShapeOf → List F → List ℕ → Type 0
  Stand s t shape xs items = AllStand inputs t.nodes items xs × (length xs ≡ size_of shape)

  abbrev Later : Kept → KeptNodes → Kept → KeptNodes → Type 0
  Later s t s' t' = Grows inputs t.nodes t'.nodes

  -- all inputs that are left are numbers
  abbrev Enough : List InputTree → Kept → KeptNodes → Type 0
  Enough trees s t = (s.inputs ≡ drop (length t.nodes) inputs) × (length t.nodes + input_count trees ≤ length inputs)

  -- nodes that were made for a list of values
  gives : (counts after : Counts) (s : Kept) (t : KeptNodes) (shape : ShapeOf) (made : Made) (xs : List F) → Alike counts s t → HasEach inputs t.nodes made xs → length xs ≡ size_of shape →
      Gives numbers nodes Alike Stand Later after s t shape (xs, s) (kept_after t made)
  gives counts after s t shape made xs alike h size = ((h.grows.fine alike.0, all-kept inputs t.nodes made.nodes h.grows t.outputs s.outputs alike.1), (h.stand, size), h.grows)

  one-each : (before : List Node) (one : MadeOne) (x : F) → HasOne inputs before one x → HasEach inputs before (one_made one) (x ∷ [])
  one-each before one x h = record { grows = h.grows; stand = (h.stands, tt) }

  signed-each : (sign : Sign) (left right : List ℕ) (before : List Node) (xs ys : List F) → AllStand inputs before left xs → AllStand inputs before right ys →
      HasEach inputs before (signed_nodes sign left right before) (signed sign xs ys)
  signed-each Plus left right before xs ys l r = pairwise-has inputs Add left right before xs ys l r
  signed-each Minus left right before xs ys l r = difference-has inputs left right before xs ys l r

  single-each : (function : SingleFunction) (of : ShapeOf) (items : List ℕ) (before : List Node) (xs : List F) → AllStand inputs before items xs → length xs ≡ size_of of →
      HasEach inputs before (single_nodes function of items before) (single function of xs)
  single-each Sum of items before xs s size = one-each before (sum_node items before) (sum_of xs) (sum-has inputs items before xs s)
  single-each Transpose (Matrix n m) items before xs s size =
      record { grows = grows-none inputs before; stand = transposed-stand inputs n m items before xs (each-length (Stands inputs before) items xs s ∙ size) s }
  single-each Transpose Scalar items before xs s size = record { grows = grows-none inputs before; stand = s }
  single-each Transpose (Vector n) items before xs s size = record { grows = grows-none inputs before; stand = s }

  pair-each : (function : PairFunction) (at : ℕ) (left right shape : ShapeOf) (counts after : Counts) (a b : List ℕ) (before : List Node) (xs ys : List F) → pair_shape function at left right counts ≡ Ok (shape, after) →
      AllStand inputs before a xs → length xs ≡ size_of left → AllStand inputs before b ys → length ys ≡ size_of right → HasEach inputs before (pair_nodes function left right a b before) (pair function left right xs ys)
  pair-each Scale at Scalar right shape counts after a b before xs ys e l left_size r right_size =
      let long = each-length (Stands inputs before) a xs l in
      let factor : Stands inputs before (get_or a 0 0) (element xs 0) = each-get (Stands inputs before) a xs 0 0 (of 0) l (omega (arith, long, left_size)) in
      scaled-has inputs (get_or a 0 0) b before (element xs 0) ys factor r
  pair-each Dot at (Vector n) (Vector m) shape counts after a b before xs ys e l left_size r right_size =
      one-each before (dot_node (zip a b) before) (dot_of xs ys) (dot-has inputs (zip a b) before (element_wise mul_f xs ys) (ready-pairs inputs Mul a b before xs ys l r))
  pair-each MatMul at (Matrix n m) (Matrix k q) shape counts after a b before xs ys e l left_size r right_size =
      let found = if_ok (m == k) (for_nodes at ((n * q) * (m + m - 1)) (Matrix n q) counts) (Bad at kinds.Shape) (shape, after) e in
      let inner : m ≡ k = eqb-true m k found.0 in
      matmul-has inputs n m q a b before xs ys (each-length (Stands inputs before) a xs l ∙ left_size) (each-length (Stands inputs before) b ys r ∙ right_size ∙ ap (λ j. j * q) (sym inner)) l r
  pair-each function at left right shape counts after a b before xs ys e l left_size r right_size = cc

  go : GoTogether numbers nodes Alike Stand Later
  go = record {
    stays = λ s t. grows-none inputs t.nodes;
    further = λ s s' s'' t t' t'' first second. grows-then inputs t.nodes t'.nodes t''.nodes first second;
    kept = λ s s' t t' shape xs items later stand. (all-kept inputs t.nodes t'.nodes later items xs stand.0, stand.1);
    constant = λ at n before counts s t e alike. gives before counts s t Scalar (one_made (constant_node n t.nodes)) (of n ∷ []) alike (one-each t.nodes (constant_node n t.nodes) (of n) (constant-has inputs n t.nodes)) refl;
    signed = λ sign at left right shape before counts xs ys a b s t e alike first second.
        let found = sum_shape-shape sign at left right shape before counts e in
        gives before counts s t shape (signed_nodes sign a b t.nodes) (signed sign xs ys) alike (signed-each sign a b t.nodes xs ys first.0 second.0)
        (signed-size sign xs ys (size_of left) first.1 (second.1 ∙ sym (same_shape-size left right found.0)) ∙ sym (ap size_of found.1));
    product = λ at left right shape before counts xs ys a b s t e alike first second.
        let found = product_shape-shape at left right shape before counts e in
        gives before counts s t shape (pairwise_nodes Mul a b t.nodes) (element_wise mul_f xs ys) alike (pairwise-has inputs Mul a b t.nodes xs ys first.0 second.0)
        (element_wise-size mul_f xs ys (size_of left) first.1 (second.1 ∙ sym (same_shape-size left right found.0)) ∙ sym (ap size_of found.1));
    opposite = λ at of shape before counts xs items s t e alike stand.
        gives before counts s t shape (negated_nodes items t.nodes) (map neg_f xs) alike (negated-has inputs items t.nodes xs stand.0)
        (length-map xs neg_f ∙ stand.1 ∙ sym (ap size_of (for_minus_one-shape at (size_of of) of shape before counts e)));
    single = λ function at of shape before counts xs items s t e alike stand.
        gives before counts s t shape (single_nodes function of items t.nodes) (single function of xs) alike (single-each function of items t.nodes xs stand.0 stand.1)
        (single-size function at of shape before counts xs e);
    pair = λ function at left right shape before counts xs ys a b s t e alike first second.
        gives before counts s t shape (pair_nodes function left right a b t.nodes) (pair function left right xs ys) alike
        (pair-each function at left right shape before counts a b t.nodes xs ys e first.0 first.1 second.0 second.1) (pair-size function at left right shape before counts xs ys e second.1);
    stepped = λ at before counts s t e alike. alike;
    element = λ shape place xs items s t within stand.
        let long = each-length (Stands inputs t.nodes) items xs stand.0 in
        ((each-get (Stands inputs t.nodes) items xs place 0 (of 0) stand.0 (omega (arith, long, within, stand.1)), tt), refl);
  }

  more : GoOn numbers nodes Alike Stand Later
  more = record {
    with_element = λ shape place xs new items item s t stand one.
        let long = each-length (Stands inputs t.nodes) item new one.0 in
        let there : Stands inputs t.nodes (get_or item 0 0) (element new 0) = each-get (Stands inputs t.nodes) item new 0 0 (of 0) one.0 (omega (arith, long, one.1)) in
        (each-set (Stands inputs t.nodes) items xs place (get_or item 0 0) (element new 0) stand.0 there, length-set xs place (element new 0) ∙ stand.1);
    output = λ at shape before counts xs items s t e alike stand.
        ((alike.0, each-append (Stands inputs t.nodes) t.outputs items s.outputs xs alike.1 stand.0), grows-none inputs t.nodes);
  }

  begin : Begin numbers nodes Alike Stand Later Enough
  begin = record {
    input = λ tree trees shape before counts s t fits e alike enough.
        let n : ℕ = size_of shape in
        let is_shape : n ≡ numbers_of_input tree = ap size_of (input_shape-declared tree.dimensions shape fits) in
        let all = sum_by-cons numbers_of_input tree trees in
        let within : length t.nodes + n ≤ length inputs = omega (arith, enough.1, all, is_shape) in
        let made = leaf-each inputs n t.nodes within in
        let xs : List F = take n (drop (length t.nodes) inputs) in
        let size : length xs ≡ n = length-take-le n (drop (length t.nodes) inputs) (omega (arith, length-drop (length t.nodes) inputs, within)) in
        let long : length (leaf_nodes n t.nodes).nodes ≡ length t.nodes + n = leaves-long n t.nodes in
        let given : Gives numbers nodes Alike Stand Later counts s t shape (xs, record s { inputs = drop n s.inputs }) (kept_after t (leaf_nodes n t.nodes)) =
        ((made.grows.fine alike.0, all-kept inputs t.nodes (leaf_nodes n t.nodes).nodes made.grows t.outputs s.outputs alike.1), (made.stand, size), made.grows) in (
          subst (λ (left : List F). Gives numbers nodes Alike Stand Later counts s t shape (take n left, record s { inputs = drop n s.inputs }) (kept_after t (leaf_nodes n t.nodes))) (sym enough.0) given,
          (ap (drop n) enough.0 ∙ drop-drop n (length t.nodes) inputs ∙ ap (λ k. drop k inputs) (sym long), omega (arith, enough.1, all, is_shape, long)),
        );
  }

  -- a list of nodes in order, whose outputs have these values
  record Lowers (outputs : Option (List F)) (found : Nodes) : Type 0 where
    fine : IsFine inputs found.nodes
    held : List F
    is : outputs ≡ Some held
    stand : AllStand inputs found.nodes found.outputs held

  ends : (count : ℕ) (x : Answer (State (List F) Kept)) (y : Answer (State (List ℕ) KeptNodes)) (found : Nodes) → BothStates numbers nodes Alike Stand Later go more x y →
      nodes_at_end count (y >>= λ after. Ok (after.counts, after.kept)) ≡ Some found → Lowers (outputs_of (x >>= λ after. Ok (after.counts, after.kept))) found
  ends count (Ok x) (Ok y) found both e =
      let made : Nodes = record { inputs = count; nodes = y.kept.nodes; outputs = y.kept.outputs } in
      subst (Lowers (Some x.kept.outputs)) (same_some made found e) (record { fine = both.1.0; held = x.kept.outputs; is = refl; stand = both.1.1 })
  ends count (Err refused) (Err other) found both e = cc
  ends count (Ok x) (Err refused) found both e = absurd both
  ends count (Err refused) (Ok y) found both e = absurd both

  abbrev none_made : KeptNodes
  none_made = record { nodes = []; outputs = [] }

  lowers : (lang : Lang) (program : ProgramTree) (found : Nodes) → nodes_of lang program ≡ Some found → length inputs ≡ input_count program.inputs → Lowers (meaning lang program inputs) found
  lowers lang program found e long =
      ends (input_count program.inputs) (run_of numbers lang program (record { inputs = inputs; outputs = [] })) (run_of nodes lang program none_made) found
      (programs numbers nodes Alike Stand Later go more Enough begin lang program (record { inputs = inputs; outputs = [] }) none_made (refl, omega (arith, long)) (record { at = λ k inside. absurd (omega (arith, inside)) }, tt)) e

  values-are : (made : List Node) (items : List ℕ) (xs : List F) → AllStand inputs made items xs → xs ≡ map (value inputs made) items
  values-are made [] [] s = refl
  values-are made [] (x ∷ xs) s = absurd s
  values-are made (item ∷ items) [] s = absurd s
  values-are made (item ∷ items) (x ∷ xs) s = λ i. sym s.0.is i ∷ values-are made items xs s.1 i

  pub nodes_mean : (lang : Lang) (program : ProgramTree) (found : Nodes) → nodes_of lang program ≡ Some found → length inputs ≡ input_count program.inputs →
      meaning lang program inputs ≡ Some (map (λ k. slice_index_or (values found inputs) k zero_f) found.outputs)
  nodes_mean lang program found e long = let there = lowers lang program found e long in there.is ∙ ap Some (values-are found.nodes found.outputs there.held there.stand)

-- as many inputs as a program has, of no meaning
some_inputs : ProgramTree → List F
some_inputs program = replicate (input_count program.inputs) zero_f

some_long : (program : ProgramTree) → length (some_inputs program) ≡ input_count program.inputs
unfolding some_inputs
some_long program = length-replicate (input_count program.inputs) zero_f

counted : (count : ℕ) (x : Answer (Counts × KeptNodes)) (found : Nodes) → nodes_at_end count x ≡ Some found → found.inputs ≡ count
counted count (Ok end) found e =
    let made : Nodes = record { inputs = count; nodes = end.1.nodes; outputs = end.1.outputs } in
    sym (ap (λ (n : Nodes). n.inputs) (same_some made found e))
counted count (Err refused) found e = cc

pub inputs-counted : (lang : Lang) (program : ProgramTree) (found : Nodes) → nodes_of lang program ≡ Some found → found.inputs ≡ input_count program.inputs
inputs-counted lang program found e = counted (input_count program.inputs) (end_of nodes lang program (record { nodes = []; outputs = [] })) found e

pub nodes-fine : (lang : Lang) (program : ProgramTree) (found : Nodes) → nodes_of lang program ≡ Some found → (k : ℕ) → k < length found.nodes → IsFineAt found.inputs k (node_at found k)
nodes-fine lang program found e k inside =
    let there = lowers (some_inputs program) lang program found e (some_long program) in
    let same : length (some_inputs program) ≡ found.inputs = some_long program ∙ sym (inputs-counted lang program found e) in
    subst (λ count. IsFineAt count k (node_at found k)) same (there.fine.at k inside)

pub outputs-there : (lang : Lang) (program : ProgramTree) (found : Nodes) → nodes_of lang program ≡ Some found → All (λ output. output < length found.nodes) found.outputs
outputs-there lang program found e k d inside =
    let there = lowers (some_inputs program) lang program found e (some_long program) in
    (each-get (Stands (some_inputs program) found.nodes) found.outputs there.held k d zero_f there.stand inside).inside
