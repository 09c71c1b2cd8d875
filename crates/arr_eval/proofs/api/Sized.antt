-- Where the arrays of the names have as many elements as their shapes have places, so has the value of each expression.
use Rattle.std.proofs.Common.{◌≡◌, ℕ, ◌*◌, ◌==◌, ◌+◌, ◌-◌, List, [], ◌∷◌, length, Ok, Err, refl, sym, ap, ◌∙◌, arith}
use Rattle.std.specs.Prelude.{min}
use Rattle.std.specs.List.{zip}
use Rattle.std.proofs.lemmas.Slice.Zip.{length-zip}
use Rattle.std.proofs.lemmas.List.{length-map}
use Rattle.std.proofs.lemmas.List.Elements.{All-head, All-tail}
use Rattle.std.proofs.lemmas.List.FromFn.{length-map-range_with_len}
use Rattle.arr_ast.specs.declared.expression.Sign.{Sign}
use Rattle.arr_ast.specs.declared.expression.Sign.TheVariants.{Plus, Minus}
use Rattle.arr_ast.specs.declared.expression.SingleFunction.{SingleFunction}
use Rattle.arr_ast.specs.declared.expression.SingleFunction.TheVariants.{Sum, Transpose}
use Rattle.arr_ast.specs.declared.expression.PairFunction.{PairFunction}
use Rattle.arr_ast.specs.declared.expression.PairFunction.TheVariants.{Scale, Dot, MatMul}
use Rattle.arr_ast.specs.declared.shape.ShapeOf.{ShapeOf}
use Rattle.arr_ast.specs.declared.shape.ShapeOf.TheVariants.{Scalar, Vector, Matrix}
use Rattle.arr_ast.specs.ExpressionTree.{ExpressionTree}
use Rattle.arr_scope.specs.declared.bound.Bound.{Bound}
use Rattle.arr_scope.specs.declared.bound.Bound.TheVariants.{Value, Turn}
use Rattle.arr_scope.specs.declared.counts.Counts.{Counts}
use Rattle.arr_scope.specs.declared.refused.CheckKind.TheVariants as kinds
use Rattle.arr_scope.specs.declared.refused.CheckRefused.TheVariants.{Bad}
use Rattle.arr_scope.specs.Agrees.{Answer}
use Rattle.arr_run.specs.Definitions.{callables}
use Rattle.arr_run.specs.Expression.{Valued, value_of}
use Rattle.arr_ast.specs.ProgramTree.{DefinitionTree}
use Rattle.arr_scope.specs.Scope.{Names}
use Rattle.arr_scope.specs.Shape.{size_of, for_nodes, single_shape, pair_shape}
use Rattle.arr_scope.proofs.api.Answered.{if_ok, pair_ok}
use Rattle.arr_run.proofs.api.Related.{GoTogether, Both, BothNames, expression_both, calls_both}
use Rattle.arr_scope.proofs.api.Shapes.{same_shape-size, for_nodes-shape, for_minus_one-shape, sum_shape-shape, product_shape-shape}
use Rattle.arr_check.specs.declared.shapes.Shapes.{Shapes}
use Rattle.arr_check.specs.Shapes.{shapes}
use Rattle.field_ext.specs.Field.{F, add_f, sub_f, mul_f, neg_f}
use Rattle.arr_eval.specs.Meaning.{Kept, numbers, signed, single, pair}
use Rattle.arr_eval.specs.Numbers.{element, element_wise, transposed_at, product_place}
use Rattle.arr_eval.specs.Sizes.{IsSized, AllSized}

pub element_wise-size : (op : F → F → F) (left right : List F) (size : ℕ) → length left ≡ size → length right ≡ size → length (element_wise op left right) ≡ size
element_wise-size op left right size l r =
    let zipped : length (zip left right) ≡ min (length left) (length right) = length-zip left right in
    length-map (zip left right) (λ (pair : F × F). op pair.0 pair.1) ∙ omega (arith, zipped, l, r)

pub signed-size : (sign : Sign) (left right : List F) (size : ℕ) → length left ≡ size → length right ≡ size → length (signed sign left right) ≡ size
signed-size Plus left right size l r = element_wise-size add_f left right size l r
signed-size Minus left right size l r = element_wise-size sub_f left right size l r

pub single-size : (function : SingleFunction) (at : ℕ) (of shape : ShapeOf) (before counts : Counts) (items : List F) → single_shape function at of before ≡ Ok (shape, counts) → length (single function of items) ≡ size_of shape
single-size Sum at of shape before counts items e = sym (ap size_of (for_nodes-shape at (size_of of - 1) Scalar shape before counts e))
single-size Transpose at (Matrix n m) shape before counts items e =
    length-map-range_with_len (transposed_at n m items) 0 (m * n) ∙ sym (ap size_of (pair_ok (shape, counts) (Matrix m n) before e).0)
single-size Transpose at Scalar shape before counts items e = cc
single-size Transpose at (Vector n) shape before counts items e = cc

pub pair-size : (function : PairFunction) (at : ℕ) (left right shape : ShapeOf) (before counts : Counts) (a b : List F) → pair_shape function at left right before ≡ Ok (shape, counts) → length b ≡ size_of right → length (pair function left right a b) ≡ size_of shape
pair-size Scale at Scalar right shape before counts a b e r = length-map b (mul_f (element a 0)) ∙ r ∙ sym (ap size_of (for_nodes-shape at (size_of right) right shape before counts e))
pair-size Dot at (Vector n) (Vector m) shape before counts a b e r =
    let found = if_ok (n == m) (for_nodes at (n + n - 1) Scalar before) (Bad at kinds.Shape) (shape, counts) e in
    sym (ap size_of (for_nodes-shape at (n + n - 1) Scalar shape before counts found.1))
pair-size MatMul at (Matrix n m) (Matrix k q) shape before counts a b e r =
    let found = if_ok (m == k) (for_nodes at ((n * q) * (m + m - 1)) (Matrix n q) before) (Bad at kinds.Shape) (shape, counts) e in
    length-map-range_with_len (product_place m q a b) 0 (n * q) ∙ sym (ap size_of (for_nodes-shape at ((n * q) * (m + m - 1)) (Matrix n q) shape before counts found.1))
pair-size function at left right shape before counts a b e r = cc

abbrev Alike : Counts → Shapes → Kept → Type 0
Alike counts s t = Unit {0}

abbrev Stands : Shapes → Kept → ShapeOf → Unit {0} → List F → Type 0
Stands s t shape a items = length items ≡ size_of shape

abbrev Later : Shapes → Kept → Shapes → Kept → Type 0
Later s t s' t' = Unit {0}

go : GoTogether shapes numbers Alike Stands Later
go = record {
  stays = λ s t. tt;
  further = λ s s' s'' t t' t'' first second. tt;
  kept = λ s s' t t' shape a b later stands. stands;
  constant = λ at n before counts s t e alike. (tt, refl, tt);
  signed = λ sign at left right shape before counts a a' b b' s t e alike first second.
      let found = sum_shape-shape sign at left right shape before counts e in
      (tt, signed-size sign b b' (size_of left) first (second ∙ sym (same_shape-size left right found.0)) ∙ sym (ap size_of found.1), tt);
  product = λ at left right shape before counts a a' b b' s t e alike first second.
      let found = product_shape-shape at left right shape before counts e in
      (tt, element_wise-size mul_f b b' (size_of left) first (second ∙ sym (same_shape-size left right found.0)) ∙ sym (ap size_of found.1), tt);
  opposite = λ at of shape before counts a b s t e alike stands.
      (tt, length-map b neg_f ∙ stands ∙ sym (ap size_of (for_minus_one-shape at (size_of of) of shape before counts e)), tt);
  single = λ function at of shape before counts a b s t e alike stands. (tt, single-size function at of shape before counts b e, tt);
  pair = λ function at left right shape before counts a a' b b' s t e alike first second. (tt, pair-size function at left right shape before counts b b' e second, tt);
  stepped = λ at before counts s t e alike. tt;
  element = λ shape place a b s t within stands. refl;
}

-- the names with their shapes alone
abbrev forget : Bound (List F) → Bound (Unit {0})
forget (Value shape items) = Value shape tt
forget (Turn number) = Turn number

abbrev forgotten : Names (List F) → Names (Unit {0})
forgotten [] = []
forgotten (entry ∷ names) = (entry.0, forget entry.1) ∷ forgotten names

both_bound : (kept : Kept) (number : ℕ) (bound : Bound (List F)) (names : Names (List F)) → IsSized bound → BothNames shapes numbers Alike Stands Later go (record {}) kept (forgotten names) names →
    BothNames shapes numbers Alike Stands Later go (record {}) kept (forgotten ((number, bound) ∷ names)) ((number, bound) ∷ names)
both_bound kept number (Value shape items) names sized rest = (refl, (refl, sized), rest)
both_bound kept number (Turn turn) names sized rest = (refl, refl, rest)

both_names : (kept : Kept) (names : Names (List F)) → AllSized names → BothNames shapes numbers Alike Stands Later go (record {}) kept (forgotten names) names
both_names kept [] sized = tt
both_names kept (entry ∷ names) sized =
    both_bound kept entry.0 entry.1 names (All-head (λ (entry : ℕ × Bound (List F)). IsSized entry.1) entry names sized)
    (both_names kept names (All-tail (λ (entry : ℕ × Bound (List F)). IsSized entry.1) entry names sized))

sized_of : (kept : Kept) (x : Answer (Valued (Unit {0}) Shapes)) (y : Answer (Valued (List F) Kept)) (found : Valued (List F) Kept) → Both shapes numbers Alike Stands Later go (record {}) kept x y → y ≡ Ok found → length found.1 ≡ size_of found.0
sized_of kept (Ok x) (Ok y) found both e =
    let same : ◌≡◌ {A = Valued (List F) Kept} y found = cc in
    ap (λ (v : Valued (List F) Kept). length v.1) (sym same) ∙ both.3 ∙ ap size_of both.0 ∙ ap (λ (v : Valued (List F) Kept). size_of v.0) same
sized_of kept (Err refused) (Err other) found both e = cc
sized_of kept (Ok x) (Err other) found both e = absurd both
sized_of kept (Err refused) (Ok y) found both e = absurd both

pub value-sized : (definitions : List DefinitionTree) (expression : ExpressionTree) (names : Names (List F)) (counts : Counts) (kept : Kept) (found : Valued (List F) Kept) → AllSized names →
    value_of numbers (callables numbers definitions) expression names counts kept ≡ Ok found → length found.1 ≡ size_of found.0
value-sized definitions expression names counts kept found sized e =
    let calls = callables shapes definitions in
    let calls' = callables numbers definitions in
    sized_of kept (value_of shapes calls expression (forgotten names) counts (record {})) (value_of numbers calls' expression names counts kept) found
    (expression_both shapes numbers Alike Stands Later go calls calls' (calls_both shapes numbers Alike Stands Later go definitions) expression (forgotten names) names counts (record {}) kept (both_names kept names sized) tt) e
