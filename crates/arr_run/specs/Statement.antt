-- The run of statements.
use Rattle.std.specs.Prelude.{ℕ, zero, suc, ◌+◌, ◌-◌, ◌==◌, List, [], ◌∷◌, length, take, Option, Some, None, Ok, Err, if◌then◌else◌}
use Rattle.std.specs.List.{range_with_len}
use Rattle.arr_ast.specs.IndexTree.{Sum}
use Rattle.arr_ast.specs.ExpressionTree.{NameTree, IndicesTree, ExpressionTree, ExpressionOf, TermTree, TermOf, FactorTree, Number, Name, Element, Negation, Parenthesized, Single, Pair, Call}
use Rattle.arr_ast.specs.ProgramTree.{DefinitionTree, StatementTree, Let, Set, SetElement, For, BlockTree, EndOfBlock, Then}
use Rattle.arr_ast.specs.declared.shape.ShapeOf.{ShapeOf}
use Rattle.arr_ast.specs.declared.shape.ShapeOf.TheVariants.{Scalar}
use Rattle.arr_scope.specs.declared.bound.Bound.{Bound}
use Rattle.arr_scope.specs.declared.bound.Bound.TheVariants.{Value, Turn}
use Rattle.arr_scope.specs.declared.refused.CheckKind.TheVariants.{Unknown, Taken, Shape}
use Rattle.arr_scope.specs.declared.refused.CheckRefused.TheVariants.{Bad}
use Rattle.arr_scope.specs.Agrees.{Answer, ◌>>=◌, each}
use Rattle.arr_run.specs.Bounds.{bounds_of}
use Rattle.arr_scope.specs.Counting.{step_at}
use Rattle.arr_scope.specs.Element.{indices_at}
use Rattle.arr_run.specs.Definitions.{callables, if_new}
use Rattle.arr_scope.specs.Element.{offset}
use Rattle.arr_run.specs.Expression.{value_of}
use Rattle.arr_run.specs.Operations.{Operations}
use Rattle.arr_scope.specs.Scope.{Names, with_binding}
use Rattle.arr_scope.specs.Shape.{same_shape}
use Rattle.arr_run.specs.State.{State, state, bound, with_name}

abbrev pub factor_at : FactorTree → ℕ
factor_at (Number at value) = at
factor_at (Name name) = name.at
factor_at (Element name indices) = name.at
factor_at (Negation at operand) = at
factor_at (Parenthesized at inner) = at
factor_at (Single function at parenthesis argument) = at
factor_at (Pair function at parenthesis left right) = at
factor_at (Call name parenthesis first further) = name.at

abbrev pub term_at : TermTree → ℕ
term_at (TermOf first times) = factor_at first

-- the place of the first byte
abbrev pub expression_at : ExpressionTree → ℕ
expression_at (ExpressionOf first added) = term_at first

-- the shape of a name that may be assigned
abbrev pub target_shape : {A : Type 0} → ℕ → Option (Bound A) → Answer ShapeOf
target_shape at None = Err (Bad at Unknown)
target_shape at (Some (Turn number)) = Err (Bad at Taken)
target_shape at (Some (Value shape array)) = Ok shape

-- a value's shape that is the one of what it is assigned to
abbrev pub if_of : ShapeOf → ℕ → ShapeOf → Answer (Unit {0})
if_of shape at found = if same_shape shape found then Ok tt else Err (Bad at Shape)

module _ {A S : Type 0} (operations : Operations A S) where
  -- an array with a scalar at a place; a turn has none
  abbrev pub with_element_in : ℕ → A → Bound A → Bound A
  with_element_in place new (Value shape array) =
      Value shape (operations.with_element array place new)
  with_element_in place new (Turn number) = Turn number

  -- names with a scalar at a place of one
  abbrev pub with_element_of : ℕ → ℕ → A → Names A → Names A
  with_element_of name place new [] = []
  with_element_of name place new (entry ∷ names) =
      if entry.0 == name then (name, with_element_in place new entry.1) ∷ names
      else entry ∷ with_element_of name place new names

  -- a step, and what follows it
  abbrev pub stepped : ℕ → (State A S → Answer (State A S)) → State A S → Answer (State A S)
  stepped at go_on before =
      step_at at before.counts >>= λ counts. go_on (state before.names counts before.kept)

  -- so many turns from one on, each a run of the body
  abbrev pub turns : ℕ → ℕ → (ℕ → State A S → Answer (State A S)) → State A S → Answer (State A S)
  turns zero turn body before = Ok before
  turns (suc left) turn body before = body turn before >>= turns left (turn + 1) body

  -- without the names of a block
  abbrev pub left_block : ℕ → State A S → State A S
  left_block kept after = state (take kept after.names) after.counts after.kept

  -- a turn is a step, and a block with the loop variable
  abbrev pub one_turn : ℕ → NameTree → (State A S → Answer (State A S)) → ℕ → State A S
      → Answer (State A S)
  one_turn at name body turn before =
      step_at at before.counts >>= λ counts.
      body (state (with_name name.number (Turn turn) before.names) counts before.kept) >>= λ after.
      Ok (left_block (length before.names) after)

  module _ (definitions : List DefinitionTree) where
    abbrev pub declared : NameTree → ExpressionTree → State A S → Answer (State A S)
    declared name value before =
        if_new name before.names definitions >>= λ free.
        value_of operations (callables operations definitions) value before.names before.counts
        before.kept >>= λ found.
        Ok (state (with_name name.number (Value found.0 found.1) before.names) found.2 found.3)

    abbrev pub assigned : NameTree → ExpressionTree → State A S → Answer (State A S)
    assigned name value before =
        target_shape name.at (bound name before.names) >>= λ shape.
        value_of operations (callables operations definitions) value before.names before.counts
        before.kept >>= λ found.
        if_of shape (expression_at value) found.0 >>= λ fits.
        Ok (state (with_binding name.number (Value shape found.1) before.names) found.2 found.3)

    abbrev pub element_assigned : NameTree → IndicesTree → ExpressionTree → State A S
        → Answer (State A S)
    element_assigned name indices value before =
        target_shape name.at (bound name before.names) >>= λ shape.
        indices_at before.names name.at indices.second indices.first shape >>= λ place.
        value_of operations (callables operations definitions) value before.names before.counts
        before.kept >>= λ found.
        if_of Scalar (expression_at value) found.0 >>= λ fits.
        Ok (state (with_element_of name.number (offset shape place) found.1 before.names) found.2
        found.3)

    -- a loop with these bounds and this body
    abbrev pub counted_loop : ℕ → NameTree → Sum → Sum → (State A S → Answer (State A S))
        → State A S → Answer (State A S)
    counted_loop at name low high body before =
        if_new name before.names definitions >>= λ free.
        bounds_of before.names low high >>= λ (first, end). turns (end - first) first
        (one_turn at name body) before

    abbrev mutual
      pub after_statement : StatementTree → State A S → Answer (State A S)
      after_statement (Let at name value) before = stepped at (declared name value) before
      after_statement (Set name value) before = stepped name.at (assigned name value) before
      after_statement (SetElement name indices value) before =
          stepped name.at (element_assigned name indices value) before
      after_statement (For at name low high body) before =
          stepped at (counted_loop at name low high (after_block body)) before

      pub after_block : BlockTree → State A S → Answer (State A S)
      after_block EndOfBlock before = Ok before
      after_block (Then statement rest) before =
          after_statement statement before >>= after_block rest

    -- a loop as the list of its turns, LO, LO + 1 and so on up to HI - 1
    abbrev pub loop_in_order : ℕ → NameTree → Sum → Sum → (State A S → Answer (State A S))
        → State A S → Answer (State A S)
    loop_in_order at name low high body before =
        if_new name before.names definitions >>= λ free.
        bounds_of before.names low high >>= λ bounds.
        each (one_turn at name body) (range_with_len bounds.0 (bounds.1 - bounds.0)) before
