-- The run of a loop whose body is a vector.
use Rattle.std.proofs.Common.{◌≡◌, ℕ, zero, suc, ◌+◌, ◌-◌, ◌<◌, refl, ap, ◌∙◌, arith}
use Rattle.std.specs.Prelude.{List, Vec, map}
use Rattle.std.specs.List.{range_with_len}
use Rattle.std.specs.declared.alloc.Global.{Global}
use denote.Param.Weighed.{most}
use Rattle.arr_ast.specs.declared.program.Name.{Name}
use Rattle.arr_ast.specs.declared.index.IndexExpression.{IndexExpression}
use Rattle.arr_ast.specs.declared.statement.Statement.TheVariants.{For, outs-For}
use Rattle.arr_ast.specs.declared.statement.Statement.{size-Statement, size_is-Statement}
use Rattle.arr_ast.specs.declared.statement.Statement.{Statement, Row_of-Statement, end_of-Statement, more_of-Statement, items-the_row-Statement, items_hidden-the_row-Statement-0}
use Rattle.arr_ast.specs.declared.statement.Statement.TheBlock.{hidden-the_row-Statement-0}
use Rattle.arr_ast.specs.ProgramTree.{DefinitionTree, statement_tree, block_tree}
use Rattle.arr_scope.specs.Agrees.{Answer, ◌>>=◌, each}
use Rattle.arr_run.specs.Operations.{Operations}
use Rattle.arr_ast.specs.ExpressionTree.{NameTree}
use Rattle.arr_ast.specs.IndexTree.{Sum}
use Rattle.arr_run.specs.Bounds.{bounds_of}
use Rattle.arr_run.specs.Definitions.{if_new}
use Rattle.arr_run.specs.State.{State}
use Rattle.arr_run.specs.Statement.{after_statement, after_block, counted_loop, loop_in_order, one_turn, turns}

-- the statements of a loop are smaller than the loop
pub body_smaller : (at : ℕ) (name : Name) (low high : IndexExpression) (body : Vec Statement Global) → most size-Statement body.items < size-Statement (For at name low high body)
body_smaller at name low high body = rw (size_is-Statement (For at name low high body)) (rw (outs-For at name low high body) (omega arith))

module _ {A S : Type 0} (operations : Operations A S) where
  pub turns-step : (end turn : ℕ) (body : ℕ → State A S → Answer (State A S)) (before : State A S) → turn < end →
      turns operations (end - turn) turn body before ≡ (body turn before >>= turns operations (end - (turn + 1)) (turn + 1) body)
  turns-step end turn body before h =
      let one_more : end - turn ≡ suc (end - (turn + 1)) = omega arith in
      ap (λ left. turns operations left turn body before) one_more

  pub turns-each : (count first : ℕ) (body : ℕ → State A S → Answer (State A S)) (before : State A S) → turns operations count first body before ≡ each body (range_with_len first count) before
  turns-each zero first body before = refl
  turns-each (suc count) first body before = λ i. body first before >>= λ after. turns-each count (first + 1) body after i

module _ {A S : Type 0} (operations : Operations A S) (definitions : List DefinitionTree) where
  after_block-items : {n : _} (body : Row_of-Statement n) → after_block operations definitions (block_tree body) ≡ each (after_statement operations definitions) (map statement_tree (items-the_row-Statement n body))
  after_block-items end_of-Statement = refl
  after_block-items (more_of-Statement statement rest) = λ i before. after_statement operations definitions (statement_tree statement) before >>= after_block-items rest i

  pub after_block-made : (body : Vec Statement Global) → after_block operations definitions (block_tree (hidden-the_row-Statement-0 body)) ≡ each (after_statement operations definitions) (map statement_tree body.items)
  after_block-made body = after_block-items (hidden-the_row-Statement-0 body) ∙ ap (λ items. each (after_statement operations definitions) (map statement_tree items)) (items_hidden-the_row-Statement-0 body)

  pub loop-in-order : (at : ℕ) (name : NameTree) (low high : Sum) (body : State A S → Answer (State A S)) (before : State A S) →
      counted_loop operations definitions at name low high body before ≡ loop_in_order operations definitions at name low high body before
  loop-in-order at name low high body before = λ i.
      if_new name before.names definitions >>= λ free. bounds_of before.names low high >>= λ bounds.
      turns-each operations (bounds.1 - bounds.0) bounds.0 (one_turn operations at name body) before i

pub ruleset of_statements = (after_block-made)

pub ruleset of_turns = (turns-step)
