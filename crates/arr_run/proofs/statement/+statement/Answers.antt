use Rattle.std.proofs.lemmas.Grind.{common_steps}
use Rattle.std.proofs.Common.{rules, arith, ◌≡◌, ◌-◌, ◌+◌, ap, sym, ◌∙◌}
use Rattle.std.specs.Prelude.{map}
use Rattle.arr_ast.specs.IndexTree.{sum_tree}
use Rattle.arr_ast.specs.ExpressionTree.{name_tree}
use Rattle.arr_ast.specs.ProgramTree.{statement_tree}
use Rattle.arr_ast.specs.declared.statement.Statement.{size-Statement}
use Rattle.arr_scope.specs.Agrees.{Answer, ◌>>=◌, each}
use Rattle.arr_run.specs.State.{State, state}
use Rattle.arr_run.specs.Steps.{newest_first}
use Rattle.arr_run.specs.Statement.{stepped, after_statement, counted_loop, turns, one_turn}
use Rattle.arr_run.proofs.api.StatementRows.{after_block-made, body_smaller, turns-step}
use Rattle.arr_run.proofs.statement.+statement.Goals as goal

pub all_turns-each-preserved : goal.all_turns-each-preserved
all_turns-each-preserved g t c =
    let operations = g.M.Machine.operations in
    let definitions = newest_first c.args.defined.now.definitions.now in
    c.each.invariant ∙ turns-step operations c.args.end c.each.turn _ (state c.each.scope c.each.counts c.each.machine) c.each-test.true
    ∙ ap (λ after. after >>= turns operations (c.args.end - (c.each.turn + 1)) (c.each.turn + 1) (one_turn operations c.args.at (name_tree c.args.name.now) (each (after_statement operations definitions) (map statement_tree c.args.body.now)))) c.in_ok-one_turn.ensures

pub all_turns-returns-in_err-one_turn : goal.all_turns-returns-in_err-one_turn
all_turns-returns-in_err-one_turn g t c =
    rw (c.each.invariant ∙ turns-step g.M.Machine.operations c.args.end c.each.turn _ (state c.each.scope c.each.counts c.each.machine) c.each-test.true) (search rules)

pub run_statement-counted_loop-requires : goal.run_statement-counted_loop-requires
run_statement-counted_loop-requires g t c κs within =
    let smaller = body_smaller c.in-For.at c.in-For.name c.in-For.low c.in-For.high c.in-For.body in
    (rw c.deref.ensures.value (omega (arith, c.decreases, ap size-Statement c.in-For.is, smaller)), within)

pub run_statement-returns-in-For : goal.run_statement-returns-in-For
run_statement-returns-in-For g t c =
    let operations = g.M.Machine.operations in
    let definitions = newest_first c.args.defined.now.definitions.now in
    let before = state c.args.scope.now c.args.counts.now c.args.machine.now in
    let loop = λ (body : State _ _ → Answer (State _ _)). stepped operations c.in-For.at (counted_loop operations definitions c.in-For.at (name_tree c.in-For.name) (sum_tree c.in-For.low) (sum_tree c.in-For.high) body) before in
    let is_loop : after_statement operations definitions (statement_tree c.args.statement.now) before ≡ loop (each (after_statement operations definitions) (map statement_tree c.deref.result.now)) =
    ap (λ statement. after_statement operations definitions (statement_tree statement) before) c.in-For.is
    ∙ ap loop (after_block-made operations definitions c.in-For.body)
    ∙ ap (λ items. loop (each (after_statement operations definitions) (map statement_tree items))) (sym c.deref.ensures.value) in
    rw is_loop c.counted_loop.ensures

pub all_turns-each-init : goal.all_turns-each-init
all_turns-each-init g c = search rules

pub all_turns-one_turn-requires : goal.all_turns-one_turn-requires
all_turns-one_turn-requires g c = search rules

pub all_turns-each-smaller : goal.all_turns-each-smaller
all_turns-each-smaller g c = search rules

pub all_turns-returns : goal.all_turns-returns
all_turns-returns g c = search rules

pub counted_loop-returns-in_err-step : goal.counted_loop-returns-in_err-step
counted_loop-returns-in_err-step g c = search rules

pub counted_loop-returns-in_err-require_new : goal.counted_loop-returns-in_err-require_new
counted_loop-returns-in_err-require_new g c = search rules

pub counted_loop-returns-in_err-first : goal.counted_loop-returns-in_err-first
counted_loop-returns-in_err-first g c = search rules

pub counted_loop-all_turns-requires : goal.counted_loop-all_turns-requires
counted_loop-all_turns-requires g c = search rules

pub counted_loop-returns : goal.counted_loop-returns
counted_loop-returns g c = search rules

pub one_turn-returns-in_err-step : goal.one_turn-returns-in_err-step
one_turn-returns-in_err-step g c = search rules

pub one_turn-returns-in_err-declare : goal.one_turn-returns-in_err-declare
one_turn-returns-in_err-declare g c = search rules

pub one_turn-run_all-requires : goal.one_turn-run_all-requires
one_turn-run_all-requires g c = search rules

pub one_turn-returns-in_err-run_all : goal.one_turn-returns-in_err-run_all
one_turn-returns-in_err-run_all g c = search rules

pub one_turn-returns : goal.one_turn-returns
one_turn-returns g c = search rules

pub run_all-each-init : goal.run_all-each-init
run_all-each-init g c = search rules

pub run_all-offset_bounds-statements-statement-index : goal.run_all-offset_bounds-statements-statement-index
run_all-offset_bounds-statements-statement-index g c = search rules

pub run_all-returns-in_err-run_statement : goal.run_all-returns-in_err-run_statement
run_all-returns-in_err-run_statement g c = grind (arith, common_steps)

pub run_all-each-smaller : goal.run_all-each-smaller
run_all-each-smaller g c = search rules

pub run_all-each-preserved : goal.run_all-each-preserved
run_all-each-preserved g c = grind (arith, common_steps)

pub run_all-returns : goal.run_all-returns
run_all-returns g c = grind (arith, common_steps)

pub run_statement-returns-in_err-step-in-Let : goal.run_statement-returns-in_err-step-in-Let
run_statement-returns-in_err-step-in-Let g c = search rules

pub run_statement-returns-in_err-step-in-Set : goal.run_statement-returns-in_err-step-in-Set
run_statement-returns-in_err-step-in-Set g c = search rules

pub run_statement-returns-in_err-step-in-SetElement : goal.run_statement-returns-in_err-step-in-SetElement
run_statement-returns-in_err-step-in-SetElement g c = search rules

pub run_statement-returns-in_ok-step-in-Let : goal.run_statement-returns-in_ok-step-in-Let
run_statement-returns-in_ok-step-in-Let g c = search rules

pub run_statement-returns-in_ok-step-in-Set : goal.run_statement-returns-in_ok-step-in-Set
run_statement-returns-in_ok-step-in-Set g c = search rules

pub run_statement-returns-in_ok-step-in-SetElement : goal.run_statement-returns-in_ok-step-in-SetElement
run_statement-returns-in_ok-step-in-SetElement g c = search rules
