use Rattle.std.proofs.Common.{arith, rules}
use Rattle.arr_parse.proofs.StatementRows.{of_statements}
use Rattle.arr_parse.proofs.statement.+statement.Goals as goal

pub block-returns-in_ok-close-in-OpenCurly-clause-spelled :
    goal.block-returns-in_ok-close-in-OpenCurly-clause-spelled
block-returns-in_ok-close-in-OpenCurly-clause-spelled t c = grind (arith, of_statements)

pub counted_loop-returns-clause-spelled : goal.counted_loop-returns-clause-spelled
counted_loop-returns-clause-spelled t c = grind (arith, of_statements)

pub statements-each-preserved : goal.statements-each-preserved
statements-each-preserved t c = grind (arith, of_statements)

pub block-returns-in_err-token-clause-spelled : goal.block-returns-in_err-token-clause-spelled
block-returns-in_err-token-clause-spelled g c = search rules

pub block-returns-in_err-token-clause-exact : goal.block-returns-in_err-token-clause-exact
block-returns-in_err-token-clause-exact g c = search rules

pub block-returns-in_err-open-in-OpenCurly-clause-spelled : goal.block-returns-in_err-open-in-OpenCurly-clause-spelled
block-returns-in_err-open-in-OpenCurly-clause-spelled g c = search rules

pub block-returns-in_err-open-in-OpenCurly-clause-exact : goal.block-returns-in_err-open-in-OpenCurly-clause-exact
block-returns-in_err-open-in-OpenCurly-clause-exact g c = search rules

pub block-statements-requires : goal.block-statements-requires
block-statements-requires g c = search rules

pub block-returns-in_err-body-in-OpenCurly-clause-spelled : goal.block-returns-in_err-body-in-OpenCurly-clause-spelled
block-returns-in_err-body-in-OpenCurly-clause-spelled g c = search rules

pub block-returns-in_err-body-in-OpenCurly-clause-exact : goal.block-returns-in_err-body-in-OpenCurly-clause-exact
block-returns-in_err-body-in-OpenCurly-clause-exact g c = search rules

pub block-close-requires-clause-separator : goal.block-close-requires-clause-separator
block-close-requires-clause-separator g c = search rules

pub block-close-requires-clause-open : goal.block-close-requires-clause-open
block-close-requires-clause-open g c = search rules

pub block-returns-in_err-close-in-OpenCurly-clause-spelled : goal.block-returns-in_err-close-in-OpenCurly-clause-spelled
block-returns-in_err-close-in-OpenCurly-clause-spelled g c = search rules

pub block-returns-in_err-close-in-OpenCurly-clause-exact : goal.block-returns-in_err-close-in-OpenCurly-clause-exact
block-returns-in_err-close-in-OpenCurly-clause-exact g c = search rules

pub block-returns-in_ok-close-in-OpenCurly-clause-exact : goal.block-returns-in_ok-close-in-OpenCurly-clause-exact
block-returns-in_ok-close-in-OpenCurly-clause-exact g c = search rules

pub block-returns-in_default : goal.block-returns-in_default
block-returns-in_default g c = search rules

pub boxed_statement-returns-in_err-token-clause-spelled : goal.boxed_statement-returns-in_err-token-clause-spelled
boxed_statement-returns-in_err-token-clause-spelled g c = search rules

pub boxed_statement-returns-in_err-token-clause-shorter : goal.boxed_statement-returns-in_err-token-clause-shorter
boxed_statement-returns-in_err-token-clause-shorter g c = search rules

pub boxed_statement-returns-in_err-token-clause-exact : goal.boxed_statement-returns-in_err-token-clause-exact
boxed_statement-returns-in_err-token-clause-exact g c = search rules

pub boxed_statement-counted_loop-requires : goal.boxed_statement-counted_loop-requires
boxed_statement-counted_loop-requires g c = search rules

pub boxed_statement-returns-in-Let-clause-spelled : goal.boxed_statement-returns-in-Let-clause-spelled
boxed_statement-returns-in-Let-clause-spelled g c = search rules

pub boxed_statement-returns-in-Let-clause-shorter : goal.boxed_statement-returns-in-Let-clause-shorter
boxed_statement-returns-in-Let-clause-shorter g c = search rules

pub boxed_statement-returns-in-Let-clause-exact : goal.boxed_statement-returns-in-Let-clause-exact
boxed_statement-returns-in-Let-clause-exact g c = search rules

pub boxed_statement-returns-in-Name-clause-spelled : goal.boxed_statement-returns-in-Name-clause-spelled
boxed_statement-returns-in-Name-clause-spelled g c = search rules

pub boxed_statement-returns-in-Name-clause-shorter : goal.boxed_statement-returns-in-Name-clause-shorter
boxed_statement-returns-in-Name-clause-shorter g c = search rules

pub boxed_statement-returns-in-Name-clause-exact : goal.boxed_statement-returns-in-Name-clause-exact
boxed_statement-returns-in-Name-clause-exact g c = search rules

pub boxed_statement-returns-in-For-clause-spelled : goal.boxed_statement-returns-in-For-clause-spelled
boxed_statement-returns-in-For-clause-spelled g c = search rules

pub boxed_statement-returns-in-For-clause-shorter : goal.boxed_statement-returns-in-For-clause-shorter
boxed_statement-returns-in-For-clause-shorter g c = search rules

pub boxed_statement-returns-in-For-clause-exact : goal.boxed_statement-returns-in-For-clause-exact
boxed_statement-returns-in-For-clause-exact g c = search rules

pub boxed_statement-returns-in_default : goal.boxed_statement-returns-in_default
boxed_statement-returns-in_default g c = search rules

pub counted_loop-returns-in_err-name-clause-spelled : goal.counted_loop-returns-in_err-name-clause-spelled
counted_loop-returns-in_err-name-clause-spelled g c = search rules

pub counted_loop-returns-in_err-name-clause-exact : goal.counted_loop-returns-in_err-name-clause-exact
counted_loop-returns-in_err-name-clause-exact g c = search rules

pub counted_loop-returns-in_err-low-clause-spelled : goal.counted_loop-returns-in_err-low-clause-spelled
counted_loop-returns-in_err-low-clause-spelled g c = search rules

pub counted_loop-returns-in_err-low-clause-exact : goal.counted_loop-returns-in_err-low-clause-exact
counted_loop-returns-in_err-low-clause-exact g c = search rules

pub counted_loop-block-requires : goal.counted_loop-block-requires
counted_loop-block-requires g c = search rules

pub counted_loop-returns-in_err-body-clause-spelled : goal.counted_loop-returns-in_err-body-clause-spelled
counted_loop-returns-in_err-body-clause-spelled g c = search rules

pub counted_loop-returns-in_err-body-clause-exact : goal.counted_loop-returns-in_err-body-clause-exact
counted_loop-returns-in_err-body-clause-exact g c = search rules

pub counted_loop-returns-in_err-loop_of-clause-spelled : goal.counted_loop-returns-in_err-loop_of-clause-spelled
counted_loop-returns-in_err-loop_of-clause-spelled g c = search rules

pub counted_loop-returns-in_err-loop_of-clause-exact : goal.counted_loop-returns-in_err-loop_of-clause-exact
counted_loop-returns-in_err-loop_of-clause-exact g c = search rules

pub counted_loop-returns-clause-exact : goal.counted_loop-returns-clause-exact
counted_loop-returns-clause-exact g c = search rules

pub statements-each-init : goal.statements-each-init
statements-each-init g c = search rules

pub statements-boxed_statement-requires : goal.statements-boxed_statement-requires
statements-boxed_statement-requires g c = search rules

pub statements-returns-in_err-next-clause-spelled : goal.statements-returns-in_err-next-clause-spelled
statements-returns-in_err-next-clause-spelled g c = search rules

pub statements-returns-in_err-next-clause-exact : goal.statements-returns-in_err-next-clause-exact
statements-returns-in_err-next-clause-exact g c = search rules

pub statements-each-smaller : goal.statements-each-smaller
statements-each-smaller g c = search rules

pub statements-returns-in_err-add_statement-clause-spelled : goal.statements-returns-in_err-add_statement-clause-spelled
statements-returns-in_err-add_statement-clause-spelled g c = search rules

pub statements-returns-in_err-add_statement-clause-exact : goal.statements-returns-in_err-add_statement-clause-exact
statements-returns-in_err-add_statement-clause-exact g c = search rules

pub statements-returns-clause-spelled : goal.statements-returns-clause-spelled
statements-returns-clause-spelled g c = search rules

pub statements-returns-clause-exact : goal.statements-returns-clause-exact
statements-returns-clause-exact g c = search rules
