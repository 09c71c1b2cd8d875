use Rattle.std.proofs.lemmas.Grind.{common_steps}
use Rattle.std.proofs.Common.{rules, arith, w64}
use Rattle.std.proofs.lemmas.Int.{to_z-of_z}
use Rattle.arr_scope.proofs.IndexRows.{added_index_term_value-out}
use Rattle.arr_scope.proofs.index.+index.Goals as goal

pub times_value-returns-clause-value : goal.times_value-returns-clause-value
times_value-returns-clause-value g t c =
    let left = to_z-of_z w64 c.args.left c.ranges.left in
    let right = to_z-of_z w64 c.in_ok-right.right (first_of (search (rules, c.in_ok-right.ensures.small), grind (arith, c.in_ok-right.ensures.small))) in
    rw c.in_ok-right.ensures.value (simp (left, right) at c.product_within.ensures.value)

pub added_value-returns-clause-value : goal.added_value-returns-clause-value
added_value-returns-clause-value g t c =
    let left = to_z-of_z w64 c.args.left c.ranges.left in
    let right = to_z-of_z w64 c.in_ok-right.right (first_of (search (rules, c.in_ok-right.ensures.small), grind (arith, c.in_ok-right.ensures.small))) in
    rw (added_index_term_value-out c.args.scope.now c.args.whole c.args.added.now c.args.left) (rw c.in_ok-right.ensures.value (simp (left, right) at c.sum_within.ensures.value))

pub added_value-returns-in_err-right-clause-small : goal.added_value-returns-in_err-right-clause-small
added_value-returns-in_err-right-clause-small g c = search rules

pub added_value-sum_within-requires-clause-left : goal.added_value-sum_within-requires-clause-left
added_value-sum_within-requires-clause-left g c = search rules

pub added_value-sum_within-requires-clause-right : goal.added_value-sum_within-requires-clause-right
added_value-sum_within-requires-clause-right g c = search rules

pub added_value-returns-clause-small : goal.added_value-returns-clause-small
added_value-returns-clause-small g c = search rules

pub factor_value-returns-in-Number-clause-value : goal.factor_value-returns-in-Number-clause-value
factor_value-returns-in-Number-clause-value g c = search rules

pub factor_value-returns-in-Number-clause-small : goal.factor_value-returns-in-Number-clause-small
factor_value-returns-in-Number-clause-small g c = search rules

pub factor_value-returns-in-Name-clause-value : goal.factor_value-returns-in-Name-clause-value
factor_value-returns-in-Name-clause-value g c = search rules

pub factor_value-returns-in-Name-clause-small : goal.factor_value-returns-in-Name-clause-small
factor_value-returns-in-Name-clause-small g c = search rules

pub factor_value-returns-in-Parenthesized-clause-value : goal.factor_value-returns-in-Parenthesized-clause-value
factor_value-returns-in-Parenthesized-clause-value g c = search rules

pub factor_value-returns-in-Parenthesized-clause-small : goal.factor_value-returns-in-Parenthesized-clause-small
factor_value-returns-in-Parenthesized-clause-small g c = search rules

pub index_value-returns-in_err-value-clause-small : goal.index_value-returns-in_err-value-clause-small
index_value-returns-in_err-value-clause-small g c = search rules

pub index_value-offset_bounds-added-items-added-index : goal.index_value-offset_bounds-added-items-added-index
index_value-offset_bounds-added-items-added-index g c = search rules

pub index_value-returns-in_err-value-2-clause-value : goal.index_value-returns-in_err-value-2-clause-value
index_value-returns-in_err-value-2-clause-value g c = grind (arith, common_steps)

pub index_value-returns-in_err-value-2-clause-small : goal.index_value-returns-in_err-value-2-clause-small
index_value-returns-in_err-value-2-clause-small g c = search rules

pub index_value-each-smaller : goal.index_value-each-smaller
index_value-each-smaller g c = search rules

pub index_value-each-preserved : goal.index_value-each-preserved
index_value-each-preserved g c = grind (arith, common_steps)

pub index_value-returns-clause-value : goal.index_value-returns-clause-value
index_value-returns-clause-value g c = grind (arith, common_steps)

pub index_value-returns-clause-small : goal.index_value-returns-clause-small
index_value-returns-clause-small g c = search rules

pub term_value-returns-in_err-value-clause-small : goal.term_value-returns-in_err-value-clause-small
term_value-returns-in_err-value-clause-small g c = search rules

pub term_value-offset_bounds-times-items-times-index : goal.term_value-offset_bounds-times-items-times-index
term_value-offset_bounds-times-items-times-index g c = search rules

pub term_value-returns-in_err-value-2-clause-value : goal.term_value-returns-in_err-value-2-clause-value
term_value-returns-in_err-value-2-clause-value g c = grind (arith, common_steps)

pub term_value-returns-in_err-value-2-clause-small : goal.term_value-returns-in_err-value-2-clause-small
term_value-returns-in_err-value-2-clause-small g c = search rules

pub term_value-each-smaller : goal.term_value-each-smaller
term_value-each-smaller g c = search rules

pub term_value-each-preserved : goal.term_value-each-preserved
term_value-each-preserved g c = grind (arith, common_steps)

pub term_value-returns-clause-value : goal.term_value-returns-clause-value
term_value-returns-clause-value g c = grind (arith, common_steps)

pub term_value-returns-clause-small : goal.term_value-returns-clause-small
term_value-returns-clause-small g c = search rules

pub times_value-returns-in_err-right-clause-value : goal.times_value-returns-in_err-right-clause-value
times_value-returns-in_err-right-clause-value g c = search rules

pub times_value-returns-in_err-right-clause-small : goal.times_value-returns-in_err-right-clause-small
times_value-returns-in_err-right-clause-small g c = search rules

pub times_value-product_within-requires-clause-left : goal.times_value-product_within-requires-clause-left
times_value-product_within-requires-clause-left g c = search rules

pub times_value-product_within-requires-clause-right : goal.times_value-product_within-requires-clause-right
times_value-product_within-requires-clause-right g c = search rules

pub times_value-returns-clause-small : goal.times_value-returns-clause-small
times_value-returns-clause-small g c = search rules
