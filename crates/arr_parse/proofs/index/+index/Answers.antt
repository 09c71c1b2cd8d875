use Rattle.std.proofs.lemmas.Grind.{common_steps}
use Rattle.std.proofs.Common.{arith, rules}
use Rattle.arr_parse.proofs.IndexRows.{of_indices}
use Rattle.arr_parse.proofs.index.+index.Goals as goal

pub index_expression-returns-in_err-first-clause-exact :
    goal.index_expression-returns-in_err-first-clause-exact
index_expression-returns-in_err-first-clause-exact t c = grind (arith, of_indices)

pub index_expression-returns-in_err-term-clause-exact :
    goal.index_expression-returns-in_err-term-clause-exact
index_expression-returns-in_err-term-clause-exact t c = grind (arith, of_indices)

pub index_expression-returns-clause-spelled : goal.index_expression-returns-clause-spelled
index_expression-returns-clause-spelled t c = grind (arith, of_indices)

pub index_expression-returns-clause-exact : goal.index_expression-returns-clause-exact
index_expression-returns-clause-exact t c = grind (arith, of_indices)

pub index_factor-returns-in_ok-inner-in-OpenRound-2-clause-spelled :
    goal.index_factor-returns-in_ok-inner-in-OpenRound-2-clause-spelled
index_factor-returns-in_ok-inner-in-OpenRound-2-clause-spelled t c = grind (arith, of_indices)

pub index_term-returns-in_err-first-clause-exact : goal.index_term-returns-in_err-first-clause-exact
index_term-returns-in_err-first-clause-exact t c = grind (arith, of_indices)

pub index_term-returns-in_err-times_index_factors-clause-exact :
    goal.index_term-returns-in_err-times_index_factors-clause-exact
index_term-returns-in_err-times_index_factors-clause-exact t c = grind (arith, of_indices)

pub index_term-returns-clause-spelled : goal.index_term-returns-clause-spelled
index_term-returns-clause-spelled t c = grind (arith, of_indices)

pub index_term-returns-clause-exact : goal.index_term-returns-clause-exact
index_term-returns-clause-exact t c = grind (arith, of_indices)

pub index_expression-index_term-requires : goal.index_expression-index_term-requires
index_expression-index_term-requires g c = search rules

pub index_expression-returns-in_err-first-clause-spelled : goal.index_expression-returns-in_err-first-clause-spelled
index_expression-returns-in_err-first-clause-spelled g c = search rules

pub index_expression-loop-sign-init : goal.index_expression-loop-sign-init
index_expression-loop-sign-init g c = search rules

pub index_expression-index_term-requires-in-Some : goal.index_expression-index_term-requires-in-Some
index_expression-index_term-requires-in-Some g c = search rules

pub index_expression-returns-in_err-term-clause-spelled : goal.index_expression-returns-in_err-term-clause-spelled
index_expression-returns-in_err-term-clause-spelled g c = search rules

pub index_expression-loop-sign-smaller : goal.index_expression-loop-sign-smaller
index_expression-loop-sign-smaller g c = search rules

pub index_expression-returns-in_err-push-clause-spelled : goal.index_expression-returns-in_err-push-clause-spelled
index_expression-returns-in_err-push-clause-spelled g c = search rules

pub index_expression-returns-in_err-push-clause-exact : goal.index_expression-returns-in_err-push-clause-exact
index_expression-returns-in_err-push-clause-exact g c = search rules

pub index_factor-returns-in_err-token-clause-spelled : goal.index_factor-returns-in_err-token-clause-spelled
index_factor-returns-in_err-token-clause-spelled g c = search rules

pub index_factor-returns-in_err-token-clause-exact : goal.index_factor-returns-in_err-token-clause-exact
index_factor-returns-in_err-token-clause-exact g c = search rules

pub index_factor-returns-in_err-open-in-OpenRound-clause-spelled : goal.index_factor-returns-in_err-open-in-OpenRound-clause-spelled
index_factor-returns-in_err-open-in-OpenRound-clause-spelled g c = search rules

pub index_factor-returns-in_err-open-in-OpenRound-clause-exact : goal.index_factor-returns-in_err-open-in-OpenRound-clause-exact
index_factor-returns-in_err-open-in-OpenRound-clause-exact g c = search rules

pub index_factor-index_expression-requires : goal.index_factor-index_expression-requires
index_factor-index_expression-requires g c = search rules

pub index_factor-returns-in_err-inner-in-OpenRound-clause-spelled : goal.index_factor-returns-in_err-inner-in-OpenRound-clause-spelled
index_factor-returns-in_err-inner-in-OpenRound-clause-spelled g c = search rules

pub index_factor-returns-in_err-inner-in-OpenRound-clause-exact : goal.index_factor-returns-in_err-inner-in-OpenRound-clause-exact
index_factor-returns-in_err-inner-in-OpenRound-clause-exact g c = search rules

pub index_factor-close-requires-clause-separator : goal.index_factor-close-requires-clause-separator
index_factor-close-requires-clause-separator g c = search rules

pub index_factor-close-requires-clause-open : goal.index_factor-close-requires-clause-open
index_factor-close-requires-clause-open g c = search rules

pub index_factor-returns-in_err-close-in-OpenRound-clause-spelled : goal.index_factor-returns-in_err-close-in-OpenRound-clause-spelled
index_factor-returns-in_err-close-in-OpenRound-clause-spelled g c = search rules

pub index_factor-returns-in_err-close-in-OpenRound-clause-exact : goal.index_factor-returns-in_err-close-in-OpenRound-clause-exact
index_factor-returns-in_err-close-in-OpenRound-clause-exact g c = search rules

pub index_factor-returns-in_err-inner-in-OpenRound-2-clause-spelled : goal.index_factor-returns-in_err-inner-in-OpenRound-2-clause-spelled
index_factor-returns-in_err-inner-in-OpenRound-2-clause-spelled g c = search rules

pub index_factor-returns-in_err-inner-in-OpenRound-2-clause-exact : goal.index_factor-returns-in_err-inner-in-OpenRound-2-clause-exact
index_factor-returns-in_err-inner-in-OpenRound-2-clause-exact g c = search rules

pub index_factor-returns-in-Number-clause-spelled : goal.index_factor-returns-in-Number-clause-spelled
index_factor-returns-in-Number-clause-spelled g c = search rules

pub index_factor-returns-in-Number-clause-exact : goal.index_factor-returns-in-Number-clause-exact
index_factor-returns-in-Number-clause-exact g c = search rules

pub index_factor-returns-in-Name-clause-spelled : goal.index_factor-returns-in-Name-clause-spelled
index_factor-returns-in-Name-clause-spelled g c = search rules

pub index_factor-returns-in-Name-clause-exact : goal.index_factor-returns-in-Name-clause-exact
index_factor-returns-in-Name-clause-exact g c = search rules

pub index_factor-returns-in_ok-inner-in-OpenRound-2-clause-exact : goal.index_factor-returns-in_ok-inner-in-OpenRound-2-clause-exact
index_factor-returns-in_ok-inner-in-OpenRound-2-clause-exact g c = search rules

pub index_factor-returns-in_default : goal.index_factor-returns-in_default
index_factor-returns-in_default g c = search rules

pub index_term-index_factor-requires : goal.index_term-index_factor-requires
index_term-index_factor-requires g c = search rules

pub index_term-returns-in_err-first-clause-spelled : goal.index_term-returns-in_err-first-clause-spelled
index_term-returns-in_err-first-clause-spelled g c = search rules

pub index_term-times_index_factors-requires : goal.index_term-times_index_factors-requires
index_term-times_index_factors-requires g c = search rules

pub index_term-returns-in_err-times_index_factors-clause-spelled : goal.index_term-returns-in_err-times_index_factors-clause-spelled
index_term-returns-in_err-times_index_factors-clause-spelled g c = search rules

pub times_index_factors-loop-at-init : goal.times_index_factors-loop-at-init
times_index_factors-loop-at-init g c = search rules

pub times_index_factors-index_factor-requires : goal.times_index_factors-index_factor-requires
times_index_factors-index_factor-requires g c = search rules

pub times_index_factors-returns-in_err-factor-clause-spelled : goal.times_index_factors-returns-in_err-factor-clause-spelled
times_index_factors-returns-in_err-factor-clause-spelled g c = search rules

pub times_index_factors-returns-in_err-factor-clause-exact : goal.times_index_factors-returns-in_err-factor-clause-exact
times_index_factors-returns-in_err-factor-clause-exact g c = search rules

pub times_index_factors-loop-at-smaller : goal.times_index_factors-loop-at-smaller
times_index_factors-loop-at-smaller g c = search rules

pub times_index_factors-loop-at-preserved : goal.times_index_factors-loop-at-preserved
times_index_factors-loop-at-preserved g c = grind (arith, common_steps)

pub times_index_factors-returns-in_err-push-clause-spelled : goal.times_index_factors-returns-in_err-push-clause-spelled
times_index_factors-returns-in_err-push-clause-spelled g c = search rules

pub times_index_factors-returns-in_err-push-clause-exact : goal.times_index_factors-returns-in_err-push-clause-exact
times_index_factors-returns-in_err-push-clause-exact g c = search rules

pub times_index_factors-returns-clause-spelled : goal.times_index_factors-returns-clause-spelled
times_index_factors-returns-clause-spelled g c = search rules

pub times_index_factors-returns-clause-exact : goal.times_index_factors-returns-clause-exact
times_index_factors-returns-clause-exact g c = search rules
