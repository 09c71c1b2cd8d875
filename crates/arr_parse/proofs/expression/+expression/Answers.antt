use Rattle.std.proofs.Common.{arith, rules}
use Rattle.arr_parse.proofs.Rows.{of_expressions}
use Rattle.arr_parse.proofs.expression.+expression.Goals as goal

pub added_terms-loop-sign-preserved : goal.added_terms-loop-sign-preserved
added_terms-loop-sign-preserved t c = grind (arith, of_expressions)

pub boxed_expression-returns-in_err-first-clause-exact :
    goal.boxed_expression-returns-in_err-first-clause-exact
boxed_expression-returns-in_err-first-clause-exact t c = grind (arith, of_expressions)

pub boxed_expression-returns-in_ok-expression_of-in-Ok-clause-spelled :
    goal.boxed_expression-returns-in_ok-expression_of-in-Ok-clause-spelled
boxed_expression-returns-in_ok-expression_of-in-Ok-clause-spelled t c = grind (arith, of_expressions)

pub boxed_expression-returns-in_ok-expression_of-in-Ok-clause-exact :
    goal.boxed_expression-returns-in_ok-expression_of-in-Ok-clause-exact
boxed_expression-returns-in_ok-expression_of-in-Ok-clause-exact t c = grind (arith, of_expressions)

pub boxed_expression-returns-in-Err-clause-exact :
    goal.boxed_expression-returns-in-Err-clause-exact
boxed_expression-returns-in-Err-clause-exact t c = grind (arith, of_expressions)

pub call-returns-in_ok-call_of-in-Ok-clause-spelled :
    goal.call-returns-in_ok-call_of-in-Ok-clause-spelled
call-returns-in_ok-call_of-in-Ok-clause-spelled t c = grind (arith, of_expressions)

pub further_arguments-loop-cursor-preserved : goal.further_arguments-loop-cursor-preserved
further_arguments-loop-cursor-preserved t c = grind (arith, of_expressions)

pub in_parentheses-returns-clause-spelled : goal.in_parentheses-returns-clause-spelled
in_parentheses-returns-clause-spelled t c = grind (arith, of_expressions)

pub negated-returns-clause-exact : goal.negated-returns-clause-exact
negated-returns-clause-exact t c = grind (arith, of_expressions)

pub pair-returns-clause-spelled : goal.pair-returns-clause-spelled
pair-returns-clause-spelled t c = grind (arith, of_expressions)

pub single-returns-clause-spelled : goal.single-returns-clause-spelled
single-returns-clause-spelled t c = grind (arith, of_expressions)

pub term-returns-in_err-first-clause-exact : goal.term-returns-in_err-first-clause-exact
term-returns-in_err-first-clause-exact t c = grind (arith, of_expressions)

pub term-returns-in_ok-term_of-in-Ok-clause-spelled :
    goal.term-returns-in_ok-term_of-in-Ok-clause-spelled
term-returns-in_ok-term_of-in-Ok-clause-spelled t c = grind (arith, of_expressions)

pub term-returns-in_ok-term_of-in-Ok-clause-exact :
    goal.term-returns-in_ok-term_of-in-Ok-clause-exact
term-returns-in_ok-term_of-in-Ok-clause-exact t c = grind (arith, of_expressions)

pub term-returns-in-Err-clause-exact : goal.term-returns-in-Err-clause-exact
term-returns-in-Err-clause-exact t c = grind (arith, of_expressions)

pub times_factors-loop-at-preserved : goal.times_factors-loop-at-preserved
times_factors-loop-at-preserved t c = grind (arith, of_expressions)

pub added_terms-loop-sign-init : goal.added_terms-loop-sign-init
added_terms-loop-sign-init g c = search rules

pub added_terms-term-requires : goal.added_terms-term-requires
added_terms-term-requires g c = search rules

pub added_terms-returns-in_err-term-clause-spelled : goal.added_terms-returns-in_err-term-clause-spelled
added_terms-returns-in_err-term-clause-spelled g c = search rules

pub added_terms-returns-in_err-term-clause-exact : goal.added_terms-returns-in_err-term-clause-exact
added_terms-returns-in_err-term-clause-exact g c = search rules

pub added_terms-loop-sign-smaller : goal.added_terms-loop-sign-smaller
added_terms-loop-sign-smaller g c = search rules

pub added_terms-returns-in_err-add_term-clause-spelled : goal.added_terms-returns-in_err-add_term-clause-spelled
added_terms-returns-in_err-add_term-clause-spelled g c = search rules

pub added_terms-returns-in_err-add_term-clause-exact : goal.added_terms-returns-in_err-add_term-clause-exact
added_terms-returns-in_err-add_term-clause-exact g c = search rules

pub added_terms-returns-clause-spelled : goal.added_terms-returns-clause-spelled
added_terms-returns-clause-spelled g c = search rules

pub added_terms-returns-clause-exact : goal.added_terms-returns-clause-exact
added_terms-returns-clause-exact g c = search rules

pub after_name-returns-in_default-clause-spelled : goal.after_name-returns-in_default-clause-spelled
after_name-returns-in_default-clause-spelled g c = search rules

pub after_name-returns-in_default-clause-exact : goal.after_name-returns-in_default-clause-exact
after_name-returns-in_default-clause-exact g c = search rules

pub after_name-returns-in_err-open-clause-spelled : goal.after_name-returns-in_err-open-clause-spelled
after_name-returns-in_err-open-clause-spelled g c = search rules

pub after_name-returns-in_err-open-clause-exact : goal.after_name-returns-in_err-open-clause-exact
after_name-returns-in_err-open-clause-exact g c = search rules

pub after_name-call-requires : goal.after_name-call-requires
after_name-call-requires g c = search rules

pub after_name-returns-clause-spelled : goal.after_name-returns-clause-spelled
after_name-returns-clause-spelled g c = search rules

pub after_name-returns-clause-exact : goal.after_name-returns-clause-exact
after_name-returns-clause-exact g c = search rules

pub boxed_expression-term-requires : goal.boxed_expression-term-requires
boxed_expression-term-requires g c = search rules

pub boxed_expression-returns-in_err-first-clause-spelled : goal.boxed_expression-returns-in_err-first-clause-spelled
boxed_expression-returns-in_err-first-clause-spelled g c = search rules

pub boxed_expression-added_terms-requires : goal.boxed_expression-added_terms-requires
boxed_expression-added_terms-requires g c = search rules

pub boxed_expression-returns-in_err-expression_of-in-Ok-clause-spelled : goal.boxed_expression-returns-in_err-expression_of-in-Ok-clause-spelled
boxed_expression-returns-in_err-expression_of-in-Ok-clause-spelled g c = search rules

pub boxed_expression-returns-in_err-expression_of-in-Ok-clause-exact : goal.boxed_expression-returns-in_err-expression_of-in-Ok-clause-exact
boxed_expression-returns-in_err-expression_of-in-Ok-clause-exact g c = search rules

pub boxed_expression-returns-in-Err-clause-spelled : goal.boxed_expression-returns-in-Err-clause-spelled
boxed_expression-returns-in-Err-clause-spelled g c = search rules

pub call-boxed_expression-requires : goal.call-boxed_expression-requires
call-boxed_expression-requires g c = search rules

pub call-returns-in_err-first-clause-spelled : goal.call-returns-in_err-first-clause-spelled
call-returns-in_err-first-clause-spelled g c = search rules

pub call-returns-in_err-first-clause-ends : goal.call-returns-in_err-first-clause-ends
call-returns-in_err-first-clause-ends g c = search rules

pub call-returns-in_err-first-clause-exact : goal.call-returns-in_err-first-clause-exact
call-returns-in_err-first-clause-exact g c = search rules

pub call-closed_arguments-requires : goal.call-closed_arguments-requires
call-closed_arguments-requires g c = search rules

pub call-returns-in_err-call_of-in-Ok-clause-spelled : goal.call-returns-in_err-call_of-in-Ok-clause-spelled
call-returns-in_err-call_of-in-Ok-clause-spelled g c = search rules

pub call-returns-in_err-call_of-in-Ok-clause-ends : goal.call-returns-in_err-call_of-in-Ok-clause-ends
call-returns-in_err-call_of-in-Ok-clause-ends g c = search rules

pub call-returns-in_err-call_of-in-Ok-clause-exact : goal.call-returns-in_err-call_of-in-Ok-clause-exact
call-returns-in_err-call_of-in-Ok-clause-exact g c = search rules

pub call-returns-in_ok-call_of-in-Ok-clause-ends : goal.call-returns-in_ok-call_of-in-Ok-clause-ends
call-returns-in_ok-call_of-in-Ok-clause-ends g c = search rules

pub call-returns-in_ok-call_of-in-Ok-clause-exact : goal.call-returns-in_ok-call_of-in-Ok-clause-exact
call-returns-in_ok-call_of-in-Ok-clause-exact g c = search rules

pub call-returns-in-Err-clause-spelled : goal.call-returns-in-Err-clause-spelled
call-returns-in-Err-clause-spelled g c = search rules

pub call-returns-in-Err-clause-ends : goal.call-returns-in-Err-clause-ends
call-returns-in-Err-clause-ends g c = search rules

pub call-returns-in-Err-clause-exact : goal.call-returns-in-Err-clause-exact
call-returns-in-Err-clause-exact g c = search rules

pub closed_arguments-further_arguments-requires : goal.closed_arguments-further_arguments-requires
closed_arguments-further_arguments-requires g c = search rules

pub closed_arguments-returns-in_err-further_arguments-clause-spelled : goal.closed_arguments-returns-in_err-further_arguments-clause-spelled
closed_arguments-returns-in_err-further_arguments-clause-spelled g c = search rules

pub closed_arguments-returns-in_err-further_arguments-clause-ends : goal.closed_arguments-returns-in_err-further_arguments-clause-ends
closed_arguments-returns-in_err-further_arguments-clause-ends g c = search rules

pub closed_arguments-returns-in_err-further_arguments-clause-exact : goal.closed_arguments-returns-in_err-further_arguments-clause-exact
closed_arguments-returns-in_err-further_arguments-clause-exact g c = search rules

pub closed_arguments-close-requires-clause-separator : goal.closed_arguments-close-requires-clause-separator
closed_arguments-close-requires-clause-separator g c = search rules

pub closed_arguments-close-requires-clause-open : goal.closed_arguments-close-requires-clause-open
closed_arguments-close-requires-clause-open g c = search rules

pub closed_arguments-returns-in_err-close-clause-spelled : goal.closed_arguments-returns-in_err-close-clause-spelled
closed_arguments-returns-in_err-close-clause-spelled g c = search rules

pub closed_arguments-returns-in_err-close-clause-ends : goal.closed_arguments-returns-in_err-close-clause-ends
closed_arguments-returns-in_err-close-clause-ends g c = search rules

pub closed_arguments-returns-in_err-close-clause-exact : goal.closed_arguments-returns-in_err-close-clause-exact
closed_arguments-returns-in_err-close-clause-exact g c = search rules

pub closed_arguments-returns-clause-spelled : goal.closed_arguments-returns-clause-spelled
closed_arguments-returns-clause-spelled g c = search rules

pub closed_arguments-returns-clause-ends : goal.closed_arguments-returns-clause-ends
closed_arguments-returns-clause-ends g c = search rules

pub closed_arguments-returns-clause-exact : goal.closed_arguments-returns-clause-exact
closed_arguments-returns-clause-exact g c = search rules

pub closed_expression-boxed_expression-requires : goal.closed_expression-boxed_expression-requires
closed_expression-boxed_expression-requires g c = search rules

pub closed_expression-returns-in_err-inner-clause-spelled : goal.closed_expression-returns-in_err-inner-clause-spelled
closed_expression-returns-in_err-inner-clause-spelled g c = search rules

pub closed_expression-returns-in_err-inner-clause-ends : goal.closed_expression-returns-in_err-inner-clause-ends
closed_expression-returns-in_err-inner-clause-ends g c = search rules

pub closed_expression-returns-in_err-inner-clause-exact : goal.closed_expression-returns-in_err-inner-clause-exact
closed_expression-returns-in_err-inner-clause-exact g c = search rules

pub closed_expression-close-requires-clause-separator : goal.closed_expression-close-requires-clause-separator
closed_expression-close-requires-clause-separator g c = search rules

pub closed_expression-close-requires-clause-open : goal.closed_expression-close-requires-clause-open
closed_expression-close-requires-clause-open g c = search rules

pub closed_expression-returns-in_err-close-clause-spelled : goal.closed_expression-returns-in_err-close-clause-spelled
closed_expression-returns-in_err-close-clause-spelled g c = search rules

pub closed_expression-returns-in_err-close-clause-ends : goal.closed_expression-returns-in_err-close-clause-ends
closed_expression-returns-in_err-close-clause-ends g c = search rules

pub closed_expression-returns-in_err-close-clause-exact : goal.closed_expression-returns-in_err-close-clause-exact
closed_expression-returns-in_err-close-clause-exact g c = search rules

pub closed_expression-returns-clause-spelled : goal.closed_expression-returns-clause-spelled
closed_expression-returns-clause-spelled g c = search rules

pub closed_expression-returns-clause-ends : goal.closed_expression-returns-clause-ends
closed_expression-returns-clause-ends g c = search rules

pub closed_expression-returns-clause-exact : goal.closed_expression-returns-clause-exact
closed_expression-returns-clause-exact g c = search rules

pub factor-returns-in_err-token-clause-spelled : goal.factor-returns-in_err-token-clause-spelled
factor-returns-in_err-token-clause-spelled g c = search rules

pub factor-returns-in_err-token-clause-exact : goal.factor-returns-in_err-token-clause-exact
factor-returns-in_err-token-clause-exact g c = search rules

pub factor-returns-in_err-number-in-Number-clause-spelled : goal.factor-returns-in_err-number-in-Number-clause-spelled
factor-returns-in_err-number-in-Number-clause-spelled g c = search rules

pub factor-returns-in_err-number-in-Number-clause-exact : goal.factor-returns-in_err-number-in-Number-clause-exact
factor-returns-in_err-number-in-Number-clause-exact g c = search rules

pub factor-after_name-requires : goal.factor-after_name-requires
factor-after_name-requires g c = search rules

pub factor-negated-requires : goal.factor-negated-requires
factor-negated-requires g c = search rules

pub factor-in_parentheses-requires : goal.factor-in_parentheses-requires
factor-in_parentheses-requires g c = search rules

pub factor-single-requires : goal.factor-single-requires
factor-single-requires g c = search rules

pub factor-single-requires-in-Transpose : goal.factor-single-requires-in-Transpose
factor-single-requires-in-Transpose g c = search rules

pub factor-pair-requires : goal.factor-pair-requires
factor-pair-requires g c = search rules

pub factor-pair-requires-in-Dot : goal.factor-pair-requires-in-Dot
factor-pair-requires-in-Dot g c = search rules

pub factor-pair-requires-in-MatMul : goal.factor-pair-requires-in-MatMul
factor-pair-requires-in-MatMul g c = search rules

pub factor-returns-in_ok-number-in-Number-clause-spelled : goal.factor-returns-in_ok-number-in-Number-clause-spelled
factor-returns-in_ok-number-in-Number-clause-spelled g c = search rules

pub factor-returns-in_ok-number-in-Number-clause-exact : goal.factor-returns-in_ok-number-in-Number-clause-exact
factor-returns-in_ok-number-in-Number-clause-exact g c = search rules

pub factor-returns-in-Name-clause-spelled : goal.factor-returns-in-Name-clause-spelled
factor-returns-in-Name-clause-spelled g c = search rules

pub factor-returns-in-Name-clause-exact : goal.factor-returns-in-Name-clause-exact
factor-returns-in-Name-clause-exact g c = search rules

pub factor-returns-in-Minus-clause-spelled : goal.factor-returns-in-Minus-clause-spelled
factor-returns-in-Minus-clause-spelled g c = search rules

pub factor-returns-in-Minus-clause-exact : goal.factor-returns-in-Minus-clause-exact
factor-returns-in-Minus-clause-exact g c = search rules

pub factor-returns-in-OpenRound-clause-spelled : goal.factor-returns-in-OpenRound-clause-spelled
factor-returns-in-OpenRound-clause-spelled g c = search rules

pub factor-returns-in-OpenRound-clause-exact : goal.factor-returns-in-OpenRound-clause-exact
factor-returns-in-OpenRound-clause-exact g c = search rules

pub factor-returns-in-Sum-clause-spelled : goal.factor-returns-in-Sum-clause-spelled
factor-returns-in-Sum-clause-spelled g c = search rules

pub factor-returns-in-Sum-clause-exact : goal.factor-returns-in-Sum-clause-exact
factor-returns-in-Sum-clause-exact g c = search rules

pub factor-returns-in-Transpose-clause-spelled : goal.factor-returns-in-Transpose-clause-spelled
factor-returns-in-Transpose-clause-spelled g c = search rules

pub factor-returns-in-Transpose-clause-exact : goal.factor-returns-in-Transpose-clause-exact
factor-returns-in-Transpose-clause-exact g c = search rules

pub factor-returns-in-Scale-clause-spelled : goal.factor-returns-in-Scale-clause-spelled
factor-returns-in-Scale-clause-spelled g c = search rules

pub factor-returns-in-Scale-clause-exact : goal.factor-returns-in-Scale-clause-exact
factor-returns-in-Scale-clause-exact g c = search rules

pub factor-returns-in-Dot-clause-spelled : goal.factor-returns-in-Dot-clause-spelled
factor-returns-in-Dot-clause-spelled g c = search rules

pub factor-returns-in-Dot-clause-exact : goal.factor-returns-in-Dot-clause-exact
factor-returns-in-Dot-clause-exact g c = search rules

pub factor-returns-in-MatMul-clause-spelled : goal.factor-returns-in-MatMul-clause-spelled
factor-returns-in-MatMul-clause-spelled g c = search rules

pub factor-returns-in-MatMul-clause-exact : goal.factor-returns-in-MatMul-clause-exact
factor-returns-in-MatMul-clause-exact g c = search rules

pub factor-returns-in_default : goal.factor-returns-in_default
factor-returns-in_default g c = search rules

pub further_arguments-loop-cursor-init : goal.further_arguments-loop-cursor-init
further_arguments-loop-cursor-init g c = search rules

pub further_arguments-boxed_expression-requires : goal.further_arguments-boxed_expression-requires
further_arguments-boxed_expression-requires g c = search rules

pub further_arguments-returns-in_err-argument-clause-spelled : goal.further_arguments-returns-in_err-argument-clause-spelled
further_arguments-returns-in_err-argument-clause-spelled g c = search rules

pub further_arguments-returns-in_err-argument-clause-exact : goal.further_arguments-returns-in_err-argument-clause-exact
further_arguments-returns-in_err-argument-clause-exact g c = search rules

pub further_arguments-loop-cursor-smaller : goal.further_arguments-loop-cursor-smaller
further_arguments-loop-cursor-smaller g c = search rules

pub further_arguments-returns-in_err-add_argument-clause-spelled : goal.further_arguments-returns-in_err-add_argument-clause-spelled
further_arguments-returns-in_err-add_argument-clause-spelled g c = search rules

pub further_arguments-returns-in_err-add_argument-clause-exact : goal.further_arguments-returns-in_err-add_argument-clause-exact
further_arguments-returns-in_err-add_argument-clause-exact g c = search rules

pub further_arguments-returns-clause-spelled : goal.further_arguments-returns-clause-spelled
further_arguments-returns-clause-spelled g c = search rules

pub further_arguments-returns-clause-exact : goal.further_arguments-returns-clause-exact
further_arguments-returns-clause-exact g c = search rules

pub in_parentheses-returns-in_err-open-clause-spelled : goal.in_parentheses-returns-in_err-open-clause-spelled
in_parentheses-returns-in_err-open-clause-spelled g c = search rules

pub in_parentheses-returns-in_err-open-clause-exact : goal.in_parentheses-returns-in_err-open-clause-exact
in_parentheses-returns-in_err-open-clause-exact g c = search rules

pub in_parentheses-closed_expression-requires : goal.in_parentheses-closed_expression-requires
in_parentheses-closed_expression-requires g c = search rules

pub in_parentheses-returns-in_err-inner-clause-spelled : goal.in_parentheses-returns-in_err-inner-clause-spelled
in_parentheses-returns-in_err-inner-clause-spelled g c = search rules

pub in_parentheses-returns-in_err-inner-clause-exact : goal.in_parentheses-returns-in_err-inner-clause-exact
in_parentheses-returns-in_err-inner-clause-exact g c = search rules

pub in_parentheses-returns-in_err-parenthesized-clause-spelled : goal.in_parentheses-returns-in_err-parenthesized-clause-spelled
in_parentheses-returns-in_err-parenthesized-clause-spelled g c = search rules

pub in_parentheses-returns-in_err-parenthesized-clause-exact : goal.in_parentheses-returns-in_err-parenthesized-clause-exact
in_parentheses-returns-in_err-parenthesized-clause-exact g c = search rules

pub in_parentheses-returns-clause-exact : goal.in_parentheses-returns-clause-exact
in_parentheses-returns-clause-exact g c = search rules

pub negated-returns-in_err-open-clause-spelled : goal.negated-returns-in_err-open-clause-spelled
negated-returns-in_err-open-clause-spelled g c = search rules

pub negated-returns-in_err-open-clause-exact : goal.negated-returns-in_err-open-clause-exact
negated-returns-in_err-open-clause-exact g c = search rules

pub negated-factor-requires : goal.negated-factor-requires
negated-factor-requires g c = search rules

pub negated-returns-in_err-operand-clause-spelled : goal.negated-returns-in_err-operand-clause-spelled
negated-returns-in_err-operand-clause-spelled g c = search rules

pub negated-returns-in_err-operand-clause-exact : goal.negated-returns-in_err-operand-clause-exact
negated-returns-in_err-operand-clause-exact g c = search rules

pub negated-end_level-requires : goal.negated-end_level-requires
negated-end_level-requires g c = search rules

pub negated-returns-in_err-negation-clause-spelled : goal.negated-returns-in_err-negation-clause-spelled
negated-returns-in_err-negation-clause-spelled g c = search rules

pub negated-returns-in_err-negation-clause-exact : goal.negated-returns-in_err-negation-clause-exact
negated-returns-in_err-negation-clause-exact g c = search rules

pub negated-returns-clause-spelled : goal.negated-returns-clause-spelled
negated-returns-clause-spelled g c = search rules

pub pair-returns-in_err-parenthesis-clause-spelled : goal.pair-returns-in_err-parenthesis-clause-spelled
pair-returns-in_err-parenthesis-clause-spelled g c = search rules

pub pair-returns-in_err-parenthesis-clause-exact : goal.pair-returns-in_err-parenthesis-clause-exact
pair-returns-in_err-parenthesis-clause-exact g c = search rules

pub pair-boxed_expression-requires : goal.pair-boxed_expression-requires
pair-boxed_expression-requires g c = search rules

pub pair-returns-in_err-left-clause-spelled : goal.pair-returns-in_err-left-clause-spelled
pair-returns-in_err-left-clause-spelled g c = search rules

pub pair-returns-in_err-left-clause-exact : goal.pair-returns-in_err-left-clause-exact
pair-returns-in_err-left-clause-exact g c = search rules

pub pair-take-requires : goal.pair-take-requires
pair-take-requires g c = search rules

pub pair-returns-in_err-take-clause-spelled : goal.pair-returns-in_err-take-clause-spelled
pair-returns-in_err-take-clause-spelled g c = search rules

pub pair-returns-in_err-take-clause-exact : goal.pair-returns-in_err-take-clause-exact
pair-returns-in_err-take-clause-exact g c = search rules

pub pair-closed_expression-requires : goal.pair-closed_expression-requires
pair-closed_expression-requires g c = search rules

pub pair-returns-in_err-right-clause-spelled : goal.pair-returns-in_err-right-clause-spelled
pair-returns-in_err-right-clause-spelled g c = search rules

pub pair-returns-in_err-right-clause-exact : goal.pair-returns-in_err-right-clause-exact
pair-returns-in_err-right-clause-exact g c = search rules

pub pair-returns-in_err-call-clause-spelled : goal.pair-returns-in_err-call-clause-spelled
pair-returns-in_err-call-clause-spelled g c = search rules

pub pair-returns-in_err-call-clause-exact : goal.pair-returns-in_err-call-clause-exact
pair-returns-in_err-call-clause-exact g c = search rules

pub pair-returns-clause-exact : goal.pair-returns-clause-exact
pair-returns-clause-exact g c = search rules

pub single-returns-in_err-parenthesis-clause-spelled : goal.single-returns-in_err-parenthesis-clause-spelled
single-returns-in_err-parenthesis-clause-spelled g c = search rules

pub single-returns-in_err-parenthesis-clause-exact : goal.single-returns-in_err-parenthesis-clause-exact
single-returns-in_err-parenthesis-clause-exact g c = search rules

pub single-closed_expression-requires : goal.single-closed_expression-requires
single-closed_expression-requires g c = search rules

pub single-returns-in_err-argument-clause-spelled : goal.single-returns-in_err-argument-clause-spelled
single-returns-in_err-argument-clause-spelled g c = search rules

pub single-returns-in_err-argument-clause-exact : goal.single-returns-in_err-argument-clause-exact
single-returns-in_err-argument-clause-exact g c = search rules

pub single-returns-in_err-call-clause-spelled : goal.single-returns-in_err-call-clause-spelled
single-returns-in_err-call-clause-spelled g c = search rules

pub single-returns-in_err-call-clause-exact : goal.single-returns-in_err-call-clause-exact
single-returns-in_err-call-clause-exact g c = search rules

pub single-returns-clause-exact : goal.single-returns-clause-exact
single-returns-clause-exact g c = search rules

pub term-factor-requires : goal.term-factor-requires
term-factor-requires g c = search rules

pub term-returns-in_err-first-clause-spelled : goal.term-returns-in_err-first-clause-spelled
term-returns-in_err-first-clause-spelled g c = search rules

pub term-times_factors-requires : goal.term-times_factors-requires
term-times_factors-requires g c = search rules

pub term-returns-in_err-term_of-in-Ok-clause-spelled : goal.term-returns-in_err-term_of-in-Ok-clause-spelled
term-returns-in_err-term_of-in-Ok-clause-spelled g c = search rules

pub term-returns-in_err-term_of-in-Ok-clause-exact : goal.term-returns-in_err-term_of-in-Ok-clause-exact
term-returns-in_err-term_of-in-Ok-clause-exact g c = search rules

pub term-returns-in-Err-clause-spelled : goal.term-returns-in-Err-clause-spelled
term-returns-in-Err-clause-spelled g c = search rules

pub times_factors-loop-at-init : goal.times_factors-loop-at-init
times_factors-loop-at-init g c = search rules

pub times_factors-factor-requires : goal.times_factors-factor-requires
times_factors-factor-requires g c = search rules

pub times_factors-returns-in_err-factor-clause-spelled : goal.times_factors-returns-in_err-factor-clause-spelled
times_factors-returns-in_err-factor-clause-spelled g c = search rules

pub times_factors-returns-in_err-factor-clause-exact : goal.times_factors-returns-in_err-factor-clause-exact
times_factors-returns-in_err-factor-clause-exact g c = search rules

pub times_factors-loop-at-smaller : goal.times_factors-loop-at-smaller
times_factors-loop-at-smaller g c = search rules

pub times_factors-returns-in_err-add_factor-clause-spelled : goal.times_factors-returns-in_err-add_factor-clause-spelled
times_factors-returns-in_err-add_factor-clause-spelled g c = search rules

pub times_factors-returns-in_err-add_factor-clause-exact : goal.times_factors-returns-in_err-add_factor-clause-exact
times_factors-returns-in_err-add_factor-clause-exact g c = search rules

pub times_factors-returns-clause-spelled : goal.times_factors-returns-clause-spelled
times_factors-returns-clause-spelled g c = search rules

pub times_factors-returns-clause-exact : goal.times_factors-returns-clause-exact
times_factors-returns-clause-exact g c = search rules
