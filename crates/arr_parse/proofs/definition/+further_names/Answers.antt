use Rattle.std.proofs.lemmas.Grind.{common_steps}
use Rattle.std.proofs.Common.{rules, arith}
use Rattle.std.proofs.lemmas.Result.{err_from_is_err_and}
use Rattle.arr_parse.proofs.FurtherNames.{name_read, name_refused}
use Rattle.arr_parse.proofs.definition.+further_names.Goals as goal

pub returns-in_err-name-clause-exact : goal.returns-in_err-name-clause-exact
returns-in_err-name-clause-exact t c =
    let p = err_from_is_err_and c.from_residual.result c.from_residual.ensures.1 in
    rw (p.1, p.2) (name_refused c.args.cursor.now c.comma.new.self c.declared_name.new.self c.in-Some.at c.args.left c.in-Some.ensures.parameters c.if-left-eq0.false c.in-Some.ensures.source
    c.in-Some.ensures.levels c.declared_name.new.self c.in_err-name.field-0.0 c.in_err-name.ensures.exact)

pub returns-clause-exact : goal.returns-clause-exact
returns-clause-exact t c =
    name_read c.args.cursor.now c.comma.new.self c.declared_name.new.self c.in-Some.at c.args.left c.in-Some.ensures.parameters c.if-left-eq0.false c.in-Some.ensures.source c.in-Some.ensures.levels
    c.further_names.new.cursor c.in_ok-name.name c.further_names.result c.in_ok-name.ensures.spelled c.in_ok-name.ensures.exact c.further_names.ensures.exact

pub returns-in_default-clause-spelled : goal.returns-in_default-clause-spelled
returns-in_default-clause-spelled g c = search rules

pub returns-in_default-clause-exact : goal.returns-in_default-clause-exact
returns-in_default-clause-exact g c = search rules

pub returns-then-left-eq0-clause-spelled : goal.returns-then-left-eq0-clause-spelled
returns-then-left-eq0-clause-spelled g c = search rules

pub returns-then-left-eq0-clause-exact : goal.returns-then-left-eq0-clause-exact
returns-then-left-eq0-clause-exact g c = search rules

pub returns-in_err-name-clause-spelled : goal.returns-in_err-name-clause-spelled
returns-in_err-name-clause-spelled g c = search rules

pub returns-in_err-push-clause-spelled : goal.returns-in_err-push-clause-spelled
returns-in_err-push-clause-spelled g c = search rules

pub returns-in_err-push-clause-exact : goal.returns-in_err-push-clause-exact
returns-in_err-push-clause-exact g c = search rules

pub overflow_sub-left : goal.overflow_sub-left
overflow_sub-left g c = search rules

pub further_names-requires : goal.further_names-requires
further_names-requires g c = search rules

pub returns-clause-spelled : goal.returns-clause-spelled
returns-clause-spelled g c = grind (arith, common_steps)
