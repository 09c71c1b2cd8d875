use Rattle.std.proofs.lemmas.Grind.{common_steps}
use Rattle.std.proofs.Common.{rules, arith}
use Rattle.arr_parse.proofs.DefinitionRows.{parameters_taken}
use Rattle.arr_parse.proofs.definition.parameters.Goals as goal

pub returns-clause-spelled : goal.returns-clause-spelled
returns-clause-spelled c =
    parameters_taken c.args.cursor.now c.open_call.new.self c.declared_name.new.self c.further_names.new.cursor c.close.new.self c.in_ok-parenthesis.parenthesis c.in_ok-first.first
    c.new-parameters.result.items c.further_names.new.names.items c.insert.new.self.items c.new-parameters.ensures.items c.in_ok-insert.ensures.items
    c.in_ok-parenthesis.ensures.spelled c.in_ok-parenthesis.ensures.shorter c.in_ok-parenthesis.ensures.source c.in_ok-parenthesis.ensures.levels.0
    c.in_ok-first.ensures.spelled c.in_ok-further_names.ensures.spelled c.in_ok-close.ensures.spelled c.in_ok-close.ensures.shorter c.in_ok-close.ensures.source c.in_ok-close.ensures.levels

pub returns-in_err-parenthesis-clause-spelled : goal.returns-in_err-parenthesis-clause-spelled
returns-in_err-parenthesis-clause-spelled g = search rules

pub returns-in_err-parenthesis-clause-exact : goal.returns-in_err-parenthesis-clause-exact
returns-in_err-parenthesis-clause-exact g c = search rules

pub returns-in_err-first-clause-spelled : goal.returns-in_err-first-clause-spelled
returns-in_err-first-clause-spelled g = search rules

pub returns-in_err-first-clause-exact : goal.returns-in_err-first-clause-exact
returns-in_err-first-clause-exact g c = search rules

pub returns-in_err-further_names-clause-spelled : goal.returns-in_err-further_names-clause-spelled
returns-in_err-further_names-clause-spelled g = search rules

pub returns-in_err-further_names-clause-exact : goal.returns-in_err-further_names-clause-exact
returns-in_err-further_names-clause-exact g c = search rules

pub close-requires-clause-separator : goal.close-requires-clause-separator
close-requires-clause-separator g = grind (arith, common_steps)

pub close-requires-clause-open : goal.close-requires-clause-open
close-requires-clause-open g = search rules

pub returns-in_err-close-clause-spelled : goal.returns-in_err-close-clause-spelled
returns-in_err-close-clause-spelled g = search rules

pub returns-in_err-close-clause-exact : goal.returns-in_err-close-clause-exact
returns-in_err-close-clause-exact g c = search rules

pub insert-requires : goal.insert-requires
insert-requires g = search rules

pub returns-in_err-insert-clause-spelled : goal.returns-in_err-insert-clause-spelled
returns-in_err-insert-clause-spelled g = search rules

pub returns-in_err-insert-clause-exact : goal.returns-in_err-insert-clause-exact
returns-in_err-insert-clause-exact g c = search rules

pub returns-clause-exact : goal.returns-clause-exact
returns-clause-exact g c = search rules
