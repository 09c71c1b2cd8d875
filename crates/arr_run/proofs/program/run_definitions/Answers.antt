use Rattle.std.proofs.Common.{◌+◌, take, drop, map, sym, ap, ◌∙◌, rules}
use Rattle.arr_ast.specs.ProgramTree.{definition_tree}
use Rattle.arr_scope.specs.Agrees.{◌>>=◌}
use Rattle.arr_run.specs.Definitions.{after_definition, after_definitions}
use Rattle.arr_run.specs.State.{state}
use Rattle.arr_run.specs.Steps.{newest_first}
use Rattle.arr_run.proofs.Newest.{definitions-more}
use Rattle.arr_run.proofs.program.run_definitions.Goals as goal

pub returns-in_err-run_definition : goal.returns-in_err-run_definition
returns-in_err-run_definition g c = λ kept.
    let definitions = c.args.definitions.now in
    let place = c.each.place in
    let before = state c.args.scope.now c.each.counts kept in
    let refused = c.in_err-run_definition.ensures kept in
    rw (c.each.invariant kept
    ∙ definitions-more definitions place c.index-definitions-place.result before c.each-test.true
    ∙ ap (λ definition. after_definition (newest_first (take place definitions)) (definition_tree definition) before >>= after_definitions (newest_first (take (place + 1) definitions)) (map definition_tree (drop (place + 1) definitions))) (sym c.index-definitions-place.is))
    (search rules)

pub each-preserved : goal.each-preserved
each-preserved g c = λ kept.
    let definitions = c.args.definitions.now in
    let place = c.each.place in
    let before = state c.args.scope.now c.each.counts kept in
    let rest = after_definitions (newest_first (take (place + 1) definitions)) (map definition_tree (drop (place + 1) definitions)) in
    c.each.invariant kept
    ∙ definitions-more definitions place c.index-definitions-place.result before c.each-test.true
    ∙ ap (λ definition. after_definition (newest_first (take place definitions)) (definition_tree definition) before >>= rest) (sym c.index-definitions-place.is)
    ∙ ap (λ x. x >>= rest) (c.in_ok-run_definition.ensures kept)
