use Rattle.std.proofs.Common.{refl, ap, ◌∙◌}
use Rattle.arr_run.specs.Tasks.{times_with}
use Rattle.arr_run.proofs.Waiting.{times-begins}
use Rattle.arr_run.proofs.expression.multiply.Goals as goal

pub returns-clause-value : goal.returns-clause-value
returns-clause-value g c = λ counts kept.
    let operations = g.M.Machine.operations in
    let definitions = c.args.defined.now.definitions.now in
    let names = c.args.scope.now in
    let tasks = c.args.tasks.now.items in
    ap (λ factors. times_with operations definitions names factors (c.args.shape, c.args.array, counts, kept) tasks) c.in-Some.ensures.cases.0
    ∙ times-begins operations definitions names c.in-Some.times.now c.in-Some.further.now (c.args.shape, c.args.array, counts, kept) tasks c.push.new.self.items _ (λ found. refl) c.in_ok-push.ensures.items
