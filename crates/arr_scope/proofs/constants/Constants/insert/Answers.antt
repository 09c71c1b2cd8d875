use Rattle.std.proofs.Common.{ap, ◌∙◌}
use Rattle.std.specs.FinSet as set
use Rattle.arr_scope.proofs.Inserted.{from_list-insert}
use Rattle.arr_scope.proofs.constants.Constants.insert.Goals as goal

pub returns-clause-inserted : goal.returns-clause-inserted
returns-clause-inserted c =
    from_list-insert _ c.self.inside.values.keys c.args.value c.in_ok-insert.ensures.updates.0
    ∙ ap (λ s. set.insert s c.args.value) c.self.view_is
