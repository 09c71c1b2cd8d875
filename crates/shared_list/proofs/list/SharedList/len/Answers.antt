use Rattle.std.proofs.Common.{◌∙◌, ap, length}
use Rattle.shared_list.proofs.api.Transposes.{held-length}
use Rattle.shared_list.proofs.list.SharedList.len.Goals as goal

pub returns-in-Turned : goal.returns-in-Turned
returns-in-Turned g c =
    c.len-in-Turned.ensures
    ∙ ap (λ turn. length turn.items) c.deref.ensures
    ∙ held-length c.self.inside.held c.args.self.now c.in-Turned.turn c.in-Turned.is c.self.view_is c.self.invariant
