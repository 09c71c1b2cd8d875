use Rattle.std.proofs.Common.{sym, ap, ◌∙◌}
use Rattle.shared_list.proofs.api.Transposes.{held-twice}
use Rattle.shared_list.proofs.list.SharedList.transposed.Goals as goal

pub returns-in_ok-items-in-Turned : goal.returns-in_ok-items-in-Turned
returns-in_ok-items-in-Turned g c =
    c.in_ok-items-in-Turned.ensures
    ∙ ap (λ turn. turn.items) c.deref-in-Turned.ensures
    ∙ sym (held-twice c.self.inside.held c.args.self.now c.in-Turned.turn c.args.nothing c.args.n c.args.m
    c.in-Turned.is c.self.view_is c.self.invariant (sym (ap (λ turn. turn.rows) c.deref.ensures) ∙ c.if-deref-m.true) (sym (ap (λ turn. turn.columns) c.deref-then-deref-m.ensures) ∙ c.if-deref-n.true))
