use Rattle.std.proofs.Common.{subst}
use Rattle.shared_list.specs.declared.changes.Changes.{Changes}
use Rattle.shared_list.specs.Changes.{Settles}
use Rattle.shared_list.proofs.api.Changed.{settles-changed}
use Rattle.shared_list.proofs.items.+settle.Goals as goal

pub returns-in-Changed : goal.returns-in-Changed
returns-in-Changed g t c =
    settles-changed c.args.part.now c.args.changes.now c.in-Changed.even.value c.in-Changed.odd.value c.in-Changed.place c.in-Changed.item _ _
    c.args.items.now.items c.settle_at.new.items.items c.settle.new.items.items c.settle-in-Changed.new.items.items
    c.in-Changed.is c.settle_at.ensures.proceeds c.settle_at.ensures.settled
    (subst (λ (side : Changes g.row.T.Denot). Settles side c.args.changes.now c.settle_at.new.items.items c.settle.new.items.items) c.deref.ensures c.settle.ensures)
    (subst (λ (side : Changes g.row.T.Denot). Settles side c.args.changes.now c.settle.new.items.items c.settle-in-Changed.new.items.items) c.deref-in-Changed.ensures c.settle-in-Changed.ensures)
