use Rattle.std.proofs.Common.{sym, ◌∙◌}
use Rattle.shared_list.proofs.api.Changed.{proceeds-set}
use Rattle.shared_list.proofs.items.settle_at.Goals as goal

pub returns-in-Some-clause-proceeds : goal.returns-in-Some-clause-proceeds
returns-in-Some-clause-proceeds g c =
    proceeds-set c.args.changes.now c.args.items.now.items c.set_in.new.items.items c.args.place c.in-Some.item c.set_in.ensures
    (sym c.change.ensures ∙ c.in-Some.is)
