use Rattle.std.proofs.Common.{sym, ◌∙◌, arith}
use Rattle.shared_list.proofs.api.Changed.{changed-here, changed-kept, changed-past}
use Rattle.shared_list.proofs.api.Transposes.{get_or-within}
use Rattle.shared_list.proofs.items.changed_item_or.Goals as goal

pub returns-then-place-base : goal.returns-then-place-base
returns-then-place-base g c = sym (changed-past c.args.changes.now c.args.base.now c.args.place c.args.nothing (omega arith))

pub returns-in-Some : goal.returns-in-Some
returns-in-Some g c =
    sym (changed-here c.args.changes.now c.args.base.now c.args.place c.in-Some.item c.args.nothing (omega arith) (sym c.change.ensures ∙ c.in-Some.is))

pub returns-in-None : goal.returns-in-None
returns-in-None g c =
    c.index-base-place.is
    ∙ get_or-within c.args.base.now c.args.place c.index-base-place.result c.args.nothing (omega arith)
    ∙ sym (changed-kept c.args.changes.now c.args.base.now c.args.place c.args.nothing (omega arith) (sym c.change.ensures ∙ c.in-None.is))
