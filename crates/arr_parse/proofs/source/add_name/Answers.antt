use Rattle.std.proofs.Common.{sym, ◌∙◌}
use Rattle.arr_parse.proofs.Naming.{added, not_there}
use Rattle.arr_parse.proofs.source.add_name.Goals as goal

pub returns : goal.returns
returns c =
    added c.args.places.now c.insert.new.self c.args.bytes.now c.in_ok-key.key.items c.args.place c.in_ok-key.ensures.items
    (not_there _ (sym c.contains_key.ensures ∙ c.if-contains_key.false)) c.in_ok-insert.ensures.updates
