use Rattle.std.proofs.Common.{◌+◌, length, take, ◌∙◌, ap}
use Rattle.wiring_poly.proofs.api.Identity.{written_back}
use Rattle.line_reduce.proofs.line.by_blocks.Goals as goal

pub returns : goal.returns
returns c =
    let rows = c.in_ok-rows.rows in
    c.truncate.ensures.items
    ∙ ap (take (length c.args.b.now + 1)) (written_back rows.items c.fill_line.new.rows rows.len (c.fill_line.auto.rows ∙ c.deref_mut-2.ensures.len))
    ∙ c.fill_line.ensures
