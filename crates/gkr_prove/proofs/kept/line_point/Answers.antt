use Rattle.std.proofs.Common.{◌∙◌}
use Rattle.wiring_poly.proofs.api.Identity.{written_back}
use Rattle.gkr_prove.proofs.kept.line_point.Goals as goal

pub returns : goal.returns
returns c =
    written_back c.in_ok-point.point.items c.point_at.new.point c.in_ok-point.point.len (c.point_at.auto.point ∙ c.deref_mut.ensures.len)
    ∙ c.point_at.ensures
