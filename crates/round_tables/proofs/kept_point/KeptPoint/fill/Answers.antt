-- Both tables have a place for each value
use Rattle.std.proofs.Common.{◌≡◌, ◌-◌, length, vec_len, arith}
use Rattle.round_tables.proofs.PlaceWeights.{high-fits}
use Rattle.round_tables.proofs.kept_point.KeptPoint.fill.Goals.{then-few, else-few}
use Rattle.round_tables.proofs.kept_point.KeptPoint.fill.Goals as goal

pub fill_equality-requires-2 : goal.fill_equality-requires-2
fill_equality-requires-2 c =
    let rest : length c.split_at.result.1.now ≡ vec_len c.args.self.now.point - 10 = elim c.if-few.branch [ then-few w ↦ omega arith | else-few w ↦ omega arith ] in
    high-fits (vec_len c.args.self.now.point) (length c.split_at.result.1.now) (length c.deref_mut-2.result.now) rest (omega arith)
