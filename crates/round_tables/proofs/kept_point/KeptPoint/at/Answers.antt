-- Both tables have a value for the position
use Rattle.std.proofs.Common.{◌/◌, ◌%◌, arith, ◌∙◌, ap₂}
use Rattle.std.proofs.lemmas.List.{get_or_read}
use Rattle.field_ext.specs.Field.{zero_k, mul_k}
use Rattle.round_tables.proofs.kept_point.KeptPoint.at.Goals as goal

pub returns : goal.returns
returns c =
    let p = c.args.self.now in
    let g = c.args.position in
    let low = get_or_read p.low.items (g % 1024) c.index.result.now (omega (arith, p.low.ok.0, c.requires.low)) c.index.ensures zero_k in
    let high = get_or_read p.high.items (g / 1024) c.index-2.result.now (omega (arith, p.high.ok.0, c.requires.high)) c.index-2.ensures zero_k in
    c.mul.ensures ∙ ap₂ mul_k low high
