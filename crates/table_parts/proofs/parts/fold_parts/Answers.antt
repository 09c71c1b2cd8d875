-- One part more is folded
use Rattle.std.proofs.Common.{◌+◌, ◌*◌, ◌∙◌, ap, subst, sym}
use Rattle.table_parts.specs.PartTables.{PartTables, HasSize, folded_part, part_pairs}
use Rattle.table_parts.proofs.api.Halves.{folded-more, behind-read, folded-steps}
use Rattle.table_parts.proofs.parts.fold_parts.Goals as goal

pub loop-i-preserved : goal.loop-i-preserved
loop-i-preserved g c =
    let i = c.loop-i.i in
    let r = c.args.r in
    let ps = c.args.parts.now in
    let now = c.loop-i.parts in
    let p = c.index-parts-i.result in
    let before = c.loop-i.invariant in
    let lt = c.loop-i-test.true in
    let old = behind-read r ps now i p lt before.parts c.index-parts-i.is in
    record {
      parts = folded-more r ps now i p c.fold_counted.new.self lt before.parts c.index-parts-i.is (c.fold_counted.ensures.folded ∙ ap (folded_part r) (sym c.index-parts-i.is));
      steps = folded-steps i c.args.half p c.args.steps.now c.loop-i.steps c.fold_counted.new.steps (subst (HasSize (2 * c.args.half)) (sym old) (c.requires i p lt)) before.steps (c.fold_counted.ensures.steps ∙ ap (λ (p : PartTables). c.loop-i.steps + part_pairs p) (sym c.index-parts-i.is));
    }
