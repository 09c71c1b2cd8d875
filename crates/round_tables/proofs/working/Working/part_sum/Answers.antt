-- A part sums to its part of the round
use Rattle.std.proofs.Common.{◌≡◌, ◌+◌, ℕ, get_or, ◌∙◌, ap}
use Rattle.table_parts.specs.PartTables.{summed_pairs, part_sum}
use Rattle.round_tables.specs.Working.{parts_of}
use Rattle.round_tables.proofs.PartSums.{pairs-summed, part-of-round}
use Rattle.round_tables.proofs.working.Working.part_sum.Goals as goal

pub returns-clause-part : goal.returns-clause-part
returns-clause-part g c =
    let p = c.index-parts-number.result in
    let here : p ≡ get_or (parts_of c.args.self.now) c.args.number p = c.index-parts-number.is ∙ ap (λ l. get_or l c.args.number p) c.parts.ensures in
    c.sum_counted.ensures.sum ∙ ap part_sum here ∙ part-of-round c.args.layer.now c.args.self.now c.requires.layer c.requires.works c.requires.left c.args.number p c.requires.within

pub returns-clause-steps : goal.returns-clause-steps
returns-clause-steps g c =
    let p = c.index-parts-number.result in
    let here : p ≡ get_or (parts_of c.args.self.now) c.args.number p = c.index-parts-number.is ∙ ap (λ l. get_or l c.args.number p) c.parts.ensures in
    let pairs = ap summed_pairs here ∙ pairs-summed c.args.layer.now c.args.self.now c.requires.layer c.requires.works c.requires.left c.args.number p c.requires.within in
    c.sum_counted.ensures.steps ∙ ap (λ (n : ℕ). c.args.steps.now + n) pairs
