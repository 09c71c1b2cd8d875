-- Each half is one product of numbers
use Rattle.std.proofs.Common.{◌*◌, ◌∙◌}
use Rattle.field_ext.specs.Field.{of}
use Rattle.gate_gather.proofs.Multiples.{multiple_left}
use Rattle.gate_gather.proofs.lazy_sum.LazySum.multiple.Goals as goal

pub returns-clause-element : goal.returns-clause-element
returns-clause-element c =
    let a = c.value-a.ensures in
    multiple_left c.args.x c.args.y (of c.shortened.result) (of c.shortened-2.result)
    (c.shortened.ensures.of ∙ (λ i. of (a i * (c.value.ensures ∙ (λ j. (c.re.ensures j).value)) i)))
    (c.shortened-2.ensures.of ∙ (λ i. of (a i * (c.value-2.ensures ∙ (λ j. (c.im.ensures j).value)) i)))
