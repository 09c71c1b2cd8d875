-- Each half is one product
use Rattle.std.proofs.Common.{◌∙◌, ap, ap₂}
use Rattle.field_ext.specs.Field.{mul_f, mul_k}
use Rattle.gate_gather.proofs.Multiples.{multiple_right, embedded}
use Rattle.gate_gather.proofs.operand.BaseOperand.times.Goals as goal

pub returns : goal.returns
returns c =
    c.of.ensures
    ∙ multiple_right c.args.r c.args.x.re c.mul.result c.mul-2.result (c.mul.ensures ∙ ap₂ mul_f c.re.ensures c.re-2.ensures) (c.mul-2.ensures ∙ ap₂ mul_f c.im.ensures c.re-3.ensures)
    ∙ ap (mul_k c.args.r) (embedded c.args.x c.requires)
