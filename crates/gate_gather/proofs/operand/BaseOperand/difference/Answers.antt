-- A difference of elements of the base field
use Rattle.std.proofs.Common.{◌∙◌, ap₂}
use Rattle.field_ext.specs.Field.{sub_f}
use Rattle.gate_gather.proofs.Multiples.{base_difference}
use Rattle.gate_gather.proofs.operand.BaseOperand.difference.Goals as goal

pub returns-clause-value : goal.returns-clause-value
returns-clause-value c = c.embed.ensures ∙ base_difference c.args.x c.args.y c.sub.result c.requires.first c.requires.second (c.sub.ensures ∙ ap₂ sub_f c.re.ensures c.re-2.ensures)
