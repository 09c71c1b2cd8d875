use Rattle.std.proofs.Common.{◌∙◌}
use Rattle.field_ext.proofs.api.Elements.{of_rem}
use Rattle.field_ext.proofs.api.Words.{least}
use Rattle.field_ext.proofs.fp.Fp.reduced.Goals as goal

pub returns : goal.returns
returns c = c.made.ensures ∙ of_rem c.min.result c.args.n (c.min.ensures ∙ least c.args.n c.requires)
