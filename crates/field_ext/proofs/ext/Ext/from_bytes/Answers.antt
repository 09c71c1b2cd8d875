use Rattle.std.proofs.lemmas.Grind.{elements}
use Rattle.std.proofs.Common.{rules, arith}
use Rattle.field_ext.proofs.ext.Ext.from_bytes.Goals as goal

pub returns-clause-some : goal.returns-clause-some
returns-clause-some c = search rules

pub returns-clause-value : goal.returns-clause-value
returns-clause-value c = grind (arith, elements)

pub returns-in_err-im-clause-some : goal.returns-in_err-im-clause-some
returns-in_err-im-clause-some c = search rules
