use Rattle.std.proofs.Common.{rules}
use Rattle.field_ext.proofs.ext.Ext.to_bytes.Goals as goal

pub returns : goal.returns
returns c = search rules
