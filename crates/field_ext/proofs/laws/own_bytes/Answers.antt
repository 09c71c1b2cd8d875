use Rattle.field_ext.proofs.api.ElementBytes.{bytes_apart}
use Rattle.field_ext.proofs.laws.own_bytes.Goals as goal

pub returns-clause-apart : goal.returns-clause-apart
returns-clause-apart c = bytes_apart
