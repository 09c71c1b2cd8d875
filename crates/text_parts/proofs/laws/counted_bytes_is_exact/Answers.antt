use Rattle.text_parts.proofs.api.Leaves.{counted_bytes_exact}
use Rattle.text_parts.proofs.laws.counted_bytes_is_exact.Goals as goal

pub returns : goal.returns
returns c = counted_bytes_exact
