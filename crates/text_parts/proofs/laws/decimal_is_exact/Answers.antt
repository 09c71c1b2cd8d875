use Rattle.text_parts.proofs.api.Decimals.{decimal_exact}
use Rattle.text_parts.proofs.laws.decimal_is_exact.Goals as goal

pub returns : goal.returns
returns c = decimal_exact
