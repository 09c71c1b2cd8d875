use Rattle.text_parts.proofs.api.Leaves.{word_exact}
use Rattle.text_parts.proofs.laws.word_is_exact.Goals as goal

pub returns : goal.returns
returns c = word_exact
