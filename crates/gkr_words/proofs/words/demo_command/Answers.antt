use Rattle.std.proofs.Common.{rules}
use Rattle.gkr_words.proofs.words.demo_command.Goals as goal

pub returns : goal.returns
returns c = search rules
