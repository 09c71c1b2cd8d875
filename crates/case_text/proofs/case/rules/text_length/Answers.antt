use Rattle.std.proofs.Common.{rules}
use Rattle.case_text.proofs.case.rules.text_length.Goals as goal

pub returns : goal.returns
returns c = search rules
