use Rattle.std.proofs.Common.{rules}
use Rattle.case_text.proofs.reply.verdict.put_message.Goals as goal

pub returns-in-Some-Round : goal.returns-in-Some-Round
returns-in-Some-Round c = search rules
