use Rattle.std.proofs.Common.{rules, arith}
use Rattle.std.proofs.lemmas.Grind.{elements}
use Rattle.gkr_cmd.proofs.replying.reply_waiting.Goals as goal

pub reply_service-requires-clause-service : goal.reply_service-requires-clause-service
reply_service-requires-clause-service g c = search rules

pub reply_service-requires-clause-workers : goal.reply_service-requires-clause-workers
reply_service-requires-clause-workers g c = search rules

pub unreachable-requires : goal.unreachable-requires
unreachable-requires g c = search rules

pub unreachable-unreachable : goal.unreachable-unreachable
unreachable-unreachable g c = search rules

pub returns-clause-reply : goal.returns-clause-reply
returns-clause-reply g c = search rules

pub returns-clause-usage : goal.returns-clause-usage
returns-clause-usage g c = search rules

pub returns-clause-read : goal.returns-clause-read
returns-clause-read g c = search rules

pub returns-clause-within : goal.returns-clause-within
returns-clause-within g c = grind (arith, elements)

pub returns-clause-unread : goal.returns-clause-unread
returns-clause-unread g c = search rules

pub returns-clause-fault : goal.returns-clause-fault
returns-clause-fault g c = search rules

pub returns-clause-no_fault : goal.returns-clause-no_fault
returns-clause-no_fault g c = search rules
