use Rattle.std.proofs.Common.{rules, arith}
use Rattle.std.proofs.lemmas.Grind.{elements}
use Rattle.gkr_cmd.proofs.replying.reply_here.Goals as goal

pub unreachable-requires : goal.unreachable-requires
unreachable-requires g c = search rules

pub unreachable-unreachable : goal.unreachable-unreachable
unreachable-unreachable g c = search rules

pub returns-in-None-clause-reply : goal.returns-in-None-clause-reply
returns-in-None-clause-reply g c = search rules

pub returns-in-None-clause-usage : goal.returns-in-None-clause-usage
returns-in-None-clause-usage g c = search rules

pub returns-in-None-clause-read : goal.returns-in-None-clause-read
returns-in-None-clause-read g c = search rules

pub returns-in-None-clause-within : goal.returns-in-None-clause-within
returns-in-None-clause-within g c = search rules

pub returns-in-None-clause-unread : goal.returns-in-None-clause-unread
returns-in-None-clause-unread g c = search rules

pub returns-in-None-clause-fault : goal.returns-in-None-clause-fault
returns-in-None-clause-fault g c = search rules

pub returns-in-None-clause-no_fault : goal.returns-in-None-clause-no_fault
returns-in-None-clause-no_fault g c = search rules

pub returns-in-Some-OfCase-clause-reply : goal.returns-in-Some-OfCase-clause-reply
returns-in-Some-OfCase-clause-reply g c = search rules

pub returns-in-Some-OfCase-clause-usage : goal.returns-in-Some-OfCase-clause-usage
returns-in-Some-OfCase-clause-usage g c = search rules

pub returns-in-Some-OfCase-clause-read : goal.returns-in-Some-OfCase-clause-read
returns-in-Some-OfCase-clause-read g c = search rules

pub returns-in-Some-OfCase-clause-within : goal.returns-in-Some-OfCase-clause-within
returns-in-Some-OfCase-clause-within g c = grind (arith, elements)

pub returns-in-Some-OfCase-clause-unread : goal.returns-in-Some-OfCase-clause-unread
returns-in-Some-OfCase-clause-unread g c = search rules

pub returns-in-Some-OfCase-clause-fault : goal.returns-in-Some-OfCase-clause-fault
returns-in-Some-OfCase-clause-fault g c = search rules

pub returns-in-Some-OfCase-clause-no_fault : goal.returns-in-Some-OfCase-clause-no_fault
returns-in-Some-OfCase-clause-no_fault g c = search rules
