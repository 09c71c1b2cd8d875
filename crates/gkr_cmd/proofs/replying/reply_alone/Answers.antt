use Rattle.std.proofs.Common.{rules, arith}
use Rattle.std.proofs.lemmas.Grind.{elements}
use Rattle.gkr_cmd.proofs.replying.reply_alone.Goals as goal

pub run_session-requires-clause-piece : goal.run_session-requires-clause-piece
run_session-requires-clause-piece g c = search rules

pub run_session-requires-clause-workers : goal.run_session-requires-clause-workers
run_session-requires-clause-workers g c = search rules

pub unreachable-requires : goal.unreachable-requires
unreachable-requires g c = search rules

pub unreachable-unreachable : goal.unreachable-unreachable
unreachable-unreachable g c = search rules

pub returns-in-None-clause-reply : goal.returns-in-None-clause-reply
returns-in-None-clause-reply g c = search rules

pub returns-in-None-clause-usage : goal.returns-in-None-clause-usage
returns-in-None-clause-usage g c = search rules

pub returns-in-None-clause-read : goal.returns-in-None-clause-read
returns-in-None-clause-read g c = search rules

pub returns-in-None-clause-within : goal.returns-in-None-clause-within
returns-in-None-clause-within g c = search rules

pub returns-in-None-clause-unread : goal.returns-in-None-clause-unread
returns-in-None-clause-unread g c = search rules

pub returns-in-None-clause-fault : goal.returns-in-None-clause-fault
returns-in-None-clause-fault g c = search rules

pub returns-in-None-clause-no_fault : goal.returns-in-None-clause-no_fault
returns-in-None-clause-no_fault g c = search rules

pub returns-in-Some-Session-clause-reply : goal.returns-in-Some-Session-clause-reply
returns-in-Some-Session-clause-reply g c = search rules

pub returns-in-Some-Session-clause-usage : goal.returns-in-Some-Session-clause-usage
returns-in-Some-Session-clause-usage g c = search rules

pub returns-in-Some-Session-clause-read : goal.returns-in-Some-Session-clause-read
returns-in-Some-Session-clause-read g c = search rules

pub returns-in-Some-Session-clause-within : goal.returns-in-Some-Session-clause-within
returns-in-Some-Session-clause-within g c = search rules

pub returns-in-Some-Session-clause-unread : goal.returns-in-Some-Session-clause-unread
returns-in-Some-Session-clause-unread g c = search rules

pub returns-in-Some-Session-clause-fault : goal.returns-in-Some-Session-clause-fault
returns-in-Some-Session-clause-fault g c = search rules

pub returns-in-Some-Session-clause-no_fault : goal.returns-in-Some-Session-clause-no_fault
returns-in-Some-Session-clause-no_fault g c = search rules

pub returns-in-Some-OfCase-Prove-clause-reply : goal.returns-in-Some-OfCase-Prove-clause-reply
returns-in-Some-OfCase-Prove-clause-reply g c = search rules

pub returns-in-Some-OfCase-Prove-clause-usage : goal.returns-in-Some-OfCase-Prove-clause-usage
returns-in-Some-OfCase-Prove-clause-usage g c = search rules

pub returns-in-Some-OfCase-Prove-clause-read : goal.returns-in-Some-OfCase-Prove-clause-read
returns-in-Some-OfCase-Prove-clause-read g c = search rules

pub returns-in-Some-OfCase-Prove-clause-within : goal.returns-in-Some-OfCase-Prove-clause-within
returns-in-Some-OfCase-Prove-clause-within g c = grind (arith, elements)

pub returns-in-Some-OfCase-Prove-clause-unread : goal.returns-in-Some-OfCase-Prove-clause-unread
returns-in-Some-OfCase-Prove-clause-unread g c = search rules

pub returns-in-Some-OfCase-Prove-clause-fault : goal.returns-in-Some-OfCase-Prove-clause-fault
returns-in-Some-OfCase-Prove-clause-fault g c = search rules

pub returns-in-Some-OfCase-Prove-clause-no_fault : goal.returns-in-Some-OfCase-Prove-clause-no_fault
returns-in-Some-OfCase-Prove-clause-no_fault g c = search rules

pub returns-in-Some-Demo-clause-reply : goal.returns-in-Some-Demo-clause-reply
returns-in-Some-Demo-clause-reply g c = search rules

pub returns-in-Some-Demo-clause-usage : goal.returns-in-Some-Demo-clause-usage
returns-in-Some-Demo-clause-usage g c = search rules

pub returns-in-Some-Demo-clause-read : goal.returns-in-Some-Demo-clause-read
returns-in-Some-Demo-clause-read g c = search rules

pub returns-in-Some-Demo-clause-within : goal.returns-in-Some-Demo-clause-within
returns-in-Some-Demo-clause-within g c = search rules

pub returns-in-Some-Demo-clause-unread : goal.returns-in-Some-Demo-clause-unread
returns-in-Some-Demo-clause-unread g c = search rules

pub returns-in-Some-Demo-clause-fault : goal.returns-in-Some-Demo-clause-fault
returns-in-Some-Demo-clause-fault g c = search rules

pub returns-in-Some-Demo-clause-no_fault : goal.returns-in-Some-Demo-clause-no_fault
returns-in-Some-Demo-clause-no_fault g c = search rules
