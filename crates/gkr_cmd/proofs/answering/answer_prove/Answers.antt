use Rattle.std.proofs.Common.{rules}
use Rattle.gkr_cmd.proofs.answering.answer_prove.Goals as goal

pub returns-in-Err-Bad-clause-reply : goal.returns-in-Err-Bad-clause-reply
returns-in-Err-Bad-clause-reply g c = search rules

pub returns-in-Err-Bad-clause-fault : goal.returns-in-Err-Bad-clause-fault
returns-in-Err-Bad-clause-fault g c = search rules

pub returns-in-Err-Memory-clause-reply : goal.returns-in-Err-Memory-clause-reply
returns-in-Err-Memory-clause-reply g c = search rules

pub returns-in-Err-Memory-clause-fault : goal.returns-in-Err-Memory-clause-fault
returns-in-Err-Memory-clause-fault g c = search rules

pub returns-clause-reply : goal.returns-clause-reply
returns-clause-reply g c = search rules

pub returns-clause-fault : goal.returns-clause-fault
returns-clause-fault g c = search rules
