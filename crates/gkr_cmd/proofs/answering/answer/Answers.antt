use Rattle.std.proofs.Common.{rules}
use Rattle.gkr_cmd.proofs.answering.answer.Goals as goal

pub returns-in-Err-Bad-clause-reply : goal.returns-in-Err-Bad-clause-reply
returns-in-Err-Bad-clause-reply c = search rules

pub returns-in-Err-Bad-clause-fault : goal.returns-in-Err-Bad-clause-fault
returns-in-Err-Bad-clause-fault c = search rules

pub returns-in-Err-Memory-clause-reply : goal.returns-in-Err-Memory-clause-reply
returns-in-Err-Memory-clause-reply c = search rules

pub returns-in-Err-Memory-clause-fault : goal.returns-in-Err-Memory-clause-fault
returns-in-Err-Memory-clause-fault c = search rules

pub answer_case-requires-clause-outputs : goal.answer_case-requires-clause-outputs
answer_case-requires-clause-outputs c = search rules

pub answer_case-requires-clause-proof : goal.answer_case-requires-clause-proof
answer_case-requires-clause-proof c = search rules

pub returns-clause-reply : goal.returns-clause-reply
returns-clause-reply c = search rules

pub returns-clause-fault : goal.returns-clause-fault
returns-clause-fault c = search rules
