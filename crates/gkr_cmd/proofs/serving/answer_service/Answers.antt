use Rattle.std.proofs.Common.{rules}
use Rattle.gkr_cmd.proofs.serving.answer_service.Goals as goal

pub answer_script-requires-clause-workers : goal.answer_script-requires-clause-workers
answer_script-requires-clause-workers g c = search rules

pub answer_script-requires-clause-provers : goal.answer_script-requires-clause-provers
answer_script-requires-clause-provers g c = search rules

pub answer_script-requires-clause-clients : goal.answer_script-requires-clause-clients
answer_script-requires-clause-clients g c = search rules

pub answer_script-requires-clause-limit : goal.answer_script-requires-clause-limit
answer_script-requires-clause-limit g c = search rules

pub answer_history-requires-clause-workers : goal.answer_history-requires-clause-workers
answer_history-requires-clause-workers g c = search rules

pub answer_history-requires-clause-provers : goal.answer_history-requires-clause-provers
answer_history-requires-clause-provers g c = search rules

pub answer_history-requires-clause-clients : goal.answer_history-requires-clause-clients
answer_history-requires-clause-clients g c = search rules

pub answer_history-requires-clause-limit : goal.answer_history-requires-clause-limit
answer_history-requires-clause-limit g c = search rules

pub unreachable-requires : goal.unreachable-requires
unreachable-requires g c = search rules

pub unreachable-unreachable : goal.unreachable-unreachable
unreachable-unreachable g c = search rules

pub returns-in-Some-Serve-clause-reply : goal.returns-in-Some-Serve-clause-reply
returns-in-Some-Serve-clause-reply g c = search rules

pub returns-in-Some-Serve-clause-fault : goal.returns-in-Some-Serve-clause-fault
returns-in-Some-Serve-clause-fault g c = search rules

pub returns-in-Some-ServeHistory-clause-reply : goal.returns-in-Some-ServeHistory-clause-reply
returns-in-Some-ServeHistory-clause-reply g c = search rules

pub returns-in-Some-ServeHistory-clause-fault : goal.returns-in-Some-ServeHistory-clause-fault
returns-in-Some-ServeHistory-clause-fault g c = search rules
