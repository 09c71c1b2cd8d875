use Rattle.std.proofs.Common.{rules}
use Rattle.gkr_cmd.proofs.serving.answer_history.Goals as goal

pub returns-in-Err-Bad-clause-reply : goal.returns-in-Err-Bad-clause-reply
returns-in-Err-Bad-clause-reply g c = search rules

pub returns-in-Err-Bad-clause-fault : goal.returns-in-Err-Bad-clause-fault
returns-in-Err-Bad-clause-fault g c = search rules

pub returns-in-Err-Memory-clause-reply : goal.returns-in-Err-Memory-clause-reply
returns-in-Err-Memory-clause-reply g c = search rules

pub returns-in-Err-Memory-clause-fault : goal.returns-in-Err-Memory-clause-fault
returns-in-Err-Memory-clause-fault g c = search rules

pub serve_script_history-requires-clause-few : goal.serve_script_history-requires-clause-few
serve_script_history-requires-clause-few g c = search rules

pub serve_script_history-requires-clause-workers : goal.serve_script_history-requires-clause-workers
serve_script_history-requires-clause-workers g c = search rules

pub serve_script_history-requires-clause-provers : goal.serve_script_history-requires-clause-provers
serve_script_history-requires-clause-provers g c = search rules

pub serve_script_history-requires-clause-clients : goal.serve_script_history-requires-clause-clients
serve_script_history-requires-clause-clients g c = search rules

pub returns-in_err-history-clause-reply : goal.returns-in_err-history-clause-reply
returns-in_err-history-clause-reply g c = search rules

pub returns-in_err-history-clause-fault : goal.returns-in_err-history-clause-fault
returns-in_err-history-clause-fault g c = search rules

pub returns-clause-reply : goal.returns-clause-reply
returns-clause-reply g c = search rules

pub returns-clause-fault : goal.returns-clause-fault
returns-clause-fault g c = search rules
