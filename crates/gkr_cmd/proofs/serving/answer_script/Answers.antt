use Rattle.std.proofs.Common.{rules}
use Rattle.gkr_cmd.proofs.serving.answer_script.Goals as goal

pub returns-in-Err-Bad-clause-reply : goal.returns-in-Err-Bad-clause-reply
returns-in-Err-Bad-clause-reply g c = search rules

pub returns-in-Err-Bad-clause-fault : goal.returns-in-Err-Bad-clause-fault
returns-in-Err-Bad-clause-fault g c = search rules

pub returns-in-Err-Memory-clause-reply : goal.returns-in-Err-Memory-clause-reply
returns-in-Err-Memory-clause-reply g c = search rules

pub returns-in-Err-Memory-clause-fault : goal.returns-in-Err-Memory-clause-fault
returns-in-Err-Memory-clause-fault g c = search rules

pub serve_script-requires-clause-few : goal.serve_script-requires-clause-few
serve_script-requires-clause-few g c = search rules

pub serve_script-requires-clause-workers : goal.serve_script-requires-clause-workers
serve_script-requires-clause-workers g c = search rules

pub serve_script-requires-clause-provers : goal.serve_script-requires-clause-provers
serve_script-requires-clause-provers g c = search rules

pub serve_script-requires-clause-clients : goal.serve_script-requires-clause-clients
serve_script-requires-clause-clients g c = search rules

pub returns-in_err-served-clause-reply : goal.returns-in_err-served-clause-reply
returns-in_err-served-clause-reply g c = search rules

pub returns-in_err-served-clause-fault : goal.returns-in_err-served-clause-fault
returns-in_err-served-clause-fault g c = search rules

pub returns-clause-reply : goal.returns-clause-reply
returns-clause-reply g c = search rules

pub returns-clause-fault : goal.returns-clause-fault
returns-clause-fault g c = search rules
