use Rattle.std.proofs.Common.{rules}
use Rattle.arr_run.proofs.program.run_parts.Goals as goal

pub returns-in_err-run_inputs-clause-end : goal.returns-in_err-run_inputs-clause-end
returns-in_err-run_inputs-clause-end g c = search rules

pub returns-in_err-run_inputs-clause-inputs : goal.returns-in_err-run_inputs-clause-inputs
returns-in_err-run_inputs-clause-inputs g c = search rules

pub returns-in_err-run_definitions-clause-end : goal.returns-in_err-run_definitions-clause-end
returns-in_err-run_definitions-clause-end g c = search rules

pub returns-in_err-run_definitions-clause-inputs : goal.returns-in_err-run_definitions-clause-inputs
returns-in_err-run_definitions-clause-inputs g c = search rules

pub returns-in_err-run_top_statements-clause-end : goal.returns-in_err-run_top_statements-clause-end
returns-in_err-run_top_statements-clause-end g c = search rules

pub returns-in_err-run_top_statements-clause-inputs : goal.returns-in_err-run_top_statements-clause-inputs
returns-in_err-run_top_statements-clause-inputs g c = search rules

pub returns-in_err-require_output-clause-end : goal.returns-in_err-require_output-clause-end
returns-in_err-require_output-clause-end g c = search rules

pub returns-in_err-require_output-clause-inputs : goal.returns-in_err-require_output-clause-inputs
returns-in_err-require_output-clause-inputs g c = search rules

pub returns-clause-end : goal.returns-clause-end
returns-clause-end g c = search rules
