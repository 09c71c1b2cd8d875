use Rattle.std.proofs.Common.{rules}
use Rattle.gkr_cmd.proofs.demo.demo.Goals as goal

pub returns-in_err-case-clause-reply : goal.returns-in_err-case-clause-reply
returns-in_err-case-clause-reply g c = search rules

pub returns-in_err-case-clause-fault : goal.returns-in_err-case-clause-fault
returns-in_err-case-clause-fault g c = search rules

pub out_of_memory-requires : goal.out_of_memory-requires
out_of_memory-requires g c = search rules

pub returns-in-Err-clause-reply : goal.returns-in-Err-clause-reply
returns-in-Err-clause-reply g c = search rules

pub returns-in-Err-clause-fault : goal.returns-in-Err-clause-fault
returns-in-Err-clause-fault g c = search rules

pub prove_laid_out-requires-clause-compiled : goal.prove_laid_out-requires-clause-compiled
prove_laid_out-requires-clause-compiled g c = search rules

pub prove_laid_out-requires-clause-counted : goal.prove_laid_out-requires-clause-counted
prove_laid_out-requires-clause-counted g c = search rules

pub prove_laid_out-requires-clause-workers : goal.prove_laid_out-requires-clause-workers
prove_laid_out-requires-clause-workers g c = search rules

pub returns-in_err-proved-clause-reply : goal.returns-in_err-proved-clause-reply
returns-in_err-proved-clause-reply g c = search rules

pub returns-in_err-proved-clause-fault : goal.returns-in_err-proved-clause-fault
returns-in_err-proved-clause-fault g c = search rules

pub accept-requires-clause-compiled : goal.accept-requires-clause-compiled
accept-requires-clause-compiled g c = search rules

pub accept-requires-clause-counted : goal.accept-requires-clause-counted
accept-requires-clause-counted g c = search rules

pub accept-requires-clause-proved : goal.accept-requires-clause-proved
accept-requires-clause-proved g c = search rules

pub returns-in_err-accept-clause-fault : goal.returns-in_err-accept-clause-fault
returns-in_err-accept-clause-fault g c = search rules

pub summary-requires-clause-case : goal.summary-requires-clause-case
summary-requires-clause-case g c = search rules

pub summary-requires-clause-compiled : goal.summary-requires-clause-compiled
summary-requires-clause-compiled g c = search rules

pub summary-requires-clause-proved : goal.summary-requires-clause-proved
summary-requires-clause-proved g c = search rules

pub summary-requires-clause-accepted : goal.summary-requires-clause-accepted
summary-requires-clause-accepted g c = search rules

pub returns-clause-reply : goal.returns-clause-reply
returns-clause-reply g c = search rules

pub returns-clause-fault : goal.returns-clause-fault
returns-clause-fault g c = search rules
