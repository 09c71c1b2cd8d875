-- What is made of the refusal is the answer to this case.
use Rattle.case_prove.proofs.answered.prove_reply.Goals as goal

pub returns-in-Err : goal.returns-in-Err
returns-in-Err g c = c.refused_reply.ensures c.args.case.now c.in-Err.ensures.refused
