use Rattle.prove_serve.proofs.Submitted.{none_submitted}
use Rattle.prove_serve.proofs.worker.member.Goals as goal

pub returns-then-proves_alone-clause-submitted : goal.returns-then-proves_alone-clause-submitted
returns-then-proves_alone-clause-submitted g c = none_submitted c.prover.result c.args.duty.jobs.items (c.requires.alone c.if-proves_alone.true) c.prover.ensures.none
