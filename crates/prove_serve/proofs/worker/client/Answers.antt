use Rattle.std.proofs.Common.{◌∙◌, sym}
use Rattle.prove_serve.proofs.Submitted.{prefix_trans, has_submitted}
use Rattle.prove_serve.proofs.worker.client.Goals as goal

pub returns-clause-submitted : goal.returns-clause-submitted
returns-clause-submitted g c =
    has_submitted c.submit_all.new.pass c.answer_one.new.pass c.args.duty.jobs.items (prefix_trans c.submit_all.new.pass.seen c.withdraw_all.new.pass.seen c.answer_one.new.pass.seen c.withdraw_all.ensures.begins c.answer_one.ensures.begins)
    (c.answer_one.ensures.of.capacity ∙ sym c.submit_all.ensures.of.capacity) (c.answer_one.ensures.submits ∙ c.withdraw_all.ensures.submits) c.submit_all.ensures.submitted
