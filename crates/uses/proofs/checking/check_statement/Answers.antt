use Rattle.proof_wire.specs.Lists.{all_messages}
use Rattle.uses.proofs.Checked.{same_verdict}
use Rattle.uses.proofs.checking.check_statement.Goals as goal

pub returns : goal.returns
returns c =
    same_verdict c.check.result c.args.circuit.now.parts _ c.args.statement.now.inputs _ c.args.statement.now.outputs _ _ (all_messages c.args.messages.now.layers) c.inputs.ensures.value c.outputs.ensures.value c.start-challenges.ensures
    c.check.ensures.verdict
