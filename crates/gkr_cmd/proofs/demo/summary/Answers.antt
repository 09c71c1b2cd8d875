use Rattle.std.proofs.Common.{refl}
use Rattle.gkr_cmd.proofs.Demos.{reported}
use Rattle.gkr_cmd.proofs.demo.summary.Goals as goal

pub returns : goal.returns
returns c =
    reported c.args.number _ c.args.case.now c.args.proved.now c.args.circuit.now.parts c.proof_of-proof.result.now c.requires.case c.requires.compiled c.requires.proved c.requires.accepted
    c.first_output.ensures c.proof_of-proof.ensures refl c.demo_size.ensures c.height.ensures refl c.digest.ensures
