use Rattle.gkr_cmd.proofs.Demos.{one_more}
use Rattle.gkr_cmd.proofs.demo.demo_inputs.Goals as goal

pub loop-j-preserved : goal.loop-j-preserved
loop-j-preserved c =
    one_more c.args.number c.loop-j.j c.reduce.result c.loop-j.inputs.items _ c.loop-j.invariant c.in_ok-push.ensures.items
    (rw (c.from.ensures, c.from-in-loop-j.ensures) at c.reduce.ensures)
