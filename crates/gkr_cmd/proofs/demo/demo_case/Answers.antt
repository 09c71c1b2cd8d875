use Rattle.gkr_cmd.proofs.Demos.{fits_as}
use Rattle.gkr_cmd.proofs.demo.demo_case.Goals as goal

pub new-requires : goal.new-requires
new-requires c = fits_as c.args.number c.demo_size-size.result c.in_ok-program.program.items c.in_ok-inputs.inputs.items c.demo_size-size.ensures c.in_ok-program.ensures c.in_ok-inputs.ensures
