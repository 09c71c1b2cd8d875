use Rattle.gkr_cmd.proofs.DemoAnswers.{demo_done}
use Rattle.gkr_cmd.proofs.laws.demo_is_done.Goals as goal

pub returns : goal.returns
returns c = demo_done
