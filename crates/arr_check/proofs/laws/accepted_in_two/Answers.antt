use Rattle.arr_check.proofs.Wider.{accepted_in_two}
use Rattle.arr_check.proofs.laws.accepted_in_two.Goals as goal

pub returns : goal.returns
returns c = accepted_in_two
