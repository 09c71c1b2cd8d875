-- Each operation makes nodes with the values that it means.
use Rattle.arr_lower.proofs.Means.{nodes_mean}
use Rattle.arr_lower.proofs.laws.nodes_mean.Goals as goal

pub returns : goal.returns
returns c lang program nodes inputs e long = nodes_mean inputs lang program nodes e long
