-- A sound circuit's layers have powers of two of positions
use Rattle.circuit_eval.proofs.api.LayerTables.{length-table}
use Rattle.circuit_eval.proofs.laws.one_value_a_position.Goals as goal

pub returns : goal.returns
returns c = length-table
