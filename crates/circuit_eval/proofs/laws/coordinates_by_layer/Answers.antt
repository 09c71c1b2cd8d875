-- A table of k coordinates has two to the power of k values
use Rattle.std.proofs.Common.{◌∙◌, length, sym, ap}
use Rattle.circuit_core.specs.Sound.{exponent_at}
use Rattle.circuit_eval.proofs.api.LayerTables.{length-table, same_exponent}
use Rattle.circuit_eval.proofs.laws.coordinates_by_layer.Goals as goal

pub returns : goal.returns
returns c = λ circuit inputs i table l e.
    same_exponent table.k (exponent_at circuit.parts i) (sym table.whole ∙ ap length e ∙ length-table circuit inputs i l)
