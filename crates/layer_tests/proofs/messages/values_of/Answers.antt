-- The values of a circuit's layers have their sizes
use Rattle.layer_tests.proofs.messages.values_of.Goals as goal

pub returns : goal.returns
returns g c = c.tables_fit.ensures c.args.circuit.now c.args.inputs.now c.in_ok-layer_values.field-0 c.in_ok-layer_values.ensures
