-- The layer's gates and the table below them can be summed over
use Rattle.std.proofs.Common.{length, ◌∙◌, arith}
use Rattle.round_tables.proofs.CircuitLayers.{table_exponent, as_many, least, most, operands_over}
use Rattle.round_tables.proofs.gate_tables.GateTables.start.Goals as goal

pub overflow_shl-k : goal.overflow_shl-k
overflow_shl-k c =
    let few = most c.args.circuit.now c.args.layer c.requires.layer c.table-table.result.now.k (table_exponent c.args.circuit.now c.args.layer c.requires.layer c.args.values.now c.requires.values c.table-table.result.now c.table-table.ensures) in
    omega (arith, few, c.k.ensures)

pub start_in-requires-clause-least : goal.start_in-requires-clause-least
start_in-requires-clause-least c = least c.args.circuit.now c.args.layer c.requires.layer c.table-table.result.now.k (table_exponent c.args.circuit.now c.args.layer c.requires.layer c.args.values.now c.requires.values c.table-table.result.now c.table-table.ensures)

pub start_in-requires-clause-most : goal.start_in-requires-clause-most
start_in-requires-clause-most c = most c.args.circuit.now c.args.layer c.requires.layer c.table-table.result.now.k (table_exponent c.args.circuit.now c.args.layer c.requires.layer c.args.values.now c.requires.values c.table-table.result.now c.table-table.ensures)

pub start_in-requires-clause-width : goal.start_in-requires-clause-width
start_in-requires-clause-width c = as_many c.args.circuit.now c.args.layer c.requires.layer c.gates-gates.result.now (length c.args.point.now) c.gates-gates.ensures.value c.requires.position

pub start_in-requires-clause-operands : goal.start_in-requires-clause-operands
start_in-requires-clause-operands c = operands_over c.args.circuit.now c.args.layer c.requires.layer c.table-table.result.now.k (table_exponent c.args.circuit.now c.args.layer c.requires.layer c.args.values.now c.requires.values c.table-table.result.now c.table-table.ensures) c.gates-gates.result.now c.gates-gates.ensures.value

pub returns : goal.returns
returns c =
    let made = c.in_ok-start_in.ensures in
    λ i. record {
      k = (made.k ∙ table_exponent c.args.circuit.now c.args.layer c.requires.layer c.args.values.now c.requires.values c.table-table.result.now c.table-table.ensures) i;
      gates = (made.gates ∙ c.gates-gates.ensures.value) i;
      values = (made.values ∙ c.table-table.ensures) i;
      place = made.place i;
      bound = made.bound.0 i;
      lent = made.bound.1 i;
    }
