-- The lists have no fault
use Rattle.std.proofs.Common.{◌<◌, ◌∙◌, length, arith, rules}
use Rattle.std.proofs.lemmas.Result.{err_from_is_err_and}
use Rattle.circuit_core.proofs.api.First.{first_below_none}
use Rattle.layer_compile.specs.Circuits.{too_wide}
use Rattle.std.proofs.lemmas.List.Elements.{All-same}
use Rattle.layer_compile.specs.Rows.{row}
use Rattle.layer_compile.proofs.Standing.{row_within}
use Rattle.layer_compile.proofs.api.NoFault.{faultless}
use Rattle.layer_compile.proofs.api.Refusals.{wide_cause}
use Rattle.layer_compile.proofs.plan.Plan.circuit.Goals as goal

pub returns-in_err-fits-clause-refused : goal.returns-in_err-fits-clause-refused
returns-in_err-fits-clause-refused c =
    let p = err_from_is_err_and c.from_residual-in_err-fits.result c.from_residual-in_err-fits.ensures.1 in
    rw (p.1, p.2) (wide_cause c.args.limits.now c.args.self.now.list.now 0 c.in_err-fits.field-0.0 c.requires.low (omega arith) (first_below_none (too_wide c.args.limits.now c.args.self.now.list.now)) c.in_err-fits.ensures.wide)

pub leaves_of-requires : goal.leaves_of-requires
leaves_of-requires c =
    let list = c.args.self.now.list.now in
    All-same (λ k. k < length list.nodes) c.deref-2.result.now (row list 0) (c.deref-2.ensures.value ∙ c.in_ok-row.ensures) (row_within list c.nodes-many.ensures.fine 0 (omega arith))

pub of_lists-requires-clause-faultless : goal.of_lists-requires-clause-faultless
of_lists-requires-clause-faultless c = faultless c.args.limits.now c.requires.kept c.args.self.now.list.now c.nodes-many.ensures.fine c.in_ok-layers.ensures.accepted

pub returns-in_err-row-clause-accepted : goal.returns-in_err-row-clause-accepted
returns-in_err-row-clause-accepted g = search rules

pub returns-in_err-row-clause-made : goal.returns-in_err-row-clause-made
returns-in_err-row-clause-made g = search rules

pub returns-in_err-row-clause-refused : goal.returns-in_err-row-clause-refused
returns-in_err-row-clause-refused g = search rules

pub returns-in_err-fits-clause-accepted : goal.returns-in_err-fits-clause-accepted
returns-in_err-fits-clause-accepted g = search rules

pub returns-in_err-fits-clause-made : goal.returns-in_err-fits-clause-made
returns-in_err-fits-clause-made g = search rules

pub returns-in_err-leaves-clause-accepted : goal.returns-in_err-leaves-clause-accepted
returns-in_err-leaves-clause-accepted g = search rules

pub returns-in_err-leaves-clause-made : goal.returns-in_err-leaves-clause-made
returns-in_err-leaves-clause-made g = search rules

pub returns-in_err-leaves-clause-refused : goal.returns-in_err-leaves-clause-refused
returns-in_err-leaves-clause-refused g = search rules

pub returns-in_err-places-clause-accepted : goal.returns-in_err-places-clause-accepted
returns-in_err-places-clause-accepted g = search rules

pub returns-in_err-places-clause-made : goal.returns-in_err-places-clause-made
returns-in_err-places-clause-made g = search rules

pub returns-in_err-places-clause-refused : goal.returns-in_err-places-clause-refused
returns-in_err-places-clause-refused g = search rules

pub layers-requires-clause-fine : goal.layers-requires-clause-fine
layers-requires-clause-fine g = search rules

pub layers-requires-clause-low : goal.layers-requires-clause-low
layers-requires-clause-low g = search rules

pub returns-in_err-layers-clause-accepted : goal.returns-in_err-layers-clause-accepted
returns-in_err-layers-clause-accepted g = search rules

pub returns-in_err-layers-clause-made : goal.returns-in_err-layers-clause-made
returns-in_err-layers-clause-made g = search rules

pub returns-in_err-layers-clause-refused : goal.returns-in_err-layers-clause-refused
returns-in_err-layers-clause-refused g = search rules

pub returns-in_err-circuit-clause-accepted : goal.returns-in_err-circuit-clause-accepted
returns-in_err-circuit-clause-accepted g = search rules

pub returns-in_err-circuit-clause-made : goal.returns-in_err-circuit-clause-made
returns-in_err-circuit-clause-made g = search rules

pub returns-in_err-circuit-clause-refused : goal.returns-in_err-circuit-clause-refused
returns-in_err-circuit-clause-refused g = search rules

pub returns-clause-refused : goal.returns-clause-refused
returns-clause-refused g = search rules
