use Rattle.std.proofs.Common.{sym}
use Rattle.gkr_cmd.proofs.Demos.{IsComputed, first_is, has_output}
use Rattle.gkr_cmd.proofs.demo.first_output.Goals as goal

pub bounds-outputs-0 : goal.bounds-outputs-0
bounds-outputs-0 c =
    let laws : IsComputed = record { tree = c.one_tree.ensures; inputs = c.circuit_computes.ensures.inputs; computes = c.circuit_computes.ensures.computes } in
    has_output laws c.args.case.now c.args.proved.now c.requires c.in-Some.outputs.now c.in-Some.ensures

pub returns : goal.returns
returns c =
    let laws : IsComputed = record { tree = c.one_tree.ensures; inputs = c.circuit_computes.ensures.inputs; computes = c.circuit_computes.ensures.computes } in
    let some = has_output laws c.args.case.now c.args.proved.now c.requires c.in-Some.outputs.now c.in-Some.ensures in
    first_is c.args.proved.now.outputs c.in-Some.outputs.now c.index-outputs-0.result c.index-outputs-0.result (sym c.in-Some.ensures) some c.index-outputs-0.is
