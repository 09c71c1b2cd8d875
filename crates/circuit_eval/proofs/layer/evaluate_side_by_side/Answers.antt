-- Each call wrote its gate's value
use Rattle.std.proofs.Common.{◌∙◌, map, sym, arith}
use Rattle.std.proofs.lemmas.List.{same_lists, length-map, get_or-map}
use Rattle.circuit_core.specs.Parts.{gate_value, zero_gate}
use Rattle.circuit_eval.proofs.layer.evaluate_side_by_side.Goals as goal

pub returns : goal.returns
returns g c =
    let gates = c.args.gates.now in
    let value = gate_value c.args.below.now in
    let many = length-map gates value in
    let long = c.par_for_each_mut.auto.s in
    same_lists c.par_for_each_mut.new.s (map value gates) (omega (arith, long, c.requires.capacity, many)) (λ k d l.
    let at = (c.par_for_each_mut.ensures k d (omega (arith, l, long))).1 in
    sym at.left ∙ at.call ∙ sym (get_or-map value gates k zero_gate d (omega (arith, l, long, c.requires.capacity))))
