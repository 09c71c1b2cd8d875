use Rattle.std.proofs.Common.{◌≡◌, ℕ, ◌^◌, ◌<◌, ◌≤◌, length, get_or, arith, ◌∙◌, ap, ap₂}
use Rattle.field_ext.specs.Field.{K, k_ops, add_k, mul_k, zero_k}
use Rattle.field_ext.proofs.api.KLaws.{k_laws}
use Rattle.field_ext.specs.Multilinear.{eq_poly}
use Rattle.circuit_core.specs.declared.gate.CircuitGate.{CircuitGate}
use Rattle.circuit_core.specs.Parts.{zero_gate}
use Rattle.mle_table.proofs.api.EqualitySteps.{pow_up}
use Rattle.wiring_poly.specs.Wiring.{by_kind, gate_weight}
use Rattle.wiring_poly.proofs.api.GateSteps.{summed_none, summed_more, summed_all}
use Rattle.wiring_poly.proofs.wiring.gate_sums.Goals as goal

pub loop-g-init : goal.loop-g-init
loop-g-init c = record {
  add = summed_none k_ops k_laws _ _ c.zero.ensures;
  mul = summed_none k_ops k_laws _ _ c.zero-2.ensures;
}

pub value-requires : goal.value-requires
value-requires c =
    let most : 2 ^ length c.args.b.now ≤ 1048576 = pow_up (length c.args.b.now) 20 c.requires.few_operands in
    omega (arith, most, (c.requires.operands c.loop-g.g zero_gate c.loop-g-test.true).left)

pub value-requires-in-loop-g : goal.value-requires-in-loop-g
value-requires-in-loop-g c =
    let most : 2 ^ length c.args.b.now ≤ 1048576 = pow_up (length c.args.b.now) 20 c.requires.few_operands in
    omega (arith, most, (c.requires.operands c.loop-g.g zero_gate c.loop-g-test.true).right)

pub value-requires-in-loop-g-2 : goal.value-requires-in-loop-g-2
value-requires-in-loop-g-2 c =
    let most : 2 ^ length c.args.z.now ≤ 1048576 = pow_up (length c.args.z.now) 20 c.requires.few_positions in
    omega (arith, most, c.loop-g-test.true, c.requires.positions)

pub loop-g-preserved : goal.loop-g-preserved
loop-g-preserved c =
    let g = c.loop-g.g in
    let u = c.loop-g-test.true in
    let z = c.args.z.now in
    let b = c.args.b.now in
    let r = c.args.c.now in
    let d : CircuitGate = zero_gate in
    let gate : CircuitGate = get_or c.args.gates.now g d in
    let fits = c.requires.operands g d u in
    let there : gate.right < 2 ^ length r = omega (arith, fits.right, ap (λ (n : ℕ). 2 ^ n) c.requires.right) in
    let here : c.loop-g.g < 2 ^ length z = omega (arith, u, c.requires.positions) in
    let operands : c.mul-operands.result ≡ mul_k (eq_poly k_ops b gate.left) (eq_poly k_ops r gate.right) =
    c.mul-operands.ensures ∙ ap₂ mul_k (c.value.ensures b c.at-left.ensures fits.left) (c.value-in-loop-g.ensures r c.at-right.ensures there) in
    let weight : c.mul.result ≡ gate_weight k_ops z b r g gate = c.mul.ensures ∙ ap₂ mul_k (c.value-in-loop-g-2.ensures z c.at-position.ensures here) operands in
    record {
      add = summed_more k_ops k_laws c.args.gates.now (λ g gate. by_kind gate.kind (gate_weight k_ops z b r g gate) zero_k) g d c.loop-g.sums.add c.with-sums.result.add _ u
          (c.with-sums.ensures.add ∙ ap (λ (w : K). add_k c.loop-g.sums.add (by_kind gate.kind w zero_k)) weight) c.loop-g.invariant.add;
      mul = summed_more k_ops k_laws c.args.gates.now (λ g gate. by_kind gate.kind zero_k (gate_weight k_ops z b r g gate)) g d c.loop-g.sums.mul c.with-sums.result.mul _ u
          (c.with-sums.ensures.mul ∙ ap (λ (w : K). add_k c.loop-g.sums.mul (by_kind gate.kind zero_k w)) weight) c.loop-g.invariant.mul;
    }

pub returns-clause-add : goal.returns-clause-add
returns-clause-add c = summed_all k_ops k_laws c.args.gates.now _ c.loop-g.g _ _ c.loop-g-test.false c.loop-g.invariant.add

pub returns-clause-mul : goal.returns-clause-mul
returns-clause-mul c = summed_all k_ops k_laws c.args.gates.now _ c.loop-g.g _ _ c.loop-g-test.false c.loop-g.invariant.mul
