use Rattle.std.proofs.Common.{◌≡◌, ℕ, ◌+◌, ◌*◌, ◌^◌, ◌<◌, ◌≤◌, ◌/◌, length, get_or, min, arith, ◌∙◌, ap, ap₂, sym, subst}
use Rattle.std.proofs.lemmas.Grind.{div_ceil_times}
use Rattle.field_ext.specs.Field.{K, k_ops, add_k, mul_k, zero_k}
use Rattle.field_ext.specs.Multilinear.{eq_poly}
use Rattle.field_ext.proofs.api.KLaws.{k_laws}
use Rattle.mle_table.proofs.api.EqualitySteps.{pow_up}
use Rattle.circuit_core.specs.declared.gate.CircuitGate.{CircuitGate}
use Rattle.circuit_core.specs.Parts.{zero_gate}
use Rattle.wiring_poly.specs.Wiring.{by_kind}
use Rattle.gkr_verify.specs.Blocks.{with_factors}
use Rattle.gkr_verify.proofs.BothSteps.{few_blocks, both_weight, operands, add_term, mul_term, add_gates-both, mul_gates-both, from_start, from_block, from_more, from_done, from_all}
use Rattle.gkr_verify.proofs.both.gates_at_both.Goals as goal

pub loop-block-init : goal.loop-block-init
loop-block-init c =
    let start : 0 ≡ min (length c.args.gates.now) (1024 * 0) = omega arith in
    record {
      add = from_start c.args.gates.now (add_term c.args.first.now c.args.second.now c.args.weight c.args.left.now c.args.right.now) _ c.zero.result start c.zero.ensures;
      mul = from_start c.args.gates.now (mul_term c.args.first.now c.args.second.now c.args.weight c.args.left.now c.args.right.now) _ c.zero-2.result start c.zero-2.ensures;
    }

pub loop-g-init : goal.loop-g-init
loop-g-init c =
    let block = c.loop-block.block in
    let bound : c.div_ceil-block-end.result * 1024 < length c.args.gates.now + 1024 =
    subst (λ (n : ℕ). n * 1024 < length c.args.gates.now + 1024) (sym c.div_ceil-block-end.ensures) (div_ceil_times (length c.args.gates.now) 1024 (omega arith)).1 in
    let here : min (length c.args.gates.now) (1024 * c.loop-block.block) ≡ 1024 * c.loop-block.block = omega (arith, bound, c.loop-block-test.true) in
    record {
      add = from_block c.args.gates.now (add_term c.args.first.now c.args.second.now c.args.weight c.args.left.now c.args.right.now) _ _ c.loop-block.sums.add _ here
          (c.none-shares.ensures.add c.at-both.result block) c.loop-block.invariant.add;
      mul = from_block c.args.gates.now (mul_term c.args.first.now c.args.second.now c.args.weight c.args.left.now c.args.right.now) _ _ c.loop-block.sums.mul _ here
          (c.none-shares.ensures.mul c.at-both.result block) c.loop-block.invariant.mul;
    }

pub value-requires : goal.value-requires
value-requires c =
    let most : 2 ^ length c.args.left.now ≤ 1048576 = pow_up (length c.args.left.now) 20 c.requires.few_operands in
    let u : c.loop-g.g < length c.args.gates.now = omega (arith, c.loop-g-test.true, c.min-g-end.ensures) in
    omega (arith, most, (c.requires.operands c.loop-g.g zero_gate u).left)

pub value-requires-in-loop-g : goal.value-requires-in-loop-g
value-requires-in-loop-g c =
    let most : 2 ^ length c.args.left.now ≤ 1048576 = pow_up (length c.args.left.now) 20 c.requires.few_operands in
    let u : c.loop-g.g < length c.args.gates.now = omega (arith, c.loop-g-test.true, c.min-g-end.ensures) in
    omega (arith, most, (c.requires.operands c.loop-g.g zero_gate u).right)

pub shares-requires : goal.shares-requires
shares-requires c =
    let most : 2 ^ length c.args.first.now ≤ 1048576 = pow_up (length c.args.first.now) 20 c.requires.few_positions in
    omega (arith, most, c.loop-g-test.true, c.min-g-end.ensures, c.requires.first)

pub loop-g-preserved : goal.loop-g-preserved
loop-g-preserved c =
    let both = c.at-both.result in
    let gates = c.args.gates.now in
    let first = c.args.first.now in
    let second = c.args.second.now in
    let a = c.args.weight in
    let left = c.args.left.now in
    let right = c.args.right.now in
    let block = c.loop-block.block in
    let g = c.loop-g.g in
    let d : CircuitGate = zero_gate in
    let gate : CircuitGate = get_or gates g d in
    let u : c.loop-g.g < length c.args.gates.now = omega (arith, c.loop-g-test.true, c.min-g-end.ensures) in
    let fits = c.requires.operands g d u in
    let there : gate.right < 2 ^ length c.args.right.now = omega (arith, fits.right, ap (λ (n : ℕ). 2 ^ n) c.requires.right) in
    let here : c.loop-g.g < 2 ^ length c.args.first.now = omega (arith, u, c.requires.first) in
    let also : c.loop-g.g < 2 ^ length c.args.second.now = omega (arith, here, ap (λ (n : ℕ). 2 ^ n) c.requires.second) in
    let within : c.loop-g.g / 1024 ≡ c.loop-block.block = omega (arith, c.loop-g.auto.g, c.loop-g-test.true, c.min-g-end.ensures) in
    let product : c.mul-operands.result ≡ operands first second a left right gate =
    c.mul-operands.ensures ∙ ap₂ mul_k (c.value.ensures left c.at-left.ensures fits.left) (c.value-in-loop-g.ensures right c.at-right.ensures there) in
    let shared : with_factors both block c.shares.result ≡ mul_k (both_weight first second a g) (operands first second a left right gate) =
    (λ i. with_factors both (sym within i) c.shares.result)
    ∙ c.shares.ensures first second a c.at-both.ensures here also ∙ ap (mul_k (both_weight first second a g)) product in
    record {
      add = from_more gates (add_term first second a left right) g d c.loop-block.sums.add (with_factors both block c.loop-g.shares.add) (with_factors both block c.with-shares.result.add) u
          (c.with-shares.ensures.add both block ∙ ap (λ (w : K). add_k (with_factors both block c.loop-g.shares.add) (by_kind gate.kind w zero_k)) shared) c.loop-g.invariant.add;
      mul = from_more gates (mul_term first second a left right) g d c.loop-block.sums.mul (with_factors both block c.loop-g.shares.mul) (with_factors both block c.with-shares.result.mul) u
          (c.with-shares.ensures.mul both block ∙ ap (λ (w : K). add_k (with_factors both block c.loop-g.shares.mul) (by_kind gate.kind zero_k w)) shared) c.loop-g.invariant.mul;
    }

pub with_factors-requires : goal.with_factors-requires
with_factors-requires c =
    let bound : c.div_ceil-block-end.result * 1024 < length c.args.gates.now + 1024 =
    subst (λ (n : ℕ). n * 1024 < length c.args.gates.now + 1024) (sym c.div_ceil-block-end.ensures) (div_ceil_times (length c.args.gates.now) 1024 (omega arith)).1 in
    few_blocks c.loop-block.block c.div_ceil-block-end.result (length c.args.gates.now) (length c.args.first.now) c.loop-block-test.true bound (omega (arith, c.requires.first)) c.requires.few_positions

pub with_factors-requires-in-loop-block : goal.with_factors-requires-in-loop-block
with_factors-requires-in-loop-block c =
    let bound : c.div_ceil-block-end.result * 1024 < length c.args.gates.now + 1024 =
    subst (λ (n : ℕ). n * 1024 < length c.args.gates.now + 1024) (sym c.div_ceil-block-end.ensures) (div_ceil_times (length c.args.gates.now) 1024 (omega arith)).1 in
    few_blocks c.loop-block.block c.div_ceil-block-end.result (length c.args.gates.now) (length c.args.first.now) c.loop-block-test.true bound (omega (arith, c.requires.first)) c.requires.few_positions

pub loop-block-preserved : goal.loop-block-preserved
loop-block-preserved c =
    let bound : c.div_ceil-block-end.result * 1024 < length c.args.gates.now + 1024 =
    subst (λ (n : ℕ). n * 1024 < length c.args.gates.now + 1024) (sym c.div_ceil-block-end.ensures) (div_ceil_times (length c.args.gates.now) 1024 (omega arith)).1 in
    let some : 1024 * c.loop-block.block ≤ c.min-g-end.result = omega (arith, bound, c.loop-block-test.true, c.min-g-end.ensures) in
    let end : c.loop-g.g ≡ min (length c.args.gates.now) (1024 * (c.loop-block.block + 1)) =
    omega (arith, c.loop-g.auto.g-end some, c.loop-g-test.false, c.min-g-end.ensures) in
    record {
      add = from_done c.args.gates.now (add_term c.args.first.now c.args.second.now c.args.weight c.args.left.now c.args.right.now) _ _ _ c.add.result end
          (c.add.ensures ∙ ap (add_k c.loop-block.sums.add) c.with_factors.ensures) c.loop-g.invariant.add;
      mul = from_done c.args.gates.now (mul_term c.args.first.now c.args.second.now c.args.weight c.args.left.now c.args.right.now) _ _ _ c.add-in-loop-block.result end
          (c.add-in-loop-block.ensures ∙ ap (add_k c.loop-block.sums.mul) c.with_factors-in-loop-block.ensures) c.loop-g.invariant.mul;
    }

pub returns-clause-add : goal.returns-clause-add
returns-clause-add c =
    let bound : length c.args.gates.now ≤ c.div_ceil-block-end.result * 1024 =
    subst (λ (n : ℕ). length c.args.gates.now ≤ n * 1024) (sym c.div_ceil-block-end.ensures) (div_ceil_times (length c.args.gates.now) 1024 (omega arith)).0 in
    let all : length c.args.gates.now ≤ min (length c.args.gates.now) (1024 * c.loop-block.block) = omega (arith, bound, c.loop-block-test.false) in
    from_all c.args.gates.now (add_term c.args.first.now c.args.second.now c.args.weight c.args.left.now c.args.right.now) _ c.loop-block.sums.add all c.loop-block.invariant.add
    ∙ add_gates-both k_ops k_laws c.args.gates.now (eq_poly k_ops c.args.first.now) (eq_poly k_ops c.args.second.now) c.args.weight
    (operands c.args.first.now c.args.second.now c.args.weight c.args.left.now c.args.right.now)

pub returns-clause-mul : goal.returns-clause-mul
returns-clause-mul c =
    let bound : length c.args.gates.now ≤ c.div_ceil-block-end.result * 1024 =
    subst (λ (n : ℕ). length c.args.gates.now ≤ n * 1024) (sym c.div_ceil-block-end.ensures) (div_ceil_times (length c.args.gates.now) 1024 (omega arith)).0 in
    let all : length c.args.gates.now ≤ min (length c.args.gates.now) (1024 * c.loop-block.block) = omega (arith, bound, c.loop-block-test.false) in
    from_all c.args.gates.now (mul_term c.args.first.now c.args.second.now c.args.weight c.args.left.now c.args.right.now) _ c.loop-block.sums.mul all c.loop-block.invariant.mul
    ∙ mul_gates-both k_ops k_laws c.args.gates.now (eq_poly k_ops c.args.first.now) (eq_poly k_ops c.args.second.now) c.args.weight
    (operands c.args.first.now c.args.second.now c.args.weight c.args.left.now c.args.right.now)
