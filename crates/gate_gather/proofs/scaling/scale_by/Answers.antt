-- One block more
use Rattle.std.proofs.Common.{◌≡◌, ℕ, ◌+◌, ◌-◌, ◌*◌, ◌%◌, ◌≤◌, length, get_or, ap, ap₂, arith, subst}
use Rattle.field_ext.specs.Field.{K, add_k, mul_k, zero_k}
use Rattle.gate_gather.specs.Scaling.{IsMade}
use Rattle.gate_gather.proofs.Made.{made_next, made_kept}
use Rattle.gate_gather.proofs.scaling.scale_by.Goals as goal

pub loop-number-init : goal.loop-number-init
loop-number-init c = record {
  scales = made_kept 0 0 c.args.scales.now _ (λ x u v. absurd (omega (arith, u, v)));
  shifts = made_kept 0 0 c.args.shifts.now _ (λ x u v. absurd (omega (arith, u, v)));
}

pub loop-number-preserved : goal.loop-number-preserved
loop-number-preserved c =
    let n = c.loop-number.number in
    let value = c.args.value in
    let made = c.loop-number.invariant in
    let next : 2048 * c.loop-number.number + 2048 ≡ 2048 * (c.loop-number.number + 1) = omega arith in
    let old_shift : (x : ℕ) → 2048 * c.loop-number.number ≤ x → get_or c.loop-number.shifts x zero_k ≡ get_or c.args.shifts.now x zero_k = λ x u. made.shifts.after x (omega (arith, u)) in
    let old_scale : (x : ℕ) → 2048 * c.loop-number.number ≤ x → get_or c.loop-number.scales x zero_k ≡ get_or c.args.scales.now x zero_k = λ x u. made.scales.after x (omega (arith, u)) in
    record {
      scales = subst (λ (m : ℕ). IsMade 0 m c.args.scales.now c.scale_block.new.scales (λ x. add_k (get_or c.args.shifts.now x zero_k) (mul_k value (get_or c.args.scales.now x zero_k)))) next
          (made_next (2048 * n) 2048 c.args.scales.now c.loop-number.scales c.scale_block.new.scales (λ x. add_k (get_or c.args.shifts.now x zero_k) (mul_k value (get_or c.args.scales.now x zero_k)))
          (λ x. add_k (get_or c.loop-number.shifts x zero_k) (mul_k value (get_or c.loop-number.scales x zero_k))) made.scales c.scale_block.ensures.scales
          (λ x u. ap₂ (λ (a m : K). add_k a (mul_k value m)) (old_shift x u) (old_scale x u)));
      shifts = subst (λ (m : ℕ). IsMade 0 m c.args.shifts.now c.scale_block.new.shifts (λ x. mul_k value (get_or c.args.shifts.now x zero_k))) next
          (made_next (2048 * n) 2048 c.args.shifts.now c.loop-number.shifts c.scale_block.new.shifts (λ x. mul_k value (get_or c.args.shifts.now x zero_k))
          (λ x. mul_k value (get_or c.loop-number.shifts x zero_k)) made.shifts c.scale_block.ensures.shifts (λ x u. ap (mul_k value) (old_shift x u)));
    }

pub returns-clause-scales : goal.returns-clause-scales
returns-clause-scales c x u =
    let value = c.args.value in
    let made = c.loop-number.invariant in
    let whole : 2048 * c.loop-number.number ≡ length c.args.scales.now - length c.args.scales.now % 2048 = omega arith in
    let scales = subst (λ (m : ℕ). IsMade 0 m c.args.scales.now c.loop-number.scales (λ x. add_k (get_or c.args.shifts.now x zero_k) (mul_k value (get_or c.args.scales.now x zero_k)))) whole made.scales in
    let shifts = subst (λ (m : ℕ). IsMade 0 m c.args.shifts.now c.loop-number.shifts (λ x. mul_k value (get_or c.args.shifts.now x zero_k))) whole made.shifts in
    (made_next (length c.args.scales.now - length c.args.scales.now % 2048) (length c.args.scales.now % 2048) c.args.scales.now c.loop-number.scales c.scale_block-2.new.scales (λ x. add_k (get_or c.args.shifts.now x zero_k) (mul_k value (get_or c.args.scales.now x zero_k)))
    (λ x. add_k (get_or c.loop-number.shifts x zero_k) (mul_k value (get_or c.loop-number.scales x zero_k))) scales c.scale_block-2.ensures.scales
    (λ x u. ap₂ (λ (a m : K). add_k a (mul_k value m)) (shifts.after x (omega (arith, u))) (scales.after x (omega (arith, u))))).within x (omega arith) (omega (arith, u))

pub returns-clause-shifts : goal.returns-clause-shifts
returns-clause-shifts c x u =
    let value = c.args.value in
    let made = c.loop-number.invariant in
    let whole : 2048 * c.loop-number.number ≡ length c.args.scales.now - length c.args.scales.now % 2048 = omega arith in
    let shifts = subst (λ (m : ℕ). IsMade 0 m c.args.shifts.now c.loop-number.shifts (λ x. mul_k value (get_or c.args.shifts.now x zero_k))) whole made.shifts in
    (made_next (length c.args.scales.now - length c.args.scales.now % 2048) (length c.args.scales.now % 2048) c.args.shifts.now c.loop-number.shifts c.scale_block-2.new.shifts (λ x. mul_k value (get_or c.args.shifts.now x zero_k))
    (λ x. mul_k value (get_or c.loop-number.shifts x zero_k)) shifts c.scale_block-2.ensures.shifts (λ x u. ap (mul_k value) (shifts.after x (omega (arith, u))))).within x (omega arith) (omega (arith, u))
