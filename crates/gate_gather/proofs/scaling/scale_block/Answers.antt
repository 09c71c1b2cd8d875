-- Where the sums of one kind are 0 the products with them are left out
use Rattle.std.proofs.Common.{◌∙◌, sym, ap, get_or}
use Rattle.field_ext.specs.Field.{K, k_ops, add_k, mul_k, zero_k}
use Rattle.field_ext.proofs.api.KLaws.{k_laws}
use Rattle.field_ext.proofs.api.Rings.{zero_add, mul_zero}
use Rattle.gate_gather.proofs.Made.{made_as, made_kept, zero_times}
use Rattle.gate_gather.proofs.scaling.scale_block.Goals as goal

pub returns-then-is_zero-clause-scales : goal.returns-then-is_zero-clause-scales
returns-then-is_zero-clause-scales c =
    let value = c.args.value in
    let none = c.is_zero.ensures.0 c.if-is_zero.true in
    made_as c.args.from c.args.count c.args.scales.now c.scale_muls.new.scales (λ x. mul_k value (get_or c.args.scales.now x zero_k)) (λ x. add_k (get_or c.args.shifts.now x zero_k) (mul_k value (get_or c.args.scales.now x zero_k)))
    c.scale_muls.ensures
    (λ x u v. sym (zero_add k_ops k_laws (mul_k value (get_or c.args.scales.now x zero_k))) ∙ ap (λ (a : K). add_k a (mul_k value (get_or c.args.scales.now x zero_k))) (sym (none x u v)))

pub returns-then-is_zero-clause-shifts : goal.returns-then-is_zero-clause-shifts
returns-then-is_zero-clause-shifts c =
    let none = c.is_zero.ensures.0 c.if-is_zero.true in
    made_kept c.args.from c.args.count c.args.shifts.now _ (λ x u v. zero_times c.args.value (get_or c.args.shifts.now x zero_k) (none x u v))

pub returns-then-is_zero-2-clause-scales : goal.returns-then-is_zero-2-clause-scales
returns-then-is_zero-2-clause-scales c =
    let value = c.args.value in
    let none = c.is_zero-else-is_zero.ensures.0 c.if-is_zero-2.true in
    made_as c.args.from c.args.count c.args.scales.now c.scale_adds.new.scales (λ x. get_or c.args.shifts.now x zero_k) (λ x. add_k (get_or c.args.shifts.now x zero_k) (mul_k value (get_or c.args.scales.now x zero_k)))
    c.scale_adds.ensures.scales
    (λ x u v. sym (k_laws.add_zero (get_or c.args.shifts.now x zero_k)) ∙ ap (add_k (get_or c.args.shifts.now x zero_k)) (sym (ap (mul_k value) (none x u v) ∙ mul_zero k_ops k_laws value)))
