use Rattle.std.proofs.Common.{◌≡◌, ℕ, List, ◌+◌, ◌-◌, ◌*◌, ◌^◌, ◌<◌, ◌≤◌, ◌/◌, length, map, get_or, min, arith, ◌∙◌, ap, sym, subst}
use Rattle.std.proofs.lemmas.Grind.{div_ceil_times}
use Rattle.std.proofs.lemmas.List.{get_or-map, length-map}
use Rattle.field_ext.specs.Field.{F, K, k_ops, add_k, mul_k, embed_k, zero_k}
use Rattle.field_ext.specs.Sums.{sum_below}
use Rattle.field_ext.specs.Multilinear.{eq_poly}
use Rattle.field_ext.proofs.api.KLaws.{k_laws}
use Rattle.mle_table.proofs.api.EqualitySteps.{pow_up}
use Rattle.circuit_core.specs.declared.gate.Leaf.{Leaf}
use Rattle.circuit_core.specs.Parts.{leaf_value, zero_f}
use Rattle.gkr_verify.specs.Blocks.{with_factors}
use Rattle.gkr_verify.proofs.TableSteps.{table, IsSumTo, sum_begun, sum_more, sum_all}
use Rattle.gkr_verify.proofs.BothSteps.{few_blocks, both_weight, sum_below-both}
use Rattle.gkr_verify.proofs.both.leaves_at_both.Goals as goal

pub loop-block-init : goal.loop-block-init
loop-block-init c =
    let values : List F = map (leaf_value c.args.inputs.now) c.args.leaves.now in
    let weight : ℕ → K = both_weight c.args.first.now c.args.second.now c.args.weight in
    let start : 0 ≡ min (length c.args.leaves.now) (1024 * 0 - 1) = omega arith in
    subst (λ (n : ℕ). IsSumTo (2 ^ length c.args.first.now) values weight (n + 1) c.zero-sum.result) start
    (sum_begun (2 ^ length c.args.first.now) values weight c.zero-sum.result c.zero-sum.ensures)

pub loop-i-init : goal.loop-i-init
loop-i-init c =
    let bound : c.div_ceil-block-end.result * 1024 < length c.args.leaves.now + 1 + 1024 =
    subst (λ (n : ℕ). n * 1024 < length c.args.leaves.now + 1 + 1024) (sym c.div_ceil-block-end.ensures) (div_ceil_times (length c.args.leaves.now + 1) 1024 (omega arith)).1 in
    let here : min (length c.args.leaves.now) (1024 * c.loop-block.block - 1) ≡ c.saturating_sub-i.result =
    omega (arith, bound, c.loop-block-test.true, c.saturating_sub-i.ensures) in
    let same : c.loop-block.sum ≡ add_k c.loop-block.sum (with_factors c.at-both.result c.loop-block.block c.none-shares.result) =
    sym (ap (add_k c.loop-block.sum) (c.none-shares.ensures c.at-both.result c.loop-block.block) ∙ k_laws.add_zero c.loop-block.sum) in
    sym same ∙ c.loop-block.invariant ∙ (λ i. sum_below k_ops (here i + 1) (λ g. mul_k (get_or (table (2 ^ length c.args.first.now) (map (leaf_value c.args.inputs.now) c.args.leaves.now)) g zero_k)
    (both_weight c.args.first.now c.args.second.now c.args.weight g)))

pub shares-requires : goal.shares-requires
shares-requires c =
    let most : 2 ^ length c.args.first.now ≤ 1048576 = pow_up (length c.args.first.now) 20 c.requires.few in
    omega (arith, most, c.loop-i-test.true, c.min-i-end.ensures, c.requires.fits)

pub loop-i-preserved : goal.loop-i-preserved
loop-i-preserved c =
    let both = c.at-both.result in
    let first = c.args.first.now in
    let second = c.args.second.now in
    let a = c.args.weight in
    let leaves = c.args.leaves.now in
    let value : Leaf → F = leaf_value c.args.inputs.now in
    let block = c.loop-block.block in
    let i = c.loop-i.i in
    let u : c.loop-i.i < length c.args.leaves.now = omega (arith, c.loop-i-test.true, c.min-i-end.ensures) in
    let here : c.loop-i.i + 1 < 2 ^ length c.args.first.now = omega (arith, u, c.requires.fits) in
    let also : c.loop-i.i + 1 < 2 ^ length c.args.second.now = omega (arith, here, ap (λ (n : ℕ). 2 ^ n) c.requires.second) in
    let within : (c.loop-i.i + 1) / 1024 ≡ c.loop-block.block = omega (arith, c.loop-i.auto.i, c.saturating_sub-i.ensures, c.loop-i-test.true, c.min-i-end.ensures) in
    let read = c.embed-value.ensures ∙ ap embed_k (c.leaf_value.ensures ∙ ap value c.index-leaves-i.is ∙ sym (get_or-map value leaves i c.index-leaves-i.result zero_f u)) in
    let shared : with_factors both block c.shares.result ≡ mul_k (embed_k (get_or (map value leaves) i zero_f)) (both_weight first second a (i + 1)) =
    (λ j. with_factors both (sym within j) c.shares.result)
    ∙ c.shares.ensures first second a c.at-both.ensures here also
    ∙ ap (mul_k (both_weight first second a (i + 1))) read
    ∙ k_laws.mul_comm (both_weight first second a (i + 1)) (embed_k (get_or (map value leaves) i zero_f)) in
    sum_more (2 ^ length first) (map value leaves) (both_weight first second a) i
    (add_k c.loop-block.sum (with_factors both block c.loop-i.shares)) (add_k c.loop-block.sum (with_factors both block c.with-shares.result))
    (ap (add_k c.loop-block.sum) (c.with-shares.ensures both block ∙ ap (add_k (with_factors both block c.loop-i.shares)) shared)
    ∙ sym (k_laws.add_assoc c.loop-block.sum (with_factors both block c.loop-i.shares) (mul_k (embed_k (get_or (map value leaves) i zero_f)) (both_weight first second a (i + 1)))))
    c.loop-i.invariant

pub with_factors-requires : goal.with_factors-requires
with_factors-requires c =
    let bound : c.div_ceil-block-end.result * 1024 < length c.args.leaves.now + 1 + 1024 =
    subst (λ (n : ℕ). n * 1024 < length c.args.leaves.now + 1 + 1024) (sym c.div_ceil-block-end.ensures) (div_ceil_times (length c.args.leaves.now + 1) 1024 (omega arith)).1 in
    few_blocks c.loop-block.block c.div_ceil-block-end.result (length c.args.leaves.now + 1) (length c.args.first.now) c.loop-block-test.true bound (omega (arith, c.requires.fits)) c.requires.few

pub loop-block-preserved : goal.loop-block-preserved
loop-block-preserved c =
    let bound : c.div_ceil-block-end.result * 1024 < length c.args.leaves.now + 1 + 1024 =
    subst (λ (n : ℕ). n * 1024 < length c.args.leaves.now + 1 + 1024) (sym c.div_ceil-block-end.ensures) (div_ceil_times (length c.args.leaves.now + 1) 1024 (omega arith)).1 in
    let some : c.saturating_sub-i.result ≤ c.min-i-end.result = omega (arith, bound, c.loop-block-test.true, c.min-i-end.ensures, c.saturating_sub-i.ensures) in
    let end : c.loop-i.i ≡ min (length c.args.leaves.now) (1024 * (c.loop-block.block + 1) - 1) =
    omega (arith, c.loop-i.auto.i-end some, c.loop-i-test.false, c.min-i-end.ensures) in
    c.add-sum.ensures ∙ ap (add_k c.loop-block.sum) c.with_factors.ensures ∙ c.loop-i.invariant
    ∙ (λ i. sum_below k_ops (end i + 1) (λ g. mul_k (get_or (table (2 ^ length c.args.first.now) (map (leaf_value c.args.inputs.now) c.args.leaves.now)) g zero_k)
    (both_weight c.args.first.now c.args.second.now c.args.weight g)))

pub returns : goal.returns
returns c =
    let first = c.args.first.now in
    let second = c.args.second.now in
    let a = c.args.weight in
    let values : List F = map (leaf_value c.args.inputs.now) c.args.leaves.now in
    let width : ℕ = 2 ^ length first in
    let size = length-map c.args.leaves.now (leaf_value c.args.inputs.now) in
    let bound : length c.args.leaves.now + 1 ≤ c.div_ceil-block-end.result * 1024 =
    subst (λ (n : ℕ). length c.args.leaves.now + 1 ≤ n * 1024) (sym c.div_ceil-block-end.ensures) (div_ceil_times (length c.args.leaves.now + 1) 1024 (omega arith)).0 in
    let end : ℕ = min (length c.args.leaves.now) (1024 * c.loop-block.block - 1) in
    let last : length c.args.leaves.now ≤ min (length c.args.leaves.now) (1024 * c.loop-block.block - 1) = omega (arith, bound, c.loop-block-test.false) in
    let all : min (length c.args.leaves.now) (1024 * c.loop-block.block - 1) + 1 ≤ 2 ^ length c.args.first.now = omega (arith, c.requires.fits) in
    let at : ℕ → K = λ g. get_or (table width values) g zero_k in
    sum_all width values (both_weight first second a) end width c.loop-block.sum (omega (arith, size, last)) all c.loop-block.invariant
    ∙ sum_below-both k_ops k_laws width at (eq_poly k_ops first) (eq_poly k_ops second) a
    ∙ (λ i. add_k (sum_below k_ops width (λ g. mul_k (at g) (eq_poly k_ops first g)))
    (mul_k a (sum_below k_ops (2 ^ sym c.requires.second i) (λ g. mul_k (at g) (eq_poly k_ops second g)))))
