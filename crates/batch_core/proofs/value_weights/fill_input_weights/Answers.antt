use Rattle.std.proofs.Common.{◌≡◌, ℕ, ◌+◌, ◌^◌, ◌≤◌, ◌<◌, List, map, length, get_or, sym, ◌∙◌, ap, ap₂, arith}
use Rattle.std.proofs.lemmas.List.{get_or-map, length-map}
use Rattle.field_ext.specs.Field.{F, K, k_ops, zero_k, add_k, mul_k, embed_k}
use Rattle.field_ext.specs.Sums.{sum_below}
use Rattle.field_ext.specs.Multilinear.{eq_poly}
use Rattle.field_ext.proofs.api.KLaws.{k_laws}
use Rattle.mle_table.proofs.api.EqualitySteps.{pow_up}
use Rattle.circuit_core.specs.Parts.{leaf_value, zero_f}
use Rattle.batch_core.specs.ListedInstances.{weighted_sum}
use Rattle.batch_core.proofs.WeightedSums.{sum_below-more, weights-zero, padded_extension}
use Rattle.batch_core.proofs.value_weights.fill_input_weights.Goals as goal

pub loop-i-init : goal.loop-i-init
loop-i-init c inputs s = ap₂ add_k c.zero-constants.ensures (weights-zero c.clear.new.weights inputs c.clear.ensures) ∙ k_laws.add_zero zero_k

pub value-requires : goal.value-requires
value-requires c =
    let most : 2 ^ length c.args.point.now ≤ 1048576 = pow_up (length c.args.point.now) 20 c.requires.few in
    omega (arith, most, c.loop-i-test.true, c.requires.fits)

pub loop-i-preserved : goal.loop-i-preserved
loop-i-preserved c inputs s =
    let point = c.args.point.now in
    let leaves = c.args.leaves.now in
    let i = c.loop-i.i in
    let before : length inputs ≡ length c.loop-i.weights = omega (arith, s, c.add_leaf-share.auto.weights) in
    let inside : c.loop-i.i + 1 < 2 ^ length c.args.point.now = omega (arith, c.loop-i-test.true, c.requires.fits) in
    let read : leaf_value inputs c.index-leaves-i.result ≡ get_or (map (leaf_value inputs) c.args.leaves.now) c.loop-i.i zero_f =
    ap (leaf_value inputs) c.index-leaves-i.is ∙ sym (get_or-map (leaf_value inputs) leaves i c.index-leaves-i.result zero_f c.loop-i-test.true) in
    sum_below-more k_ops k_laws i (λ g. mul_k (embed_k (get_or (map (leaf_value inputs) leaves) g zero_f)) (eq_poly k_ops point (g + 1)))
    (add_k c.loop-i.constants (weighted_sum c.loop-i.weights inputs)) (add_k c.add-constants.result (weighted_sum c.add_leaf-share.new.weights inputs))
    (ap (λ (x : K). add_k x (weighted_sum c.add_leaf-share.new.weights inputs)) c.add-constants.ensures
    ∙ k_laws.add_assoc c.loop-i.constants c.add_leaf-share.result (weighted_sum c.add_leaf-share.new.weights inputs)
    ∙ ap (add_k c.loop-i.constants) (c.add_leaf-share.ensures inputs before)
    ∙ sym (k_laws.add_assoc c.loop-i.constants (weighted_sum c.loop-i.weights inputs) (mul_k (embed_k (leaf_value inputs c.index-leaves-i.result)) c.value.result))
    ∙ ap₂ (λ (x : F) (y : K). add_k (add_k c.loop-i.constants (weighted_sum c.loop-i.weights inputs)) (mul_k (embed_k x) y)) read (c.value.ensures point c.at-equality.ensures inside))
    (c.loop-i.invariant inputs before)

pub returns : goal.returns
returns c inputs s =
    let point = c.args.point.now in
    let values : List F = map (leaf_value inputs) c.args.leaves.now in
    let same : length inputs ≡ length c.loop-i.weights = omega (arith, s, c.loop-i.auto.weights) in
    let size : length (map (leaf_value inputs) c.args.leaves.now) ≡ length c.args.leaves.now = length-map c.args.leaves.now (leaf_value inputs) in
    let end : c.loop-i.i ≡ length (map (leaf_value inputs) c.args.leaves.now) = omega (arith, size, c.loop-i-test.false, c.loop-i.auto.i-end) in
    let few : length (map (leaf_value inputs) c.args.leaves.now) < 2 ^ length c.args.point.now = omega (arith, size, c.requires.fits) in
    c.loop-i.invariant inputs same
    ∙ ap (λ (n : ℕ). sum_below k_ops n (λ g. mul_k (embed_k (get_or (map (leaf_value inputs) c.args.leaves.now) g zero_f)) (eq_poly k_ops c.args.point.now (g + 1)))) end
    ∙ sym (padded_extension (2 ^ length point) values point few)
