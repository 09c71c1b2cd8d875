use Rattle.std.proofs.Common.{◌≡◌, ◌<◌, length, ◌*◌, ◌+◌, ◌-◌, ◌∙◌, arith, ap, sym, subst, take, drop}
use Rattle.proof_wire.specs.Spelling.{all_coefficients, layer_coefficients}
use Rattle.proof_wire.specs.Lists.{HaveShape}
use Rattle.proof_wire.proofs.api.Cuts.{next_count, next_within, next_shape, next_part}
use Rattle.proof_wire.proofs.cutting.cut.Goals as goal

pub slice_bounds-cut_layer-end : goal.slice_bounds-cut_layer-end
slice_bounds-cut_layer-end c =
    let within = next_within c.args.form c.args.shape.now.ks c.loop-layer.layer c.k-k.result c.loop-layer.from (length c.args.elements.now) (omega (arith, c.loop-layer-test.true)) c.k-k.ensures c.loop-layer.invariant.0 c.requires in
    omega (arith, within, c.last_degree.ensures.value)

pub loop-layer-preserved : goal.loop-layer-preserved
loop-layer-preserved c =
    let ks = c.args.shape.now.ks in
    let j = c.loop-layer.layer in
    let k = c.k-k.result in
    let from = c.loop-layer.from in
    let here = c.loop-layer.invariant in
    let h : j < length ks - 1 = omega (arith, c.loop-layer-test.true) in
    let grown = c.in_ok-push.ensures.items in
    let cut_here : layer_coefficients c.in_ok-cut_layer.field-0 ≡ take (6 * k + (c.last_degree.result + 1)) (drop from c.args.elements.now) =
    c.in_ok-cut_layer.ensures.all ∙ ap (λ n. take n (drop from c.args.elements.now)) (omega arith) in (
      ap (λ n. from + (6 * k + (n + 1))) c.last_degree.ensures.value ∙ next_count c.args.form ks j k from h c.k-k.ensures here.0,
      ap all_coefficients grown ∙ next_part from (6 * k + (c.last_degree.result + 1)) c.args.elements.now c.loop-layer.layers.items c.in_ok-cut_layer.field-0 cut_here here.1,
      subst (HaveShape c.args.form (take (j + 1) (drop 1 ks))) (sym grown) (next_shape c.args.form ks j k c.loop-layer.layers.items c.in_ok-cut_layer.field-0 h c.k-k.ensures c.in_ok-cut_layer.ensures.shape here.2),
    )
