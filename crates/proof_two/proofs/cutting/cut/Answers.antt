use Rattle.std.proofs.Common.{◌≡◌, ◌<◌, length, ◌*◌, ◌+◌, ◌-◌, ◌∙◌, arith, ap, sym, subst, take, drop}
use Rattle.proof_two.specs.Spelling.{all_elements, layer_elements}
use Rattle.proof_two.specs.Lists.{HavePairs}
use Rattle.proof_two.proofs.Cuts.{next_count, next_within, next_shape, next_part}
use Rattle.proof_two.proofs.cutting.cut.Goals as goal

pub slice_bounds-cut_layer-end : goal.slice_bounds-cut_layer-end
slice_bounds-cut_layer-end c =
    let within = next_within c.args.shape.now.ks c.loop-layer.layer c.k-k.result c.loop-layer.from (length c.args.elements.now) (omega (arith, c.loop-layer-test.true)) c.k-k.ensures c.loop-layer.invariant.0 c.requires in
    omega (arith, within)

pub loop-layer-preserved : goal.loop-layer-preserved
loop-layer-preserved c =
    let ks = c.args.shape.now.ks in
    let j = c.loop-layer.layer in
    let k = c.k-k.result in
    let from = c.loop-layer.from in
    let here = c.loop-layer.invariant in
    let h : j < length ks - 1 = omega (arith, c.loop-layer-test.true) in
    let grown = c.in_ok-push.ensures.items in
    let cut_here : layer_elements c.in_ok-cut_layer.field-0 ≡ take (4 * k + (k + 1)) (drop from c.args.elements.now) =
    c.in_ok-cut_layer.ensures.all ∙ ap (λ n. take n (drop from c.args.elements.now)) (omega arith) in (
      next_count ks j k from h c.k-k.ensures here.0,
      ap all_elements grown ∙ next_part from (4 * k + (k + 1)) c.args.elements.now c.loop-layer.layers.items c.in_ok-cut_layer.field-0 cut_here here.1,
      subst (HavePairs (take (j + 1) (drop 1 ks))) (sym grown) (next_shape ks j k c.loop-layer.layers.items c.in_ok-cut_layer.field-0 h c.k-k.ensures c.in_ok-cut_layer.ensures.shape here.2),
    )
