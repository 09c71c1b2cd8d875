-- One layer more
use Rattle.std.proofs.Common.{◌≡◌, ℕ, ◌+◌, ◌<◌, List, length, take, drop, get_or, set, ◌∙◌, ap, arith, length-take, length-drop}
use Rattle.std.proofs.lemmas.List.{take_more_set, get_or_default}
use Rattle.proof_wire.specs.declared.messages.LayerMessages.{LayerMessages}
use Rattle.proof_wire.specs.Spelling.{all_coefficients, layer_coefficients}
use Rattle.proof_wire.proofs.api.Cuts.{next_part}
use Rattle.live_session.proofs.api.LayoutSteps.{next_within, replaced_count, replaced_shape}
use Rattle.live_session.proofs.layout.fill.Goals as goal

pub buffer_len-requires : goal.buffer_len-requires
buffer_len-requires c =
    omega (arith, next_within c.loop-layer.layers c.loop-layer.layer-index c.loop-layer.from (length c.args.elements.now) c.replace-buffer.result c.layer-item.result (omega (arith, c.loop-layer-test.true, c.loop-layer.auto.layers)) c.replace-buffer.ensures.value c.loop-layer.invariant.from c.loop-layer.invariant.total)

pub overflow_add-next : goal.overflow_add-next
overflow_add-next c =
    omega (arith, c.buffer_len.ensures, next_within c.loop-layer.layers c.loop-layer.layer-index c.loop-layer.from (length c.args.elements.now) c.replace-buffer.result c.layer-item.result (omega (arith, c.loop-layer-test.true, c.loop-layer.auto.layers)) c.replace-buffer.ensures.value c.loop-layer.invariant.from c.loop-layer.invariant.total)

pub slice_bounds-filled-end : goal.slice_bounds-filled-end
slice_bounds-filled-end c =
    omega (arith, c.buffer_len.ensures, next_within c.loop-layer.layers c.loop-layer.layer-index c.loop-layer.from (length c.args.elements.now) c.replace-buffer.result c.layer-item.result (omega (arith, c.loop-layer-test.true, c.loop-layer.auto.layers)) c.replace-buffer.ensures.value c.loop-layer.invariant.from c.loop-layer.invariant.total)

pub loop-layer-preserved : goal.loop-layer-preserved
loop-layer-preserved c =
    let layers : List LayerMessages = c.loop-layer.layers in
    let i = c.loop-layer.layer-index in
    let from = c.loop-layer.from in
    let size : ℕ = c.buffer_len.result in
    let old : LayerMessages = c.replace-buffer.result in
    let new : LayerMessages = c.filled.result in
    let u : c.loop-layer.layer-index < length c.loop-layer.layers = omega (arith, c.loop-layer-test.true, c.loop-layer.auto.layers) in
    let within = next_within layers i from (length c.args.elements.now) old c.layer-item.result u c.replace-buffer.ensures.value c.loop-layer.invariant.from c.loop-layer.invariant.total in
    let is : c.replace-buffer.result ≡ get_or c.loop-layer.layers c.loop-layer.layer-index c.replace-buffer.result = c.replace-buffer.ensures.value ∙ get_or_default layers i c.layer-item.result old u in
    let part : layer_coefficients c.filled.result ≡ take c.buffer_len.result (drop c.loop-layer.from c.args.elements.now) = c.filled.ensures.filled ∙ ap (λ (n : ℕ). take n (drop from c.args.elements.now)) (omega arith) in
    let same : length (layer_coefficients c.filled.result) ≡ length (layer_coefficients c.replace-buffer.result) =
    omega (arith, ap length part, length-take size (drop from c.args.elements.now), length-drop from c.args.elements.now, within, c.buffer_len.ensures) in
    let grown = take_more_set layers i new u in
    let filled : all_coefficients (take (c.loop-layer.layer-index + 1) (set c.loop-layer.layers c.loop-layer.layer-index c.filled.result)) ≡ take (c.loop-layer.from + c.buffer_len.result) c.args.elements.now =
    ap all_coefficients grown ∙ next_part from size c.args.elements.now (take i layers) new part c.loop-layer.invariant.filled in
    record {
      from = omega (arith, ap length filled, length-take (from + size) c.args.elements.now, within, c.buffer_len.ensures);
      filled = filled;
      total = replaced_count old new same c.filled.ensures.shape layers i is u ∙ c.loop-layer.invariant.total;
      shape = λ ks h. replaced_shape old new same c.filled.ensures.shape ks layers i is (c.loop-layer.invariant.shape ks h);
    }
