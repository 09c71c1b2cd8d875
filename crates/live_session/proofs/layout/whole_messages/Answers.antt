-- One layer more
use Rattle.std.proofs.Common.{◌≡◌, ◌+◌, ◌-◌, ◌*◌, ◌<◌, List, ap, arith}
use Rattle.circuit_core.specs.Parts.{height}
use Rattle.circuit_core.specs.Sound.{exponent_at}
use Rattle.gkr_layers.specs.Layers.{GateLayer, layers_below, lower_exponents}
use Rattle.gkr_layers.proofs.api.Circuits.{below_more}
use Rattle.live_session.specs.Layout.{sizes_of, whole}
use Rattle.live_session.proofs.api.LayoutSteps.{layer_all, layer_part}
use Rattle.live_session.proofs.layout.whole_messages.Goals as goal

pub loop-layer-preserved : goal.loop-layer-preserved
loop-layer-preserved c =
    let p = c.args.circuit.now.parts in
    let i = c.loop-layer.layer in
    let left = c.loop-layer.left in
    let u : c.loop-layer.layer < height c.args.circuit.now.parts = omega (arith, c.loop-layer-test.true, c.height-layer-end.ensures) in
    let below = ap (λ (layers : List GateLayer). whole (sizes_of (lower_exponents layers)) left) (below_more p i u) in
    let all = layer_all (exponent_at p (i + 1)) left (lower_exponents (layers_below p (i + 1))) (omega (arith, c.if-left-k.false, c.coordinates-k.ensures.value)) in
    let e : c.loop-layer.left - (7 * exponent_at c.args.circuit.now.parts (c.loop-layer.layer + 1) + 1) ≡ c.loop-layer.left - (7 * c.coordinates-k.result + 1) = omega (arith, c.coordinates-k.ensures.value) in
    let rest = ap (whole (sizes_of (lower_exponents (layers_below p (i + 1))))) e in
    record {
      few = omega (arith, c.coordinates-k.ensures.most, c.loop-layer.invariant.few);
      counted = omega (arith, c.loop-layer.invariant.counted, below, all, rest, c.coordinates-k.ensures.value);
    }

pub returns-then-left-k : goal.returns-then-left-k
returns-then-left-k c =
    let p = c.args.circuit.now.parts in
    let i = c.loop-layer.layer in
    let left = c.loop-layer.left in
    let u : c.loop-layer.layer < height c.args.circuit.now.parts = omega (arith, c.loop-layer-test.true, c.height-layer-end.ensures) in
    let below = ap (λ (layers : List GateLayer). whole (sizes_of (lower_exponents layers)) left) (below_more p i u) in
    let part = layer_part (exponent_at p (i + 1)) left (lower_exponents (layers_below p (i + 1))) (omega (arith, c.if-left-k.true, c.coordinates-k.ensures.value)) in
    omega (arith, c.loop-layer.invariant.counted, below, part, c.coordinates-k.ensures.value, c.min.ensures)
