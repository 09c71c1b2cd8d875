use Rattle.std.proofs.Common.{◌<◌, ◌-◌, ◌*◌, ◌+◌, ◌≡◌, sym, ◌∙◌, arith}
use Rattle.circuit_core.specs.Parts.{height}
use Rattle.circuit_core.specs.Sound.{exponent_at}
use Rattle.gkr_layers.specs.Layers.{layers_below}
use Rattle.audit_core.specs.Audit.{place_in}
use Rattle.audit_core.proofs.Placing.{place_round, place_last, place_more}
use Rattle.audit_core.proofs.place.place_of.Goals as goal

pub returns-then-left-rounds : goal.returns-then-left-rounds
returns-then-left-rounds c =
    let u : c.loop-layer.layer < height c.args.circuit.now.parts = omega (arith, c.loop-layer-test.true, c.height-layer-end.ensures) in
    let w : c.loop-layer.left < 2 * exponent_at c.args.circuit.now.parts (c.loop-layer.layer + 1) = omega (arith, c.if-left-rounds.true, c.coordinates-rounds.ensures.value) in
    sym (c.loop-layer.invariant ∙ place_round c.args.circuit.now.parts c.loop-layer.layer c.loop-layer.left u w)

pub returns-then-left-rounds-2 : goal.returns-then-left-rounds-2
returns-then-left-rounds-2 c =
    let u : c.loop-layer.layer < height c.args.circuit.now.parts = omega (arith, c.loop-layer-test.true, c.height-layer-end.ensures) in
    let w : c.loop-layer.left ≡ 2 * exponent_at c.args.circuit.now.parts (c.loop-layer.layer + 1) = omega (arith, c.if-left-rounds-2.true, c.coordinates-rounds.ensures.value) in
    sym (c.loop-layer.invariant ∙ place_last c.args.circuit.now.parts c.loop-layer.layer c.loop-layer.left u w)

pub loop-layer-preserved : goal.loop-layer-preserved
loop-layer-preserved c =
    let u : c.loop-layer.layer < height c.args.circuit.now.parts = omega (arith, c.loop-layer-test.true, c.height-layer-end.ensures) in
    let w : 2 * exponent_at c.args.circuit.now.parts (c.loop-layer.layer + 1) < c.loop-layer.left = omega (arith, c.if-left-rounds.false, c.if-left-rounds-2.false, c.coordinates-rounds.ensures.value) in
    c.loop-layer.invariant ∙ place_more c.args.circuit.now.parts c.loop-layer.layer c.loop-layer.left u w
    ∙ (λ i. place_in (layers_below c.args.circuit.now.parts (c.loop-layer.layer + 1)) (c.loop-layer.layer + 1) (c.loop-layer.left - (2 * sym c.coordinates-rounds.ensures.value i + 1)))
