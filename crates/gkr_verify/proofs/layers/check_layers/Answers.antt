use Rattle.std.proofs.Common.{◌≡◌, ℕ, ◌+◌, List, [], ◌∷◌, take, drop, arith, sym, ◌∙◌, ap, subst, rules}
use Rattle.field_ext.specs.Field.{K, k_ops}
use Rattle.circuit_core.specs.Parts.{height, input_table}
use Rattle.circuit_core.specs.Sound.{exponent_at}
use Rattle.proof_wire.specs.Lists.{all_messages}
use Rattle.gkr_layers.specs.Places.{Place, IsOver, value_over}
use Rattle.gkr_layers.specs.Places.Place.{At}
use Rattle.gkr_layers.specs.ClaimPlace.{place_of}
use Rattle.gkr_layers.specs.Layers.{layers_below}
use Rattle.gkr_layers.specs.Equations.{input_equation, first_failure}
use Rattle.gkr_verify.specs.Kept.{kept_place}
use Rattle.gkr_verify.proofs.DownSteps.{down_has, down_stops, down_holds, down_ends, over_kept}
use Rattle.gkr_verify.proofs.layers.check_layers.Goals as goal

pub check_kept-requires-clause-has : goal.check_kept-requires-clause-has
check_kept-requires-clause-has g c =
    let circuit = c.args.circuit.now in
    let p = circuit.parts in
    let at = c.loop-layer in
    let place0 : Place K = At (take (exponent_at p 0) c.args.kept.now) in
    let place : Place K = kept_place at.at (exponent_at p at.layer) at.claim.challenge at.kept in
    down_has c.args.form g.C.Challenges.source p (input_table p c.args.inputs.now) (g.C.Challenges.state c.args.challenges.now) place0 c.args.claim c.args.messages.now at.layer (g.C.Challenges.state at.challenges) place at.claim.value at.invariant c.requires.layers
    c.index-messages-layer.result c.loop-layer-test.true c.index-messages-layer.is

pub returns-in-Err : goal.returns-in-Err
returns-in-Err g c =
    let circuit = c.args.circuit.now in
    let p = circuit.parts in
    let at = c.loop-layer in
    let input : List K = input_table p c.args.inputs.now in
    let place0 : Place K = At (take (exponent_at p 0) c.args.kept.now) in
    let place : Place K = kept_place at.at (exponent_at p at.layer) at.claim.challenge at.kept in
    sym (down_stops c.args.form g.C.Challenges.source p input (g.C.Challenges.state c.args.challenges.now) place0 c.args.claim c.args.messages.now at.layer (g.C.Challenges.state at.challenges) place at.claim.value at.invariant c.requires.layers
    c.index-messages-layer.result c.loop-layer-test.true c.index-messages-layer.is
    _ (c.in-Err.ensures.fails (layers_below p (at.layer + 1)) input (all_messages (drop (at.layer + 1) c.args.messages.now))))

pub loop-layer-preserved : goal.loop-layer-preserved
loop-layer-preserved g c =
    let circuit = c.args.circuit.now in
    let p = circuit.parts in
    let at = c.loop-layer in
    let input : List K = input_table p c.args.inputs.now in
    let place0 : Place K = At (take (exponent_at p 0) c.args.kept.now) in
    let place : Place K = kept_place at.at (exponent_at p at.layer) at.claim.challenge at.kept in
    down_holds c.args.form g.C.Challenges.source p input (g.C.Challenges.state c.args.challenges.now) place0 c.args.claim c.args.messages.now at.layer (g.C.Challenges.state at.challenges) place at.claim.value at.invariant c.requires.layers
    c.index-messages-layer.result c.loop-layer-test.true c.index-messages-layer.is
    (g.C.Challenges.state c.check_kept.new.challenges) (kept_place c.args.form (exponent_at p (at.layer + 1)) c.in-Ok.below.challenge c.check_kept.new.kept) c.in-Ok.below.value
    c.in-Ok.ensures.state (c.in-Ok.ensures.holds (layers_below p (at.layer + 1)) input (all_messages (drop (at.layer + 1) c.args.messages.now)))

pub check_inputs-requires-clause-place : goal.check_inputs-requires-clause-place
check_inputs-requires-clause-place g c =
    let at = c.loop-layer in
    let p = c.args.circuit.now.parts in
    let size : c.coordinates-k.result ≡ exponent_at p (height p) = c.coordinates-k.ensures.value ∙ ap (exponent_at p) c.height.ensures in
    subst (IsOver (exponent_at p (height p))) (sym c.place_kept-place.ensures)
    (subst (λ (k : ℕ). IsOver k (kept_place at.at c.coordinates-k.result at.claim.challenge at.kept)) size
    (over_kept at.at c.coordinates-k.result at.claim.challenge at.kept (omega (arith, c.coordinates-k.ensures.most, at.auto.kept, c.requires.kept))))

pub returns : goal.returns
returns g c =
    let circuit = c.args.circuit.now in
    let p = circuit.parts in
    let at = c.loop-layer in
    let s : List ℕ = g.C.Challenges.state at.challenges in
    let input : List K = input_table p c.args.inputs.now in
    let place0 : Place K = At (take (exponent_at p 0) c.args.kept.now) in
    let place : Place K = kept_place at.at (exponent_at p at.layer) at.claim.challenge at.kept in
    let last : height p ≡ at.layer = omega (arith, c.loop-layer-test.false, at.auto.layer-end, c.requires.layers) in
    let size : c.coordinates-k.result ≡ exponent_at p at.layer = c.coordinates-k.ensures.value ∙ ap (exponent_at p) (c.height.ensures ∙ last) in
    let there : place_of c.place_kept-place.result ≡ place = c.place_kept-place.ensures ∙ (λ i. kept_place at.at (size i) at.claim.challenge at.kept) in
    (λ i. record { verdict = (c.check_inputs.ensures ∙ (λ j. first_failure (input_equation at.claim.value (value_over k_ops input (there j)) ∷ []))) i; state = s })
    ∙ sym (down_ends c.args.form g.C.Challenges.source p input (g.C.Challenges.state c.args.challenges.now) place0 c.args.claim c.args.messages.now at.layer s place at.claim.value at.invariant c.requires.layers c.loop-layer-test.false)

pub loop-layer-init : goal.loop-layer-init
loop-layer-init g c = search rules

pub offset_bounds-messages-layer : goal.offset_bounds-messages-layer
offset_bounds-messages-layer g c = search rules

pub bounds-messages-layer : goal.bounds-messages-layer
bounds-messages-layer g c = search rules

pub offset_bounds-wirings-layer : goal.offset_bounds-wirings-layer
offset_bounds-wirings-layer g c = search rules

pub bounds-wirings-layer : goal.bounds-wirings-layer
bounds-wirings-layer g c = search rules

pub check_kept-requires-clause-layer : goal.check_kept-requires-clause-layer
check_kept-requires-clause-layer g c = search rules

pub check_kept-requires-clause-kept : goal.check_kept-requires-clause-kept
check_kept-requires-clause-kept g c = search rules

pub check_kept-requires-clause-drawn : goal.check_kept-requires-clause-drawn
check_kept-requires-clause-drawn g c = search rules

pub coordinates-k-requires : goal.coordinates-k-requires
coordinates-k-requires g c = search rules

pub place_kept-place-requires : goal.place_kept-place-requires
place_kept-place-requires g c = search rules

pub check_inputs-requires-clause-inputs : goal.check_inputs-requires-clause-inputs
check_inputs-requires-clause-inputs g c = search rules
