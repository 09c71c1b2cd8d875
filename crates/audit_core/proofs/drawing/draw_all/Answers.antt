-- The coordinates come first, and then one layer after another
use Rattle.std.proofs.Common.{◌≡◌, ℕ, ◌++◌, List, length, take, IsTrue, sym, ◌∙◌, ap, subst, append_assoc, append-nil}
use Rattle.std.proofs.lemmas.List.{take_all}
use Rattle.field_ext.specs.Field.{K}
use Rattle.circuit_core.specs.Sound.{exponent_at}
use Rattle.wiring_poly.proofs.api.Identity.{written_back}
use Rattle.transcript_fs.specs.Source.{Source, point_draws, state_after_point, draws, all_draws, state_after}
use Rattle.transcript_fs.proofs.api.Draws.{has_front, has_after_point}
use Rattle.proof_wire.specs.declared.messages.LayerMessages.{LayerMessages}
use Rattle.proof_wire.specs.Lists.{messages_of, all_messages}
use Rattle.audit_core.proofs.DrawSteps.{layer-drawn, layer-state, has_layer_here}
use Rattle.audit_core.proofs.drawing.draw_all.Goals as goal

pub draw_point-requires : goal.draw_point-requires
draw_point-requires g c =
    let source : Source = g.C.Challenges.source in
    let s : List ℕ = g.C.Challenges.state c.args.challenges.now in
    subst (λ (n : ℕ). IsTrue (source.has s n)) (sym (c.deref_mut.ensures.len ∙ c.in_ok-drawn.ensures.len ∙ c.coordinates.ensures.value)) (has_front source s (exponent_at c.args.circuit.now.parts 0) (length (all_messages c.args.messages.now)) c.requires)

pub draw_layer-requires : goal.draw_layer-requires
draw_layer-requires g c =
    let source : Source = g.C.Challenges.source in
    let s : List ℕ = g.C.Challenges.state c.args.challenges.now in
    let k : ℕ = exponent_at c.args.circuit.now.parts 0 in
    let ms : List LayerMessages = c.args.messages.now in
    let m : LayerMessages = c.layer-item.result in
    subst (λ (t : List ℕ). IsTrue (source.has t (length (messages_of m)))) (sym c.loop-layer.invariant.state)
    (has_layer_here source (state_after_point source s k) ms c.loop-layer.layer-index m c.loop-layer-test.true c.layer-item.is (has_after_point source s k (length (all_messages ms)) c.requires))

pub loop-layer-init : goal.loop-layer-init
loop-layer-init g c =
    let source : Source = g.C.Challenges.source in
    let s : List ℕ = g.C.Challenges.state c.args.challenges.now in
    let k : ℕ = exponent_at c.args.circuit.now.parts 0 in
    let count : length c.deref_mut.result.now ≡ exponent_at c.args.circuit.now.parts 0 = c.deref_mut.ensures.len ∙ c.in_ok-drawn.ensures.len ∙ c.coordinates.ensures.value in
    record {
      drawn = written_back c.in_ok-drawn.drawn.items c.draw_point.new.point c.in_ok-drawn.drawn.len (c.draw_point.auto.point ∙ c.deref_mut.ensures.len) ∙ c.draw_point.ensures.point ∙ ap (point_draws source s) count ∙ sym (append-nil (point_draws source s k));
      state = c.draw_point.ensures.state ∙ ap (state_after_point source s) count;
    }

pub loop-layer-preserved : goal.loop-layer-preserved
loop-layer-preserved g c =
    let source : Source = g.C.Challenges.source in
    let s : List ℕ = g.C.Challenges.state c.args.challenges.now in
    let k : ℕ = exponent_at c.args.circuit.now.parts 0 in
    let behind : List ℕ = state_after_point source s k in
    let ms : List LayerMessages = c.args.messages.now in
    let i = c.loop-layer.layer-index in
    let m : LayerMessages = c.layer-item.result in
    let inv = c.loop-layer.invariant in
    let drawn : c.draw_layer.new.drawn.items ≡ c.loop-layer.drawn.items ++ draws source (g.C.Challenges.state c.loop-layer.challenges) (messages_of m) = c.in_ok-draw_layer.ensures.drawn in
    let state : g.C.Challenges.state c.draw_layer.new.challenges ≡ state_after source (g.C.Challenges.state c.loop-layer.challenges) (messages_of m) = c.in_ok-draw_layer.ensures.state in
    record {
      drawn =
          drawn
          ∙ (λ j. inv.drawn j ++ draws source (inv.state j) (messages_of m))
          ∙ append_assoc (point_draws source s k) (draws source behind (all_messages (take i ms))) (draws source (state_after source behind (all_messages (take i ms))) (messages_of m))
          ∙ ap (λ (rs : List K). point_draws source s k ++ rs) (layer-drawn source behind ms i m c.loop-layer-test.true c.layer-item.is);
      state = state ∙ ap (λ (t : List ℕ). state_after source t (messages_of m)) inv.state ∙ layer-state source behind ms i m c.loop-layer-test.true c.layer-item.is;
    }

pub returns-clause-drawn : goal.returns-clause-drawn
returns-clause-drawn g c =
    let source : Source = g.C.Challenges.source in
    let s : List ℕ = g.C.Challenges.state c.args.challenges.now in
    let k : ℕ = exponent_at c.args.circuit.now.parts 0 in
    c.loop-layer.invariant.drawn ∙ ap (λ (ms : List LayerMessages). all_draws source s k (all_messages ms)) (take_all c.loop-layer.layer-index c.args.messages.now c.loop-layer-test.false)

pub returns-clause-state : goal.returns-clause-state
returns-clause-state g c =
    let source : Source = g.C.Challenges.source in
    let s : List ℕ = g.C.Challenges.state c.args.challenges.now in
    let k : ℕ = exponent_at c.args.circuit.now.parts 0 in
    c.loop-layer.invariant.state ∙ ap (λ (ms : List LayerMessages). state_after source (state_after_point source s k) (all_messages ms)) (take_all c.loop-layer.layer-index c.args.messages.now c.loop-layer-test.false)
