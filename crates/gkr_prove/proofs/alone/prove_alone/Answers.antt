-- The coordinates of the output point come first, as in `prove_as`
use Rattle.std.proofs.Common.{◌≡◌, ℕ, ◌++◌, List, IsTrue, length, take, drop, refl, ◌∙◌, ap, sym, subst}
use Rattle.circuit_core.specs.Parts.{Parts, input_table}
use Rattle.circuit_core.specs.Sound.{exponent_at, exponents}
use Rattle.gkr_layers.specs.Layers.{layers_of, message_count}
use Rattle.wiring_poly.proofs.api.Identity.{written_back}
use Rattle.transcript_fs.specs.Source.{Source, point_draws, state_after_point, draws, state_after}
use Rattle.proof_wire.specs.declared.messages.LayerMessages.{LayerMessages}
use Rattle.proof_wire.specs.Lists.{all_messages, HaveShape}
use Rattle.transcript_fs.proofs.api.Draws.{has_front, has_after_point}
use Rattle.gkr_layers.specs.Honest.{AreHonest}
use Rattle.gkr_layers.proofs.api.Shapes.{have_circuit_shape}
use Rattle.gkr_prove.proofs.alone.prove_alone.Goals as goal
use Rattle.gkr_layers.specs.Places.{IsOver}
use Rattle.gkr_layers.specs.Places.Place.{At}

pub draw_point-requires : goal.draw_point-requires
draw_point-requires g c =
    let source : Source = g.C.Challenges.source in
    let s : List ℕ = g.C.Challenges.state c.args.challenges.now in
    let p : Parts = c.args.circuit.now.parts in
    subst (λ (n : ℕ). IsTrue (source.has s n)) (sym (c.deref_mut.ensures.len ∙ c.in_ok-point.ensures.len ∙ c.coordinates.ensures.value)) (has_front source s (exponent_at p 0) (message_count (layers_of p)) c.requires.has)

pub prove_layers_with-requires : goal.prove_layers_with-requires
prove_layers_with-requires g c κs =
    let source : Source = g.C.Challenges.source in
    let s : List ℕ = g.C.Challenges.state c.args.challenges.now in
    let p : Parts = c.args.circuit.now.parts in
    let count : length c.deref_mut.result.now ≡ exponent_at c.args.circuit.now.parts 0 = c.deref_mut.ensures.len ∙ c.in_ok-point.ensures.len ∙ c.coordinates.ensures.value in
    let after = c.draw_point.ensures.state ∙ ap (state_after_point source s) count in (
      (refl, tt),
      (
        tt,
        record {
          values_are = c.requires.values;
          position = subst (IsOver (exponent_at c.args.circuit.now.parts 0)) (sym c.at-place.ensures)
              (ap length (written_back c.in_ok-point.point.items c.draw_point.new.point c.in_ok-point.point.len (c.draw_point.auto.point ∙ c.deref_mut.ensures.len)) ∙ c.draw_point.auto.point ∙ count);
          has = subst (λ (t : List ℕ). IsTrue (source.has t (message_count (layers_of p)))) (sym after) (has_after_point source s (exponent_at p 0) (message_count (layers_of p)) c.requires.has);
        },
      ),
    )

pub returns-clause-honest : goal.returns-clause-honest
returns-clause-honest g c inputs tables =
    let source : Source = g.C.Challenges.source in
    let s : List ℕ = g.C.Challenges.state c.args.challenges.now in
    let p : Parts = c.args.circuit.now.parts in
    let count : length c.deref_mut.result.now ≡ exponent_at c.args.circuit.now.parts 0 = c.deref_mut.ensures.len ∙ c.in_ok-point.ensures.len ∙ c.coordinates.ensures.value in
    let after : g.C.Challenges.state c.draw_point.new.challenges ≡ state_after_point source s (exponent_at p 0) = c.draw_point.ensures.state ∙ ap (state_after_point source s) count in
    let z : take c.in_ok-point.point.len (c.draw_point.new.point ++ drop (length c.draw_point.new.point) c.in_ok-point.point.items) ≡ point_draws source s (exponent_at p 0) =
    written_back c.in_ok-point.point.items c.draw_point.new.point c.in_ok-point.point.len (c.draw_point.auto.point ∙ c.deref_mut.ensures.len) ∙ c.draw_point.ensures.point ∙ ap (point_draws source s) count in
    coe 0 1 (j. AreHonest c.args.form (layers_of p) (input_table p inputs) ((c.at-place.ensures ∙ ap At z) j) (all_messages (sym c.of.ensures j)) (draws source (after j) (all_messages (sym c.of.ensures j)))) (c.in_ok-layers.ensures.honest inputs tables)

pub returns-clause-shape : goal.returns-clause-shape
returns-clause-shape g c =
    let p : Parts = c.args.circuit.now.parts in
    subst (λ (layers : List LayerMessages). HaveShape c.args.form (drop 1 (exponents p)) layers) (sym c.of.ensures) (have_circuit_shape c.args.form p c.in_ok-layers.layers.items c.in_ok-layers.ensures.shape)

pub returns-clause-state : goal.returns-clause-state
returns-clause-state g c =
    let source : Source = g.C.Challenges.source in
    let s : List ℕ = g.C.Challenges.state c.args.challenges.now in
    let count = c.deref_mut.ensures.len ∙ c.in_ok-point.ensures.len ∙ c.coordinates.ensures.value in
    c.in_ok-layers.ensures.state
    ∙ (λ j. state_after source ((c.draw_point.ensures.state ∙ ap (state_after_point source s) count) j) (all_messages (sym c.of.ensures j)))
