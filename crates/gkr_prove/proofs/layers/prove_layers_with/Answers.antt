-- One layer more
use Rattle.std.proofs.Common.{rules, ◌≡◌, ℕ, ◌+◌, ◌<◌, ◌≤◌, ◌++◌, List, [], ◌∷◌, IsTrue, length, get_or, arith, refl, ◌∙◌, ap, sym, subst, append-nil, append_assoc}
use Rattle.field_ext.specs.Field.{F, K, k_ops}
use Rattle.circuit_core.specs.Parts.{Parts, height, input_table}
use Rattle.circuit_core.specs.Sound.{exponent_at}
use Rattle.mle_table.specs.Shape.{TableValues}
use Rattle.gkr_layers.specs.Layers.{GateLayer, layers_of, lower_exponents, message_count, layers_below, layer_at, next_place}
use Rattle.transcript_fs.specs.Source.{Source, draws, state_after}
use Rattle.proof_wire.specs.declared.messages.LayerMessages.{LayerMessages}
use Rattle.proof_wire.specs.Lists.{messages_of, all_messages, HasShape, HaveShape}
use Rattle.transcript_fs.proofs.api.Draws.{length-draws, state-append}
use Rattle.gkr_layers.proofs.api.Circuits.{below_more, below_none}
use Rattle.gkr_layers.proofs.api.Shapes.{length-messages, has_layer, has_below}
use Rattle.gkr_layers.specs.Honest.{AreHonest, IsHonestLayer}
use Rattle.gkr_prove.proofs.HasSteps.{has_here}
use Rattle.gkr_prove.proofs.api.LayerSteps.{messages-more, table_values, layers_more, over-next}
use Rattle.gkr_prove.proofs.api.TableShapes.{table_exponent, is_layer, few_gates, shape_more}
use Rattle.gkr_prove.proofs.layers.prove_layers_with.Goals as goal
use Rattle.gkr_layers.specs.Places.{Place, IsOver}
use Rattle.gkr_layers.specs.ClaimPlace.{place_of}
use Rattle.gkr_prove.specs.Kept.{kept_place}

pub prove_layer-requires : goal.prove_layer-requires
prove_layer-requires g c κs =
    let source : Source = g.C.Challenges.source in
    let circuit = c.args.circuit.now in
    let p : Parts = c.args.circuit.now.parts in
    let inputs : List F = c.requires.can.values_are.0 in
    let i = c.loop-layer.layer in
    let s : List ℕ = g.C.Challenges.state c.loop-layer.challenges in
    let u : c.loop-layer.layer < height c.args.circuit.now.parts = omega (arith, c.loop-layer-test.true, c.height-layer-end.ensures) in
    let v : c.loop-layer.layer + 1 ≤ height c.args.circuit.now.parts = omega (arith, u) in
    let e = table_exponent circuit inputs c.args.values.now (i + 1) c.table.result.now c.requires.can.values_are.1 v c.table.ensures in (
      (refl, tt),
      (
        c.loop-layer.invariant.ready,
        (
          is_layer circuit i c.table.result.now c.gates.result.now (place_of c.claim_place.result) u e c.gates.ensures.value (subst (IsOver (exponent_at c.args.circuit.now.parts c.loop-layer.layer)) (sym c.claim_place.ensures) c.loop-layer.invariant.position),
          (
            few_gates circuit i c.gates.result.now u c.gates.ensures.value,
            subst (λ (k : ℕ). IsTrue (source.has s (k + k + 1))) (sym e) (has_layer source s (layer_at p i) (layers_below p (i + 1)) (has_here p source s i u c.loop-layer.invariant.has)),
          ),
        ),
      ),
    )

pub loop-layer-preserved : goal.loop-layer-preserved
loop-layer-preserved g c =
    let source : Source = g.C.Challenges.source in
    let s : List ℕ = g.C.Challenges.state c.args.challenges.now in
    let now : List ℕ = g.C.Challenges.state c.loop-layer.challenges in
    let circuit = c.args.circuit.now in
    let p : Parts = c.args.circuit.now.parts in
    let i = c.loop-layer.layer in
    let before = c.loop-layer.invariant in
    let proved = c.in_ok-proved.ensures in
    let table : TableValues = c.table.result.now in
    let m : LayerMessages = c.in_ok-proved.proved.messages in
    let ms : List LayerMessages = c.loop-layer.messages.items in
    let M : List (List K) = messages_of m in
    let d : List K = draws source (state_after source s (all_messages ms)) M in
    let k : ℕ = exponent_at c.args.circuit.now.parts (c.loop-layer.layer + 1) in
    let u : c.loop-layer.layer < height c.args.circuit.now.parts = omega (arith, c.loop-layer-test.true, c.height-layer-end.ensures) in
    let v : c.loop-layer.layer + 1 ≤ height c.args.circuit.now.parts = omega arith in
    let e : table.k ≡ k = table_exponent circuit c.requires.can.values_are.0 c.args.values.now (i + 1) table c.requires.can.values_are.1 v c.table.ensures in
    let noted : c.push.new.self.items ≡ ms ++ m ∷ [] = c.in_ok-push.ensures.items in
    let shape : HasShape c.args.form k m = subst (λ (n : ℕ). HasShape c.args.form n m) e proved.shape in
    let next : kept_place c.in_ok-proved.proved.place ≡ next_place k_ops c.args.form k d =
    proved.place ∙ (λ j. next_place k_ops c.args.form (e j) (draws source (before.state j) M)) in
    let count : length d ≡ k + k + 1 = length-draws source (state_after source s (all_messages ms)) M ∙ length-messages c.args.form k m shape in
    let honest : IsHonestLayer c.args.form k (get_or p.layers i []) table.items (kept_place c.loop-layer.place) M d =
    coe 0 1 (j. IsHonestLayer c.args.form (e j) (c.gates.ensures.value j) table.items (c.claim_place.ensures j) M (draws source (before.state j) M)) proved.honest in
    let joined : all_messages c.push.new.self.items ≡ all_messages ms ++ M = (λ j. all_messages (noted j)) ∙ messages-more ms m in
    let first : Place K = kept_place c.args.place in
    let after : Place K = kept_place c.in_ok-proved.proved.place in
    record {
      ready = proved.ready;
      position = over-next c.args.form k d after count next;
      has = subst (λ (t : List ℕ). IsTrue (source.has t (message_count (layers_below p (i + 1))))) (sym proved.state)
          (has_below source now (layer_at p i) (layers_below p (i + 1)) (has_here p source now i u before.has) c.args.form m shape);
      state = proved.state ∙ (λ j. state_after source (before.state j) M) ∙ sym (state-append source s (all_messages ms) M) ∙ (λ j. state_after source s (sym joined j));
      shape = λ rest h.
          subst (λ (xs : List LayerMessages). HaveShape c.args.form (lower_exponents (layers_of p)) xs) (sym (append_assoc ms (m ∷ []) rest) ∙ ap (λ (xs : List LayerMessages). xs ++ rest) (sym noted))
          (before.shape (m ∷ rest) (shape_more c.args.form p i m rest u shape h));
      whole = λ inputs tables qs rs rest.
          coe 0 1 (j. AreHonest c.args.form (layers_of p) (input_table p inputs) first (all_messages (sym noted j) ++ qs) (draws source s (all_messages (sym noted j)) ++ rs))
          (layers_more c.args.form p inputs source s i ms m table.items first (kept_place c.loop-layer.place) after u shape (table_values p inputs c.args.values.now (i + 1) table.items tables v c.table.ensures) next honest
          (before.whole inputs tables) qs rs rest);
    }

pub returns : goal.returns
returns g c =
    let source : Source = g.C.Challenges.source in
    let s : List ℕ = g.C.Challenges.state c.args.challenges.now in
    let p : Parts = c.args.circuit.now.parts in
    let ms : List LayerMessages = c.loop-layer.messages.items in
    let u : height c.args.circuit.now.parts ≤ c.loop-layer.layer = omega (arith, c.loop-layer-test.false, c.height-layer-end.ensures) in
    let none : HaveShape c.args.form (lower_exponents (layers_below p c.loop-layer.layer)) [] = subst (λ (layers : List GateLayer). HaveShape c.args.form (lower_exponents layers) []) (sym (below_none p c.loop-layer.layer u)) tt in
    record {
      honest = λ inputs tables.
          let nothing : AreHonest c.args.form (layers_below p c.loop-layer.layer) (input_table p inputs) (kept_place c.loop-layer.place) [] [] =
          subst (λ (layers : List GateLayer). AreHonest c.args.form layers (input_table p inputs) (kept_place c.loop-layer.place) [] []) (sym (below_none p c.loop-layer.layer u)) tt in
          coe 0 1 (j. AreHonest c.args.form (layers_of p) (input_table p inputs) (kept_place c.args.place) (append-nil (all_messages ms) j) (append-nil (draws source s (all_messages ms)) j))
          (c.loop-layer.invariant.whole inputs tables [] [] nothing);
      state = c.loop-layer.invariant.state;
      shape = subst (λ (xs : List LayerMessages). HaveShape c.args.form (lower_exponents (layers_of p)) xs) (append-nil ms) (c.loop-layer.invariant.shape [] none);
    }

pub loop-layer-init : goal.loop-layer-init
loop-layer-init g c = search rules
