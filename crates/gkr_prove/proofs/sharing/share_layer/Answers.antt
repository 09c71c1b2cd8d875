-- The rounds and the line make a layer's messages
use Rattle.std.proofs.Common.{◌≡◌, ℕ, ◌+◌, ◌++◌, List, [], ◌∷◌, IsTrue, IfSome, length, take, drop, arith, ◌∙◌, ap, sym, subst}
use Rattle.std.proofs.lemmas.List.{length-map}
use Rattle.field_ext.specs.Field.{K, k_ops}
use Rattle.field_ext.specs.Polynomial.{coefficients}
use Rattle.gkr_layers.proofs.api.Coefficients.{length-coefficients}
use Rattle.gkr_layers.specs.Forms.{last_polynomial, place_between}
use Rattle.gkr_layers.specs.Sumcheck.{line_polynomial}
use Rattle.gkr_layers.specs.ClaimPlace.{place_of}
use Rattle.proof_wire.specs.Forms.{last_degree}
use Rattle.round_tables.specs.LayerSum.{LayerSum}
use Rattle.transcript_fs.specs.Source.{Source, draws, state_after}
use Rattle.proof_wire.specs.Spelling.{coefficients_of}
use Rattle.proof_wire.specs.Lists.{round_messages}
use Rattle.transcript_fs.proofs.api.Draws.{has_behind, has_front}
use Rattle.gkr_layers.specs.Honest.{AreHonestRounds, IsHonestLayer}
use Rattle.gkr_layers.specs.Layers.{next_place}
use Rattle.gkr_prove.proofs.HonestSteps.{honest_layer, layer_place, state-more}
use Rattle.gkr_prove.proofs.sharing.share_layer.Goals as goal

pub share_rounds-requires-clause-has : goal.share_rounds-requires-clause-has
share_rounds-requires-clause-has g c κs within =
    let source : Source = g.C.Challenges.source in
    let s = g.C.Challenges.state c.args.challenges.now in
    let k = c.args.values.now.k in
    subst (λ (n : ℕ). IsTrue (source.has s (n + n))) (sym c.in_ok-tables.ensures.k) (has_front source s (k + k) 1 c.requires.has)

pub challenge-challenge-requires : goal.challenge-challenge-requires
challenge-challenge-requires g c =
    let source : Source = g.C.Challenges.source in
    let s = g.C.Challenges.state c.args.challenges.now in
    let k = c.args.values.now.k in
    let rounds = c.in_ok-messages.ensures.rounds in
    let messages = c.in_ok-messages.field-0.messages in
    let qs : List (List K) = round_messages c.in_ok-messages.field-0.messages.items in
    let size : length (round_messages c.in_ok-messages.field-0.messages.items) ≡ k + k =
    length-map messages.items coefficients_of ∙ rounds.count ∙ (λ i. c.in_ok-tables.ensures.k i + c.in_ok-tables.ensures.k i) in
    let before : IsTrue (source.has (state_after source s qs) 1) = has_behind source s qs 1 (subst (λ (n : ℕ). IsTrue (source.has s (n + 1))) (sym size) c.requires.has) in
    rw (c.absorb.ensures, rounds.state) (source.has_absorbed (state_after source s qs) _ 1 before)

pub split_at-requires : goal.split_at-requires
split_at-requires g c = omega (arith, c.in_ok-tables.ensures.k, c.in_ok-messages.field-0.drawn.ok.0, c.in_ok-messages.ensures.rounds.challenges)

pub last_with-requires-clause-line : goal.last_with-requires-clause-line
last_with-requires-clause-line g c =
    let k = c.args.values.now.k in
    let values = c.args.values.now.items in
    let left : take c.args.values.now.k c.in_ok-messages.field-0.drawn.items ≡ c.split_at.result.0.now = sym (c.split_at.ensures.front ∙ (λ i. take (c.k-k.ensures i) (c.as_slice.ensures.value i))) in
    let right : drop c.args.values.now.k c.in_ok-messages.field-0.drawn.items ≡ c.split_at.result.1.now = sym (c.split_at.ensures.back ∙ (λ i. drop (c.k-k.ensures i) (c.as_slice.ensures.value i))) in
    coe 0 1 (j. IfSome c.in_ok-messages.field-0.line (λ last. last.items ≡ coefficients k_ops (k + 1) (line_polynomial k_ops values (left j) (right j)))) c.in_ok-messages.ensures.line

pub returns-clause-honest : goal.returns-clause-honest
returns-clause-honest g c =
    let k = c.args.values.now.k in
    let started = c.in_ok-tables.ensures in
    let rounds = c.in_ok-messages.ensures.rounds in
    let source : Source = g.C.Challenges.source in
    let s = g.C.Challenges.state c.args.challenges.now in
    let messages = c.in_ok-messages.field-0.messages in
    let drawn = c.in_ok-messages.field-0.drawn in
    let qs : List (List K) = round_messages c.in_ok-messages.field-0.messages.items in
    let rs : List K = c.in_ok-messages.field-0.drawn.items in
    let sum : LayerSum = record { k = c.args.values.now.k; gates = c.args.gates.now; values = c.args.values.now.items; place = place_of c.args.place.now; bound = []; lent = [] } in
    let is : c.in_ok-tables.tables ≡ sum = λ i. record { k = started.k i; gates = started.gates i; values = started.values i; place = started.place i; bound = started.bound.0 i; lent = started.bound.1 i } in
    let honest : AreHonestRounds c.args.values.now.k c.args.gates.now c.args.values.now.items (place_of c.args.place.now) (c.args.values.now.k + c.args.values.now.k) qs rs =
    subst (λ (t : LayerSum). AreHonestRounds t.k t.gates t.values t.place (t.k + t.k) qs rs) is rounds.honest in
    coe 0 1 (j. IsHonestLayer c.args.form k c.args.gates.now c.args.values.now.items (place_of c.args.place.now) (round_messages (sym c.of.ensures j) ++ sym c.of-2.ensures j ∷ []) (draws source s (round_messages (sym c.of.ensures j) ++ sym c.of-2.ensures j ∷ []))) (
    honest_layer c.args.form k c.args.gates.now c.args.values.now.items (place_of c.args.place.now) source s qs rs c.in_ok-last.last.items
    (length-map messages.items coefficients_of ∙ rounds.count ∙ (λ i. started.k i + started.k i))
    (rounds.challenges ∙ (λ i. started.k i + started.k i))
    rounds.drawn honest
    (c.in_ok-last.ensures
    ∙ (λ i. coefficients k_ops (last_degree c.args.form k + 1) (last_polynomial k_ops c.args.form c.args.values.now.items (c.split_at.ensures.front i) (c.split_at.ensures.back i)))
    ∙ (λ i. coefficients k_ops (last_degree c.args.form k + 1) (last_polynomial k_ops c.args.form c.args.values.now.items (take (c.k-k.ensures i) (c.as_slice.ensures.value i)) (drop (c.k-k.ensures i) (c.as_slice.ensures.value i))))))

pub returns-clause-shape : goal.returns-clause-shape
returns-clause-shape g c =
    let k = c.args.values.now.k in
    record {
      rounds = ap length c.of.ensures ∙ c.in_ok-messages.ensures.rounds.count ∙ (λ i. c.in_ok-tables.ensures.k i + c.in_ok-tables.ensures.k i);
      last = ap length (c.of-2.ensures ∙ c.in_ok-last.ensures) ∙ length-coefficients k_ops (last_degree c.args.form k + 1) _;
    }

pub returns-clause-place : goal.returns-clause-place
returns-clause-place g c =
    let k = c.args.values.now.k in
    let source : Source = g.C.Challenges.source in
    let s = g.C.Challenges.state c.args.challenges.now in
    let drawn = c.in_ok-messages.field-0.drawn in
    let qs : List (List K) = round_messages c.in_ok-messages.field-0.messages.items in
    let rs : List K = c.in_ok-messages.field-0.drawn.items in
    let end : List K = c.in_ok-last.last.items in
    let rounds = c.in_ok-messages.ensures.rounds in
    let started = c.in_ok-tables.ensures in
    let challenge : c.challenge-challenge.result ≡ source.draw (source.absorb (state_after source s qs) end) =
    c.challenge-challenge.ensures.value ∙ ap source.draw (c.absorb.ensures ∙ (λ i. source.absorb (rounds.state i) (c.deref.ensures.value i))) in
    c.in_ok-next.ensures
    ∙ (λ i. place_between k_ops c.args.form (c.split_at.ensures.front i) (c.split_at.ensures.back i) (challenge i))
    ∙ (λ i. place_between k_ops c.args.form (take (c.k-k.ensures i) (c.as_slice.ensures.value i)) (drop (c.k-k.ensures i) (c.as_slice.ensures.value i)) (source.draw (source.absorb (state_after source s qs) end)))
    ∙ layer_place c.args.form k c.args.gates.now c.args.values.now.items (place_of c.args.place.now) source s qs rs end (rounds.challenges ∙ (λ i. started.k i + started.k i)) rounds.drawn
    ∙ (λ j. next_place k_ops c.args.form k (draws source s (round_messages (sym c.of.ensures j) ++ sym c.of-2.ensures j ∷ [])))

pub returns-clause-state : goal.returns-clause-state
returns-clause-state g c =
    let source : Source = g.C.Challenges.source in
    let s = g.C.Challenges.state c.args.challenges.now in
    let qs : List (List K) = round_messages c.in_ok-messages.field-0.messages.items in
    let end : List K = c.in_ok-last.last.items in
    c.challenge-challenge.ensures.state ∙ ap source.after (c.absorb.ensures ∙ (λ i. source.absorb (c.in_ok-messages.ensures.rounds.state i) (c.deref.ensures.value i)))
    ∙ sym (state-more source s qs end)
    ∙ (λ j. state_after source s (round_messages (sym c.of.ensures j) ++ sym c.of-2.ensures j ∷ []))
