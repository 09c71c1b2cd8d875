-- Messages of a circuit's shape, and what follows where they are accepted
use Rattle.std.proofs.Common.{◌≡◌, ℕ, zero, suc, ◌+◌, ◌-◌, ◌^◌, ◌<◌, ◌≤◌, List, [], ◌∷◌, ◌++◌, All, length, map, take, drop, get_or, replicate, refl, sym, ◌∙◌, ap, subst, arith, append_assoc, length-append, add-one, IsTrue}
use Rattle.std.specs.List.{range_with_len}
use Rattle.std.proofs.lemmas.List.{length-map}
use Rattle.field_ext.specs.Field.{F, K, embed_k}
use Rattle.circuit_core.specs.declared.gate.CircuitGate.{CircuitGate}
use Rattle.circuit_core.specs.Parts.{Parts, height, width_of, leaf_value, padded_values, layer_values, zero_f}
use Rattle.circuit_core.specs.Sound.{SoundCircuit, exponent_at, exponents}
use Rattle.circuit_core.proofs.api.Faultless.{none_from_test, width_bounds, leaves_room}
use Rattle.gkr_layers.specs.Layers.{GateLayer, layers_from, layers_of, lower_exponents, message_count}
use Rattle.circuit_core.proofs.api.Sizes.{size_of}
use Rattle.gkr_layers.proofs.api.Circuits.{layers_fit, input_size, length-layers, over-embed, input_width, length-table}
use Rattle.wiring_poly.proofs.api.Identity.{take-front}
use Rattle.transcript_fs.specs.Source.{Source, point_draws, state_after_point, draws, all_draws, state_after}
use Rattle.proof_wire.specs.declared.messages.LayerMessages.{LayerMessages}
use Rattle.proof_wire.specs.declared.messages.Messages.{Messages}
use Rattle.proof_wire.specs.declared.messages.Round.{Round}
use Rattle.proof_wire.specs.Spelling.{coefficients_of}
use Rattle.gkr_layers.specs.declared.verdict.Verdict.TheVariants.{Accepted}
use Rattle.proof_wire.specs.Lists.{messages_of, all_messages, round_messages, HasShape, HaveShape}
use Rattle.gkr_layers.specs.Acceptance.{CircuitClaim, claim_in, true_table, challenge_count, verdict_of}
use Rattle.gkr_layers.specs.Soundness.{HaveDegrees, IsFalse, LetsPass}
use Rattle.gkr_layers.proofs.api.Lists.{front-take, next-read, rest-drop}
use Rattle.transcript_fs.proofs.api.Draws.{length-draws, length-coordinates, has_front, has_behind}
use Rattle.proof_wire.specs.declared.form.ProofForm.{ProofForm}
use Rattle.proof_wire.specs.Forms.{last_degree}
use Rattle.gkr_layers.proofs.api.Sound.{lets_pass}

pub length-messages : (form : ProofForm) (k : ℕ) (m : LayerMessages) → HasShape form k m → length (messages_of m) ≡ k + k + 1
length-messages form k m h = omega (arith, length-append (map coefficients_of m.rounds) (m.last ∷ []), length-map m.rounds coefficients_of, h.rounds)

-- the challenges of a layer and of those below it are there
module _ (source : Source) (s : List ℕ) (layer : GateLayer) (layers : List GateLayer) (has : IsTrue (source.has s (message_count (layer ∷ layers)))) where
  pub has_layer : IsTrue (source.has s (layer.k + layer.k + 1))
  has_layer = has_front source s (layer.k + layer.k + 1) (message_count layers) has

  pub has_below : (form : ProofForm) (m : LayerMessages) → HasShape form layer.k m → IsTrue (source.has (state_after source s (messages_of m)) (message_count layers))
  has_below form m h = has_behind source s (messages_of m) (message_count layers) (subst (λ (n : ℕ). IsTrue (source.has s (n + message_count layers))) (sym (length-messages form layer.k m h)) has)

exponents_from : (p : Parts) (i : ℕ) (layers : List (List CircuitGate)) → lower_exponents (layers_from p i layers) ≡ map (exponent_at p) (range_with_len (i + 1) (length layers))
exponents_from p i [] = refl
exponents_from p i (gates ∷ layers) = ap (λ (ks : List ℕ). exponent_at p (i + 1) ∷ ks) (exponents_from p (i + 1) layers)

-- the layers below are those of the circuit but its first
lower_exponents_of : (p : Parts) → lower_exponents (layers_of p) ≡ drop 1 (exponents p)
lower_exponents_of p = exponents_from p 0 p.layers ∙ sym (ap (λ (n : ℕ). drop 1 (map (exponent_at p) (range_with_len 0 n))) (add-one (height p)))

-- messages of a circuit's shape are so for each layer, and the other way round
pub have_shape : (form : ProofForm) (p : Parts) (messages : Messages) → HaveShape form (drop 1 (exponents p)) messages.layers → HaveShape form (lower_exponents (layers_of p)) messages.layers
have_shape form p messages h = subst (λ (ks : List ℕ). HaveShape form ks messages.layers) (sym (lower_exponents_of p)) h

pub have_circuit_shape : (form : ProofForm) (p : Parts) (layers : List LayerMessages) → HaveShape form (lower_exponents (layers_of p)) layers → HaveShape form (drop 1 (exponents p)) layers
have_circuit_shape form p layers h = subst (λ (ks : List ℕ). HaveShape form ks layers) (lower_exponents_of p) h

same_length : (form : ProofForm) (layers : List GateLayer) (ms : List LayerMessages) → HaveShape form (lower_exponents layers) ms → length ms ≡ length layers
same_length form [] [] h = refl
same_length form [] (m ∷ ms) h = absurd h
same_length form (layer ∷ layers) [] h = absurd h
same_length form (layer ∷ layers) (m ∷ ms) h = ap (λ (n : ℕ). suc n) (same_length form layers ms h.1)

pub messages_height : (form : ProofForm) (p : Parts) (messages : Messages) → HaveShape form (drop 1 (exponents p)) messages.layers → length messages.layers ≡ height p
messages_height form p messages h = same_length form (layers_of p) messages.layers (have_shape form p messages h) ∙ length-layers p 0 p.layers

pub length-all : (form : ProofForm) (layers : List GateLayer) (ms : List LayerMessages) → HaveShape form (lower_exponents layers) ms → length (all_messages ms) ≡ message_count layers
length-all form [] [] h = refl
length-all form [] (m ∷ ms) h = absurd h
length-all form (layer ∷ layers) [] h = absurd h
length-all form (layer ∷ layers) (m ∷ ms) h = omega (arith, length-append (messages_of m) (all_messages ms), length-messages form layer.k m h.0, length-all form layers ms h.1)

three_each : (rounds : List Round) → All (λ q. length q ≤ 3) (round_messages rounds)
three_each rounds i d u =
    let size = length-map rounds coefficients_of in
    let inside : i < length rounds = omega (arith, size, u) in
    at rounds i d inside
  where
    at : (rounds : List Round) (i : ℕ) (d : List K) → i < length rounds → length (get_or (round_messages rounds) i d) ≤ 3
    at [] i d u = absurd (omega arith)
    at (round ∷ rounds) zero d u = omega arith
    at (round ∷ rounds) (suc i) d u = at rounds i d (omega arith)

degrees_of : (form : ProofForm) (layers : List GateLayer) (ms : List LayerMessages) → HaveShape form (lower_exponents layers) ms → HaveDegrees form layers (all_messages ms)
degrees_of form [] [] h = tt
degrees_of form [] (m ∷ ms) h = absurd h
degrees_of form (layer ∷ layers) [] h = absurd h
degrees_of form (layer ∷ layers) (m ∷ ms) h =
    let k = layer.k in
    let rounds : List (List K) = round_messages m.rounds in
    let end : List K = m.last in
    let rest : List (List K) = all_messages ms in
    let flat : (round_messages m.rounds ++ m.last ∷ []) ++ all_messages ms ≡ round_messages m.rounds ++ m.last ∷ all_messages ms = append_assoc rounds (end ∷ []) rest in
    let count : length (round_messages m.rounds) ≡ layer.k + layer.k = length-map m.rounds coefficients_of ∙ h.0.rounds in
    let after : layer.k + layer.k + 1 ≡ suc (layer.k + layer.k) = omega arith in
    let last : length m.last ≤ last_degree form layer.k + 1 = omega (arith, h.0.last) in
    subst (λ (qs : List (List K)). HaveDegrees form (layer ∷ layers) qs) (sym flat) (
      subst (λ (qs : List (List K)). All (λ q. length q ≤ 3) qs) (sym (front-take rounds (end ∷ rest) (k + k) count)) (three_each m.rounds),
      subst (λ (q : List K). length q ≤ last_degree form layer.k + 1) (sym (next-read rounds rest end [] (k + k) count)) last,
      subst (λ (qs : List (List K)). HaveDegrees form layers qs) (sym (rest-drop rounds rest end (k + k) (k + k + 1) count after)) (degrees_of form layers ms h.1),
    )

length-challenges : (source : Source) (s : List ℕ) (stated : CircuitClaim) (qs : List (List K)) → length qs ≡ message_count stated.layers → length (all_draws source s stated.k qs) ≡ challenge_count stated
length-challenges source s stated qs e =
    omega (arith, length-append (point_draws source s stated.k) (draws source (state_after_point source s stated.k) qs), length-coordinates source s stated.k, length-draws source (state_after_point source s stated.k) qs, e)

-- a source gives as many challenges for messages of the shape
pub drawn : (form : ProofForm) (p : Parts) (inputs outputs : List F) (source : Source) (s : List ℕ) (messages : Messages) → HaveShape form (drop 1 (exponents p)) messages.layers →
    length (all_draws source s (exponent_at p 0) (all_messages messages.layers)) ≡ challenge_count (claim_in form p inputs outputs)
drawn form p inputs outputs source s messages shape =
    let stated : CircuitClaim = claim_in form p inputs outputs in
    length-challenges source s stated (all_messages messages.layers) (length-all form stated.layers messages.layers (have_shape form p messages shape))

-- the outputs come after position 0
pub outputs_room : (c : SoundCircuit) → c.parts.outputs < width_of c.parts 0
outputs_room c = let held = (width_bounds c.parts (none_from_test _ c.faultless) 0 (omega arith)).1 in omega (arith, held)

-- and so do the leaves
pub leaves_fit : (c : SoundCircuit) → length c.parts.leaves < width_of c.parts (height c.parts)
leaves_fit c = let room = leaves_room c.parts (none_from_test _ c.faultless) in omega (arith, room)

-- elements of F_p that are the same in K are the same
pub parts_of : (xs : List F) → map (λ (x : K). x.re) (map embed_k xs) ≡ xs
parts_of [] = refl
parts_of (x ∷ xs) = ap (λ (ys : List F). x ∷ ys) (parts_of xs)

module _ (c : SoundCircuit) (inputs outputs : List F) (count : length outputs ≡ c.parts.outputs) where
  -- a claimed table that is the true one holds the outputs that the circuit has
  outputs_true : (form : ProofForm) → (claim_in form c.parts inputs outputs).claimed_table ≡ true_table (claim_in form c.parts inputs outputs) → outputs ≡ take (length outputs) (drop 1 (layer_values c.parts inputs 0))
  outputs_true form e =
      let width = width_of c.parts 0 in
      let input = padded_values c.parts.input_width (map (leaf_value inputs) c.parts.leaves) in
      let same : padded_values (width_of c.parts 0) outputs ≡ layer_values c.parts inputs 0 =
      sym (parts_of (padded_values width outputs)) ∙ ap (λ (t : List K). map (λ (x : K). x.re) t) (e ∙ sym (over-embed c.parts 0 c.parts.layers input)) ∙ parts_of (layer_values c.parts inputs 0) in
      sym (take-front outputs (replicate (width_of c.parts 0 - (1 + length outputs)) zero_f)) ∙ ap (λ (t : List F). take (length outputs) (drop 1 t)) same

  -- in either form
  pub sound_in : (form : ProofForm) (qs : List (List K)) (rs : List K) → HaveDegrees form (claim_in form c.parts inputs outputs).layers qs →
      length qs ≡ message_count (claim_in form c.parts inputs outputs).layers → length rs ≡ challenge_count (claim_in form c.parts inputs outputs) →
      verdict_of (claim_in form c.parts inputs outputs) qs rs ≡ Accepted → IsFalse c.parts inputs outputs → (n : ℕ) × LetsPass (claim_in form c.parts inputs outputs) qs rs n
  sound_in form qs rs degrees all drawn' accepted false' =
      let stated : CircuitClaim = claim_in form c.parts inputs outputs in
      let values = map (leaf_value inputs) c.parts.leaves in
      let fit : length (map (leaf_value inputs) c.parts.leaves) < c.parts.input_width = omega (arith, length-map c.parts.leaves (leaf_value inputs), leaves_fit c, input_width c.parts) in
      let few : length outputs < width_of c.parts 0 = omega (arith, count, outputs_room c) in
      lets_pass stated qs rs (layers_fit c)
      (length-table (width_of c.parts 0) outputs few ∙ (size_of c 0 (omega arith)).0)
      (length-table c.parts.input_width values fit ∙ sym (input_width c.parts) ∙ (size_of c (height c.parts) (omega arith)).0 ∙ ap (λ (k : ℕ). 2 ^ k) (sym (input_size c.parts)))
      all drawn' accepted (λ e. false' (outputs_true form e)) degrees

  -- and for messages of the shape of a proof
  pub sound : (form : ProofForm) (messages : Messages) (rs : List K) → HaveShape form (drop 1 (exponents c.parts)) messages.layers → length rs ≡ challenge_count (claim_in form c.parts inputs outputs) →
      verdict_of (claim_in form c.parts inputs outputs) (all_messages messages.layers) rs ≡ Accepted → IsFalse c.parts inputs outputs →
      (n : ℕ) × LetsPass (claim_in form c.parts inputs outputs) (all_messages messages.layers) rs n
  sound form messages rs shape drawn' accepted false' =
      let have = have_shape form c.parts messages shape in
      sound_in form (all_messages messages.layers) rs (degrees_of form (layers_of c.parts) messages.layers have) (length-all form (layers_of c.parts) messages.layers have) drawn' accepted false'
