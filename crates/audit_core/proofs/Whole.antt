-- What is found beside the honest messages is what an audit says
use Rattle.std.proofs.Common.{◌≡◌, ℕ, zero, suc, ◌+◌, ◌-◌, ◌*◌, ◌<◌, ◌≤◌, List, [], ◌∷◌, Option, length, take, drop, get_or, refl, sym, ◌∙◌, ap, subst, arith, length-take, length-drop, append_assoc, Some, None, IfSome}
use Rattle.std.specs.Prelude.{option_map}
use Rattle.std.specs.Option.{option_or}
use Rattle.std.proofs.lemmas.List.{get_or_append_left, length-map}
use Rattle.std.proofs.Math.Seq.{get_or-append_right}
use Rattle.field_ext.specs.Field.{F, K, k_ops, zero_k}
use Rattle.field_ext.specs.Polynomial.{coefficients}
use Rattle.circuit_core.specs.Parts.{Parts, height, input_table}
use Rattle.circuit_core.specs.Sound.{SoundCircuit, exponent_at}
use Rattle.circuit_core.proofs.api.Sizes.{size_of}
use Rattle.circuit_core.proofs.api.Faultless.{none_from_test, height_bounds}
use Rattle.circuit_core.specs.declared.gate.CircuitGate.{CircuitGate}
use Rattle.proof_wire.specs.declared.form.ProofForm.{ProofForm}
use Rattle.proof_wire.specs.declared.messages.Round.{Round}
use Rattle.proof_wire.specs.declared.messages.LayerMessages.{LayerMessages}
use Rattle.proof_wire.specs.Spelling.{coefficients_of}
use Rattle.proof_wire.specs.Lists.{round_messages, messages_of, all_messages, HaveShape}
use Rattle.gkr_layers.specs.Places.Place.{At}
use Rattle.gkr_layers.specs.Sumcheck.{difference, IsExceptionalFold}
use Rattle.gkr_layers.specs.Layers.{GateLayer, layers_from, layers_of, lower_exponents, message_count, total_exponent, challenges_of}
use Rattle.gkr_layers.specs.Acceptance.{CircuitClaim, claim_in, true_table, challenge_count}
use Rattle.gkr_layers.specs.Honest.{AreHonest}
use Rattle.gkr_layers.proofs.api.Lists.{next-read}
use Rattle.gkr_layers.proofs.api.Circuits.{circuit_count}
use Rattle.gkr_layers.proofs.api.Shapes.{length-all, length-messages}
use Rattle.audit_core.specs.declared.found.Found.{Found}
use Rattle.audit_core.specs.First.{NamesFirst}
use Rattle.audit_core.specs.Truth.{IsFalseMessage}
use Rattle.audit_core.specs.Audit.{IsDrawnExceptional, place_in}
use Rattle.audit_core.specs.Found.{Differs, Passes, IsFoundBelow, AreAlike}
use Rattle.audit_core.proofs.Firsts.{named_same, named_map, named_behind}
use Rattle.audit_core.proofs.Truth.{part_of, size_at, size_round, size_last, size_below, honest_at, true_size}
use Rattle.audit_core.proofs.Truth.Part.{InRound, Last, Below}
use Rattle.audit_core.proofs.Exceptional.{truth_at, coordinate_to, coordinate_from, message_to, message_from, differs_to, differs_from, passes_to, passes_from}

round_size : (rounds : List Round) (n : ℕ) → n < length rounds → length (get_or (round_messages rounds) n []) ≡ 3
round_size [] n u = absurd (omega arith)
round_size (round ∷ rounds) zero u = refl
round_size (round ∷ rounds) (suc n) u = round_size rounds n (omega arith)

-- one more layer that is alike
alike_more : {rounds last : ℕ} (m n : LayerMessages) (ms ns : List LayerMessages) → length m.rounds ≡ rounds → length n.rounds ≡ rounds → length m.last ≡ last → length n.last ≡ last → AreAlike ms ns → AreAlike (m ∷ ms) (n ∷ ns)
alike_more m n ms ns a b c d h = record {
  count = ap (λ (i : ℕ). suc i) h.count;
  rounds = same_rounds;
  lasts = same_lasts;
}
  where
    same_rounds : (i : ℕ) (e : LayerMessages) → i < suc (length ms) → length (get_or (n ∷ ns) i e).rounds ≡ length (get_or (m ∷ ms) i e).rounds
    same_rounds zero e u = b ∙ sym a
    same_rounds (suc i) e u = h.rounds i e (omega arith)

    same_lasts : (i : ℕ) (e : LayerMessages) → i < suc (length ms) → length (get_or (n ∷ ns) i e).last ≡ length (get_or (m ∷ ms) i e).last
    same_lasts zero e u = d ∙ sym c
    same_lasts (suc i) e u = h.lasts i e (omega arith)

module _ (form : ProofForm) where
  -- messages of the shape have as many coefficients as their places have
  pub sized_at : (layers : List GateLayer) (ms : List LayerMessages) (n : ℕ) → HaveShape form (lower_exponents layers) ms → n < message_count layers → length (get_or (all_messages ms) n []) ≡ size_at form layers n
  sized_at [] ms n h u = absurd (omega arith)
  sized_at (layer ∷ layers) [] n h u = absurd h
  sized_at (layer ∷ layers) (m ∷ ms) n h u =
      elim (part_of n layer.k) [
        | InRound v ↦
            let count : length (round_messages m.rounds) ≡ layer.k + layer.k = length-map m.rounds coefficients_of ∙ h.0.rounds in
            let inside : n < length (round_messages m.rounds) = omega (arith, v, count) in
            let within : n < length (messages_of m) = omega (arith, v, length-messages form layer.k m h.0) in
            ap length (get_or_append_left (messages_of m) (all_messages ms) [] n within ∙ get_or_append_left (round_messages m.rounds) (m.last ∷ []) [] n inside)
            ∙ round_size m.rounds n (omega (arith, v, h.0.rounds))
            ∙ sym (size_round form layer layers n v)
        | Last e ↦
            let count : length (round_messages m.rounds) ≡ n = length-map m.rounds coefficients_of ∙ h.0.rounds ∙ sym e in
            ap (λ (qs : List (List K)). length (get_or qs n [])) (append_assoc (round_messages m.rounds) (m.last ∷ []) (all_messages ms))
            ∙ ap length (next-read (round_messages m.rounds) (all_messages ms) m.last [] n count)
            ∙ h.0.last
            ∙ sym (size_last form layer layers n e)
        | Below v ↦
            let count : length (messages_of m) ≡ layer.k + layer.k + 1 = length-messages form layer.k m h.0 in
            let past : length (messages_of m) ≤ n = omega (arith, v, count) in
            let inner : n - (layer.k + layer.k + 1) < message_count layers = omega (arith, u) in
            ap length (get_or-append_right (messages_of m) (all_messages ms) n [] past ∙ ap (λ (i : ℕ). get_or (all_messages ms) (n - i) []) count)
            ∙ sized_at layers ms (n - (layer.k + layer.k + 1)) h.1 inner
            ∙ sym (size_below form layer layers n v)
      ]

  -- messages of one shape are alike
  pub alike : (ks : List ℕ) (ms ns : List LayerMessages) → HaveShape form ks ms → HaveShape form ks ns → AreAlike ms ns
  alike [] [] [] h g = record { count = refl; rounds = λ i d u. absurd (omega arith); lasts = λ i d u. absurd (omega arith) }
  alike [] [] (n ∷ ns) h g = absurd g
  alike [] (m ∷ ms) ns h g = absurd h
  alike (k ∷ ks) [] ns h g = absurd h
  alike (k ∷ ks) (m ∷ ms) [] h g = absurd g
  alike (k ∷ ks) (m ∷ ms) (n ∷ ns) h g = alike_more m n ms ns (h.0.rounds) (g.0.rounds) (h.0.last) (g.0.last) (alike ks ms ns h.1 g.1)

-- a number that is named is below the count
pub inside : (P : ℕ → Type 0) (count k total : ℕ) (found : Option ℕ) → NamesFirst P count (λ n. n) found → k + count ≤ total → IfSome found (λ n. k + n < total)
inside P count k total None f u = tt
inside P count k total (Some m) f u = (let below = f.1.below in omega (arith, f.2, below, u))

-- a circuit has few challenges
module _ (c : SoundCircuit) where
  width_most : (i : ℕ) (layers : List (List CircuitGate)) → i + length layers ≡ height c.parts → total_exponent (layers_from c.parts i layers) ≤ 20 * length layers
  width_most i [] e = omega arith
  width_most i (gates ∷ layers) e =
      let here = size_of c (i + 1) (omega arith) in
      omega (arith, here.2, width_most (i + 1) layers (omega arith))

  pub few_challenges : challenges_of c.parts < 4294967296
  few_challenges =
      let most = width_most 0 c.parts.layers (omega arith) in
      let bounds = height_bounds c.parts (none_from_test _ c.faultless) in
      let first = size_of c 0 (omega arith) in
      omega (arith, most, bounds.1, first.2, circuit_count c.parts)

-- as many challenges come after messages as there are messages
pub behind_size : (p : Parts) (rs : List K) → length rs ≡ challenges_of p → length (drop (exponent_at p 0) rs) ≡ message_count (layers_of p)
behind_size p rs e = omega (arith, e, length-drop (exponent_at p 0) rs)

module _ (form : ProofForm) (c : SoundCircuit) (inputs outputs : List F) (messages truth : List LayerMessages) (rs : List K) (found : Found)
    (shape : HaveShape form (lower_exponents (layers_of c.parts)) messages) (true_shape : HaveShape form (lower_exponents (layers_of c.parts)) truth)
    (honest : AreHonest form (layers_of c.parts) (input_table c.parts inputs) (At (take (exponent_at c.parts 0) rs)) (all_messages truth) (drop (exponent_at c.parts 0) rs))
    (is : IsFoundBelow (all_messages messages) (all_messages truth) (drop (exponent_at c.parts 0) rs) (length (all_messages messages)) found) where
  abbrev stated : CircuitClaim
  stated = claim_in form c.parts inputs outputs

  abbrev qs : List (List K)
  qs = all_messages messages

  abbrev ts : List (List K)
  ts = all_messages truth

  abbrev behind : List K
  behind = drop (exponent_at c.parts 0) rs

  abbrev count : ℕ
  count = message_count (layers_of c.parts)

  all : length qs ≡ count
  all = length-all form (layers_of c.parts) messages shape

  module _ (n : ℕ) (u : n < count) where
    size : length (get_or qs n []) ≡ size_at form (layers_of c.parts) n
    size = sized_at form (layers_of c.parts) messages n shape u

    least : length (truth_at stated qs rs n) ≤ size_at form (layers_of c.parts) n
    least = true_size form (layers_of c.parts) (input_table c.parts inputs) (At (take (exponent_at c.parts 0) rs)) behind n

    true_there : get_or ts n [] ≡ coefficients k_ops (size_at form (layers_of c.parts) n) (truth_at stated qs rs n)
    true_there = honest_at form (layers_of c.parts) (input_table c.parts inputs) (At (take (exponent_at c.parts 0) rs)) ts behind n honest u

    false_to : Differs qs ts n → IsFalseMessage stated qs rs n
    false_to = differs_to (size_at form (layers_of c.parts) n) (get_or qs n []) (get_or ts n []) (truth_at stated qs rs n) zero_k size least true_there

    false_from : IsFalseMessage stated qs rs n → Differs qs ts n
    false_from = differs_from (size_at form (layers_of c.parts) n) (get_or qs n []) (get_or ts n []) (truth_at stated qs rs n) zero_k size least true_there

    passing_to : Passes qs ts behind n → IsDrawnExceptional stated qs rs (exponent_at c.parts 0 + n)
    passing_to h = message_from stated qs rs n u (passes_to (size_at form (layers_of c.parts) n) (get_or qs n []) (get_or ts n []) (truth_at stated qs rs n) (get_or behind n zero_k) size least true_there h)

    passing_from : IsDrawnExceptional stated qs rs (exponent_at c.parts 0 + n) → Passes qs ts behind n
    passing_from h = passes_from (size_at form (layers_of c.parts) n) (get_or qs n []) (get_or ts n []) (truth_at stated qs rs n) (get_or behind n zero_k) size least true_there (message_to stated qs rs n h)

  -- the message that is named
  pub message_named : NamesFirst (IsFalseMessage stated qs rs) count (place_in (layers_of c.parts) 0) (option_map (place_in (layers_of c.parts) 0) found.message)
  message_named =
      named_map (IsFalseMessage stated qs rs) count (place_in (layers_of c.parts) 0) found.message
      (named_same (Differs qs ts) (IsFalseMessage stated qs rs) count (λ n. n) false_to false_from found.message
      (subst (λ (i : ℕ). NamesFirst (Differs qs ts) i (λ n. n) found.message) all is.message))

  abbrev numbered : ℕ → ℕ × K
  numbered n = (n, get_or rs n zero_k)

  -- the challenge that is named
  pub challenge_named : (d : List K) (coordinate : Option ℕ) → d ≡ difference k_ops stated.claimed_table (true_table stated) → exponent_at c.parts 0 ≤ length rs →
      NamesFirst (λ n. IsExceptionalFold k_ops d (take n (take (exponent_at c.parts 0) rs)) (get_or (take (exponent_at c.parts 0) rs) n zero_k)) (length (take (exponent_at c.parts 0) rs)) (λ n. n) coordinate →
      NamesFirst (IsDrawnExceptional stated qs rs) (challenge_count stated) numbered (option_map numbered (option_or coordinate (option_map (λ n. exponent_at c.parts 0 + n) found.challenge)))
  challenge_named d coordinate e u h =
      let k : ℕ = exponent_at c.parts 0 in
      let width : length (take (exponent_at c.parts 0) rs) ≡ exponent_at c.parts 0 = omega (arith, u, length-take (exponent_at c.parts 0) rs) in
      let Fold : List K → ℕ → Type 0 = λ t n. IsExceptionalFold k_ops t (take n (take (exponent_at c.parts 0) rs)) (get_or (take (exponent_at c.parts 0) rs) n zero_k) in
      let first = named_same (Fold (difference k_ops stated.claimed_table (true_table stated))) (IsDrawnExceptional stated qs rs) k (λ n. n)
      (λ n w x. coordinate_from stated qs rs n w x) (λ n w x. coordinate_to stated qs rs n w x) coordinate
      (coe 0 1 (i. NamesFirst (Fold (e i)) (width i) (λ n. n) coordinate) h) in
      let later = named_same (Passes qs ts behind) (λ n. IsDrawnExceptional stated qs rs (k + n)) count (λ n. n) passing_to passing_from found.challenge
      (subst (λ (i : ℕ). NamesFirst (Passes qs ts behind) i (λ n. n) found.challenge) all is.challenge) in
      named_map (IsDrawnExceptional stated qs rs) (challenge_count stated) numbered (option_or coordinate (option_map (λ n. k + n) found.challenge))
      (named_behind (IsDrawnExceptional stated qs rs) k count coordinate found.challenge first later)
