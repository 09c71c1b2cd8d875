-- The sum equations of layers, one layer after another
use Rattle.std.proofs.Common.{◌≡◌, ℕ, zero, suc, ◌+◌, ◌<◌, ◌≤◌, List, [], ◌∷◌, ◌++◌, length, get_or, drop, IsTrue, All, refl, sym, ◌∙◌, ap, subst, arith, add-one, append-nil, length-append, drop_of_length-le}
use Rattle.std.proofs.lemmas.List.{drop_more}
use Rattle.field_ext.specs.Field.{K}
use Rattle.circuit_core.specs.declared.gate.CircuitGate.{CircuitGate}
use Rattle.circuit_core.specs.Parts.{height}
use Rattle.circuit_core.specs.Sound.{SoundCircuit, exponent_at, exponents}
use Rattle.circuit_core.proofs.api.Sizes.{size_of}
use Rattle.transcript_fs.specs.Source.{Source, draws, state_after, state_after_point}
use Rattle.transcript_fs.proofs.api.Draws.{state-append, has_after_point, has_front, has_behind}
use Rattle.proof_wire.specs.declared.messages.LayerMessages.{LayerMessages}
use Rattle.proof_wire.specs.declared.messages.Messages.{Messages}
use Rattle.proof_wire.specs.declared.form.ProofForm.TheVariants.{Line}
use Rattle.proof_wire.specs.Lists.{round_messages, messages_of, all_messages, HaveShape}
use Rattle.gkr_layers.specs.declared.verdict.Verdict.{Verdict}
use Rattle.gkr_layers.specs.declared.verdict.Verdict.TheVariants.{Accepted}
use Rattle.gkr_layers.specs.Equations.{Equation, Answered, sum_equations, first_failure, answer}
use Rattle.gkr_layers.specs.Layers.{challenges_of, layers_from, layers_of, lower_exponents, message_count}
use Rattle.gkr_layers.proofs.api.Answers.{answer-verdict}
use Rattle.gkr_layers.proofs.api.Shapes.{have_shape, length-all}
use Rattle.gkr_verify.proofs.api.Filled.{sums_front, sums_stop}
use Rattle.gkr_verify.specs.ShortProof.{next_claim, state_at_last, sums_from}

-- an answer that holds whatever follows names the first failure
pub first_of_answer : (source : Source) (s : List ℕ) (es : List Equation) (qs : List (List K)) (v : Verdict) (t : List ℕ) → answer source s (es ++ []) (qs ++ []) ≡ record { verdict = v; state = t } → first_failure es ≡ v
first_of_answer source s es qs v t e =
    ap first_failure (sym (append-nil es)) ∙ sym (answer-verdict source s (es ++ []) (qs ++ [])) ∙ ap (λ (x : Answered). x.verdict) e

module _ (source : Source) (s0 : List ℕ) (claim0 : K) (all : List LayerMessages) where
  -- the sums of the first i layers hold
  pub record SumsHeld (i : ℕ) (s : List ℕ) (claim : K) : Type 0 where
    pub sums : first_failure (sums_from source 0 s0 claim0 all) ≡ first_failure (sums_from source i s claim (drop i all))
    pub state : state_after source s (all_messages (drop i all)) ≡ state_after source s0 (all_messages all)
    pub has : IsTrue (source.has s (length (all_messages (drop i all))))

  pub sums_begun : IsTrue (source.has s0 (length (all_messages all))) → SumsHeld 0 s0 claim0
  sums_begun has = record { sums = refl; state = refl; has = has }

  module _ (i : ℕ) (s : List ℕ) (claim : K) (p : SumsHeld i s claim) where
    module _ (layer : LayerMessages) (u : i < length all) (is : layer ≡ get_or all i layer) where
      split : drop i all ≡ layer ∷ drop (i + 1) all
      split = drop_more all i layer u ∙ ap (λ (x : LayerMessages). x ∷ drop (i + 1) all) (sym is)

      abbrev rest : List LayerMessages
      rest = drop (i + 1) all

      abbrev next : List ℕ
      next = source.after (state_at_last source s layer)

      abbrev rounds : List (List K)
      rounds = round_messages layer.rounds

      has_all : IsTrue (source.has s (length (messages_of layer) + length (all_messages rest)))
      has_all =
          subst (λ (n : ℕ). IsTrue (source.has s n)) (length-append (messages_of layer) (all_messages rest))
          (subst (λ (xs : List LayerMessages). IsTrue (source.has s (length (all_messages xs)))) split p.has)

      pub layer_has : IsTrue (source.has s (length (messages_of layer)))
      layer_has = has_front source s (length (messages_of layer)) (length (all_messages rest)) has_all

      pub layer_held : first_failure (sum_equations i 1 claim rounds (draws source s rounds)) ≡ Accepted → SumsHeld (i + 1) (state_after source s (messages_of layer)) (next_claim source s layer)
      layer_held h = record {
        sums =
            p.sums
            ∙ ap (λ (xs : List LayerMessages). first_failure (sums_from source i s claim xs)) split
            ∙ sums_front i 1 claim rounds (draws source s rounds) (sums_from source (suc i) next (next_claim source s layer) rest) h
            ∙ (λ j. first_failure (sums_from source (sym (add-one i) j) (sym (state-append source s rounds (layer.last ∷ [])) j) (next_claim source s layer) rest));
        state =
            sym (state-append source s (messages_of layer) (all_messages rest))
            ∙ ap (λ (xs : List LayerMessages). state_after source s (all_messages xs)) (sym split)
            ∙ p.state;
        has = has_behind source s (messages_of layer) (length (all_messages rest)) has_all;
      }

      pub layer_stops : (v : Verdict) → (v ≡ Accepted → ⊥) → first_failure (sum_equations i 1 claim rounds (draws source s rounds)) ≡ v → first_failure (sums_from source 0 s0 claim0 all) ≡ v
      layer_stops v n h =
          p.sums
          ∙ ap (λ (xs : List LayerMessages). first_failure (sums_from source i s claim xs)) split
          ∙ sums_stop i 1 claim rounds (draws source s rounds) (sums_from source (suc i) next (next_claim source s layer) rest) v n h

    module _ (u : length all ≤ i) where
      none : drop i all ≡ []
      none = drop_of_length-le all u

      pub all_held : first_failure (sums_from source 0 s0 claim0 all) ≡ Accepted
      all_held = p.sums ∙ ap (λ (xs : List LayerMessages). first_failure (sums_from source i s claim xs)) none

      pub held_state : s ≡ state_after source s0 (all_messages all)
      held_state = ap (λ (xs : List LayerMessages). state_after source s (all_messages xs)) (sym none) ∙ p.state

-- the layers of a circuit have few rounds
rounds_at : (ks : List ℕ) (ms : List LayerMessages) → HaveShape Line ks ms → (i : ℕ) (d : LayerMessages) → i < length ms → length (get_or ms i d).rounds ≡ get_or ks i 0 + get_or ks i 0
rounds_at [] [] h i d u = absurd (omega (arith, u))
rounds_at [] (m ∷ ms) h i d u = absurd h
rounds_at (k ∷ ks) [] h i d u = absurd h
rounds_at (k ∷ ks) (m ∷ ms) h zero d u = h.0.rounds
rounds_at (k ∷ ks) (m ∷ ms) h (suc i) d u = rounds_at ks ms h.1 i d (omega (arith, u))

widths_few : (c : SoundCircuit) (j : ℕ) (layers : List (List CircuitGate)) (i : ℕ) → j + length layers ≤ height c.parts → get_or (lower_exponents (layers_from c.parts j layers)) i 0 ≤ 20
widths_few c j [] i u = omega arith
widths_few c j (gates ∷ layers) zero u = (size_of c (j + 1) (omega (arith, u))).2
widths_few c j (gates ∷ layers) (suc i) u = widths_few c (j + 1) layers i (omega (arith, u))

module _ (c : SoundCircuit) (messages : Messages) (shape : HaveShape Line (drop 1 (exponents c.parts)) messages.layers) where
  below : HaveShape Line (lower_exponents (layers_of c.parts)) messages.layers
  below = have_shape Line c.parts messages shape

  pub few_rounds : All (λ (layer : LayerMessages). length layer.rounds ≤ 40) messages.layers
  few_rounds i d u =
      let many = rounds_at (lower_exponents (layers_of c.parts)) messages.layers below i d u in
      let few = widths_few c 0 c.parts.layers i (omega arith) in
      omega (arith, many, few)

  -- as many challenges as there are messages are there after the output point
  pub has_messages : (source : Source) (s : List ℕ) → IsTrue (source.has s (challenges_of c.parts)) → IsTrue (source.has (state_after_point source s (exponent_at c.parts 0)) (length (all_messages messages.layers)))
  has_messages source s has =
      subst (λ (n : ℕ). IsTrue (source.has (state_after_point source s (exponent_at c.parts 0)) n)) (sym (length-all Line (layers_of c.parts) messages.layers below))
      (has_after_point source s (exponent_at c.parts 0) (message_count (layers_of c.parts)) has)
