-- Messages that are filled in one after another, and the challenges after them
use Rattle.std.proofs.Common.{◌≡◌, ℕ, suc, ◌+◌, ◌<◌, ◌≤◌, List, [], ◌∷◌, ◌++◌, length, get_or, drop, IsTrue, refl, sym, ◌∙◌, ap, subst, append_assoc, append-nil, length-append, drop_of_length-le}
use Rattle.std.specs.Prelude.{Result, Ok, Err, IfOk}
use Rattle.std.proofs.lemmas.List.{drop_more, length-map}
use Rattle.field_ext.specs.Field.{K, k_ops}
use Rattle.field_ext.specs.Polynomial.{value_at}
use Rattle.transcript_fs.specs.Source.{Source, draws, state_after}
use Rattle.transcript_fs.proofs.api.Draws.{draws-append, state-append, has_any, has_front, has_behind}
use Rattle.proof_wire.specs.declared.messages.Round.{Round}
use Rattle.proof_wire.specs.declared.messages.LayerMessages.{LayerMessages}
use Rattle.proof_wire.specs.Spelling.{coefficients_of}
use Rattle.proof_wire.specs.Lists.{round_messages, messages_of, all_messages}
use Rattle.proof_two.specs.declared.pairs.RoundPair.{RoundPair}
use Rattle.proof_two.specs.declared.pairs.LayerPairs.{LayerPairs}
use Rattle.gkr_verify.specs.ShortProof.{filled_round, filled_rounds, filled_layer, filled_layers, next_claim, state_at_last}

-- what follows from a fact of an answer that is Ok
pub ok_map : {A E : Type 0} (P Q : A → Type 0) (r : Result A E) → ((x : A) → P x → Q x) → IfOk r P → IfOk r Q
ok_map P Q (Ok x) f h = f x h
ok_map P Q (Err e) f h = h

module _ (source : Source) (s0 : List ℕ) (claim0 : K) where
  -- i messages of rounds are filled in
  pub record RoundsFilled (all : List RoundPair) (before : List K) (i : ℕ) (s : List ℕ) (claim : K) (made : List Round) (drawn : List K) : Type 0 where
    pub made_is : made ++ filled_rounds source s claim (drop i all) ≡ filled_rounds source s0 claim0 all
    pub drawn_is : drawn ++ draws source s (round_messages (filled_rounds source s claim (drop i all))) ≡ before ++ draws source s0 (round_messages (filled_rounds source s0 claim0 all))
    pub state_is : state_after source s (round_messages (filled_rounds source s claim (drop i all))) ≡ state_after source s0 (round_messages (filled_rounds source s0 claim0 all))
    pub has : IsTrue (source.has s (length (drop i all)))

  pub rounds_begun : (all : List RoundPair) (before : List K) → IsTrue (source.has s0 (length all)) → RoundsFilled all before 0 s0 claim0 [] before
  rounds_begun all before has = record { made_is = refl; drawn_is = refl; state_is = refl; has = has }

  module _ (all : List RoundPair) (before : List K) (i : ℕ) (s : List ℕ) (claim : K) (made : List Round) (drawn : List K) (p : RoundsFilled all before i s claim made drawn) where
    module _ (pair : RoundPair) (u : i < length all) (is : pair ≡ get_or all i pair) where
      split : drop i all ≡ pair ∷ drop (i + 1) all
      split = drop_more all i pair u ∙ ap (λ (x : RoundPair). x ∷ drop (i + 1) all) (sym is)

      abbrev round : Round
      round = filled_round claim pair

      abbrev taken : List ℕ
      taken = source.absorb s (coefficients_of round)

      abbrev rest : List Round
      rest = filled_rounds source (source.after taken) (value_at k_ops (coefficients_of round) (source.draw taken)) (drop (i + 1) all)

      whole : round ∷ rest ≡ filled_rounds source s claim (drop i all)
      whole = ap (filled_rounds source s claim) (sym split)

      has_suc : IsTrue (source.has s (suc (length (drop (i + 1) all))))
      has_suc = subst (λ (xs : List RoundPair). IsTrue (source.has s (length xs))) split p.has

      pub round_has : IsTrue (source.has s 1)
      round_has = has_any source s (length (drop (i + 1) all)) has_suc

      pub round_filled : RoundsFilled all before (i + 1) (source.after taken) (value_at k_ops (coefficients_of round) (source.draw taken)) (made ++ round ∷ []) (drawn ++ source.draw taken ∷ [])
      round_filled = record {
        made_is = append_assoc made (round ∷ []) rest ∙ ap (λ (xs : List Round). made ++ xs) whole ∙ p.made_is;
        drawn_is =
            append_assoc drawn (source.draw taken ∷ []) (draws source (source.after taken) (round_messages rest))
            ∙ ap (λ (xs : List Round). drawn ++ draws source s (round_messages xs)) whole
            ∙ p.drawn_is;
        state_is = ap (λ (xs : List Round). state_after source s (round_messages xs)) whole ∙ p.state_is;
        has = source.has_after taken (length (drop (i + 1) all)) (source.has_absorbed s (coefficients_of round) (suc (length (drop (i + 1) all))) has_suc);
      }

    module _ (u : length all ≤ i) where
      pub rounds_made : made ≡ filled_rounds source s0 claim0 all
      rounds_made = sym (append-nil made) ∙ ap (λ (xs : List RoundPair). made ++ filled_rounds source s claim xs) (sym (drop_of_length-le all u)) ∙ p.made_is

      pub rounds_drawn : drawn ≡ before ++ draws source s0 (round_messages (filled_rounds source s0 claim0 all))
      rounds_drawn = sym (append-nil drawn) ∙ ap (λ (xs : List RoundPair). drawn ++ draws source s (round_messages (filled_rounds source s claim xs))) (sym (drop_of_length-le all u)) ∙ p.drawn_is

      pub rounds_state : s ≡ state_after source s0 (round_messages (filled_rounds source s0 claim0 all))
      rounds_state = ap (λ (xs : List RoundPair). state_after source s (round_messages (filled_rounds source s claim xs))) (sym (drop_of_length-le all u)) ∙ p.state_is

  -- i layers are filled in
  pub record LayersFilled (all : List LayerPairs) (before : List K) (i : ℕ) (s : List ℕ) (claim : K) (made : List LayerMessages) (drawn : List K) : Type 0 where
    pub made_is : made ++ filled_layers source s claim (drop i all) ≡ filled_layers source s0 claim0 all
    pub drawn_is : drawn ++ draws source s (all_messages (filled_layers source s claim (drop i all))) ≡ before ++ draws source s0 (all_messages (filled_layers source s0 claim0 all))
    pub state_is : state_after source s (all_messages (filled_layers source s claim (drop i all))) ≡ state_after source s0 (all_messages (filled_layers source s0 claim0 all))
    pub has : IsTrue (source.has s (length (all_messages (filled_layers source s claim (drop i all)))))

  pub layers_begun : (all : List LayerPairs) (before : List K) → IsTrue (source.has s0 (length (all_messages (filled_layers source s0 claim0 all)))) → LayersFilled all before 0 s0 claim0 [] before
  layers_begun all before has = record { made_is = refl; drawn_is = refl; state_is = refl; has = has }

  module _ (all : List LayerPairs) (before : List K) (i : ℕ) (s : List ℕ) (claim : K) (made : List LayerMessages) (drawn : List K) (p : LayersFilled all before i s claim made drawn) where
    module _ (layer : LayerPairs) (u : i < length all) (is : layer ≡ get_or all i layer) where
      split_layers : drop i all ≡ layer ∷ drop (i + 1) all
      split_layers = drop_more all i layer u ∙ ap (λ (x : LayerPairs). x ∷ drop (i + 1) all) (sym is)

      abbrev messages : LayerMessages
      messages = filled_layer source s claim layer

      abbrev next : List ℕ
      next = source.after (state_at_last source s messages)

      abbrev later : List LayerMessages
      later = filled_layers source next (next_claim source s messages) (drop (i + 1) all)

      all_whole : messages ∷ later ≡ filled_layers source s claim (drop i all)
      all_whole = ap (filled_layers source s claim) (sym split_layers)

      after_layer : state_after source s (messages_of messages) ≡ next
      after_layer = state-append source s (round_messages messages.rounds) (messages.last ∷ [])

      has_all : IsTrue (source.has s (length (messages_of messages) + length (all_messages later)))
      has_all =
          subst (λ (n : ℕ). IsTrue (source.has s n)) (length-append (messages_of messages) (all_messages later))
          (subst (λ (xs : List LayerMessages). IsTrue (source.has s (length (all_messages xs)))) (sym all_whole) p.has)

      pub layer_has : IsTrue (source.has s (length (messages_of messages)))
      layer_has = has_front source s (length (messages_of messages)) (length (all_messages later)) has_all

      pub layer_filled : LayersFilled all before (i + 1) (state_after source s (messages_of messages)) (next_claim source s messages) (made ++ messages ∷ []) (drawn ++ draws source s (messages_of messages))
      layer_filled = subst (λ (t : List ℕ). LayersFilled all before (i + 1) t (next_claim source s messages) (made ++ messages ∷ []) (drawn ++ draws source s (messages_of messages))) (sym after_layer) record {
        made_is = append_assoc made (messages ∷ []) later ∙ ap (λ (xs : List LayerMessages). made ++ xs) all_whole ∙ p.made_is;
        drawn_is =
            append_assoc drawn (draws source s (messages_of messages)) (draws source next (all_messages later))
            ∙ ap (λ (t : List ℕ). drawn ++ (draws source s (messages_of messages) ++ draws source t (all_messages later))) (sym after_layer)
            ∙ ap (λ (xs : List K). drawn ++ xs) (sym (draws-append source s (messages_of messages) (all_messages later)))
            ∙ ap (λ (xs : List LayerMessages). drawn ++ draws source s (all_messages xs)) all_whole
            ∙ p.drawn_is;
        state_is =
            ap (λ (t : List ℕ). state_after source t (all_messages later)) (sym after_layer)
            ∙ sym (state-append source s (messages_of messages) (all_messages later))
            ∙ ap (λ (xs : List LayerMessages). state_after source s (all_messages xs)) all_whole
            ∙ p.state_is;
        has = subst (λ (t : List ℕ). IsTrue (source.has t (length (all_messages later)))) after_layer (has_behind source s (messages_of messages) (length (all_messages later)) has_all);
      }

    module _ (u : length all ≤ i) where
      pub layers_made : made ≡ filled_layers source s0 claim0 all
      layers_made = sym (append-nil made) ∙ ap (λ (xs : List LayerPairs). made ++ filled_layers source s claim xs) (sym (drop_of_length-le all u)) ∙ p.made_is

      pub layers_drawn : drawn ≡ before ++ draws source s0 (all_messages (filled_layers source s0 claim0 all))
      layers_drawn = sym (append-nil drawn) ∙ ap (λ (xs : List LayerPairs). drawn ++ draws source s (all_messages (filled_layers source s claim xs))) (sym (drop_of_length-le all u)) ∙ p.drawn_is

      pub layers_state : s ≡ state_after source s0 (all_messages (filled_layers source s0 claim0 all))
      layers_state = ap (λ (xs : List LayerPairs). state_after source s (all_messages (filled_layers source s claim xs))) (sym (drop_of_length-le all u)) ∙ p.state_is

-- the challenge after a layer's last message
module _ (source : Source) (s : List ℕ) (layer : LayerMessages) where
  behind_rounds : source.after (state_at_last source s layer) ≡ state_after source s (messages_of layer)
  behind_rounds = sym (state-append source s (round_messages layer.rounds) (layer.last ∷ []))

  pub layer_state : (t : List ℕ) → t ≡ source.after (state_at_last source s layer) → t ≡ state_after source s (messages_of layer)
  layer_state t e = e ∙ behind_rounds

  pub layer_drawn : (before drawn : List K) (r : K) → drawn ≡ before ++ draws source s (round_messages layer.rounds) → r ≡ source.draw (state_at_last source s layer) → drawn ++ r ∷ [] ≡ before ++ draws source s (messages_of layer)
  layer_drawn before drawn r e f =
      (λ j. e j ++ f j ∷ [])
      ∙ append_assoc before (draws source s (round_messages layer.rounds)) (source.draw (state_at_last source s layer) ∷ [])
      ∙ ap (λ (xs : List K). before ++ xs) (sym (draws-append source s (round_messages layer.rounds) (layer.last ∷ [])))

  abbrev rounds_count : ℕ
  rounds_count = length (round_messages layer.rounds)

  has_both : IsTrue (source.has s (length (messages_of layer))) → IsTrue (source.has s (rounds_count + 1))
  has_both h = subst (λ (n : ℕ). IsTrue (source.has s n)) (length-append (round_messages layer.rounds) (layer.last ∷ [])) h

  pub rounds_have : IsTrue (source.has s (length (messages_of layer))) → IsTrue (source.has s (length layer.rounds))
  rounds_have h = subst (λ (n : ℕ). IsTrue (source.has s n)) (length-map layer.rounds coefficients_of) (has_front source s rounds_count 1 (has_both h))

  pub last_has : IsTrue (source.has s (length (messages_of layer))) → IsTrue (source.has (state_after source s (round_messages layer.rounds)) 1)
  last_has h = has_behind source s (round_messages layer.rounds) 1 (has_both h)

-- as many messages as there were
pub length-filled : (source : Source) (s : List ℕ) (claim : K) (pairs : List RoundPair) → length (filled_rounds source s claim pairs) ≡ length pairs
length-filled source s claim [] = refl
length-filled source s claim (pair ∷ pairs) =
    let taken = source.absorb s (coefficients_of (filled_round claim pair)) in
    ap (λ (n : ℕ). suc n) (length-filled source (source.after taken) (value_at k_ops (coefficients_of (filled_round claim pair)) (source.draw taken)) pairs)
