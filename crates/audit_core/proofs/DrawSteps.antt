-- Challenges that are left after some of a layer's messages
use Rattle.std.proofs.Common.{◌≡◌, ℕ, suc, ◌+◌, ◌-◌, ◌<◌, ◌≤◌, List, [], ◌∷◌, ◌++◌, length, take, get_or, IsTrue, sym, ◌∙◌, ap, subst, arith, length-append, length-take, append_assoc}
use Rattle.std.proofs.lemmas.List.{take_more, take_all, length-map, get_or-map}
use Rattle.field_ext.specs.Field.{K}
use Rattle.transcript_fs.specs.Source.{Source, draws, state_after}
use Rattle.transcript_fs.proofs.api.Draws.{has_any, has_front, has_behind, draws-append, state-append}
use Rattle.proof_wire.specs.declared.messages.LayerMessages.{LayerMessages}
use Rattle.proof_wire.specs.declared.messages.Round.{Round}
use Rattle.proof_wire.specs.Spelling.{coefficients_of}
use Rattle.proof_wire.specs.Lists.{round_messages, messages_of, all_messages}
use Rattle.gkr_prove.proofs.api.LayerSteps.{messages-more}
use Rattle.audit_core.proofs.Flat.{number_most}

module _ (source : Source) (s : List ℕ) (rounds : List Round) (last : List K) where
  -- after some of a layer's rounds there is one more challenge
  pub has_here : (i : ℕ) → i ≤ length rounds → IsTrue (source.has s (length (round_messages rounds ++ last ∷ []))) → IsTrue (source.has (state_after source s (take i (round_messages rounds))) 1)
  has_here i u h =
      let size : length (take i (round_messages rounds)) ≡ i = omega (arith, u, length-take i (round_messages rounds), length-map rounds coefficients_of) in
      let all : length (round_messages rounds ++ last ∷ []) ≡ length (take i (round_messages rounds)) + suc (length rounds - i) = omega (arith, u, size, length-append (round_messages rounds) (last ∷ []), length-map rounds coefficients_of) in
      has_any source (state_after source s (take i (round_messages rounds))) (length rounds - i)
      (has_behind source s (take i (round_messages rounds)) (suc (length rounds - i)) (subst (λ (n : ℕ). IsTrue (source.has s n)) all h))

  -- one more round
  module _ (i : ℕ) (r : Round) (q : List K) (u : i < length rounds) (is : r ≡ get_or rounds i r) (e : q ≡ coefficients_of r) where
    rounds-more : take (i + 1) (round_messages rounds) ≡ take i (round_messages rounds) ++ q ∷ []
    rounds-more =
        let v : i < length (round_messages rounds) = omega (arith, u, length-map rounds coefficients_of) in
        take_more (round_messages rounds) i [] v
        ∙ ap (λ (x : List K). take i (round_messages rounds) ++ x ∷ []) (get_or-map coefficients_of rounds i r [] u ∙ ap coefficients_of (sym is) ∙ sym e)

    pub round-drawn : (before drawn drawn' : List K) (t : List ℕ) → t ≡ state_after source s (take i (round_messages rounds)) → drawn ≡ before ++ draws source s (take i (round_messages rounds)) → drawn' ≡ drawn ++ draws source t (q ∷ []) →
        drawn' ≡ before ++ draws source s (take (i + 1) (round_messages rounds))
    round-drawn before drawn drawn' t at a b =
        b ∙ (λ j. a j ++ draws source (at j) (q ∷ []))
        ∙ append_assoc before (draws source s (take i (round_messages rounds))) (draws source (state_after source s (take i (round_messages rounds))) (q ∷ []))
        ∙ ap (λ (rs : List K). before ++ rs) (sym (draws-append source s (take i (round_messages rounds)) (q ∷ [])) ∙ ap (draws source s) (sym rounds-more))

    pub round-state : (t t' : List ℕ) → t ≡ state_after source s (take i (round_messages rounds)) → t' ≡ state_after source t (q ∷ []) → t' ≡ state_after source s (take (i + 1) (round_messages rounds))
    round-state t t' at b =
        b ∙ ap (λ (x : List ℕ). state_after source x (q ∷ [])) at
        ∙ sym (state-append source s (take i (round_messages rounds)) (q ∷ [])) ∙ ap (state_after source s) (sym rounds-more)

  -- and the last message
  module _ (i : ℕ) (u : length rounds ≤ i) where
    rounds-all : take i (round_messages rounds) ≡ round_messages rounds
    rounds-all = let v : length (round_messages rounds) ≤ i = omega (arith, u, length-map rounds coefficients_of) in take_all i (round_messages rounds) v

    pub last-drawn : (before drawn drawn' : List K) (t : List ℕ) (q : List K) → q ≡ last → t ≡ state_after source s (take i (round_messages rounds)) → drawn ≡ before ++ draws source s (take i (round_messages rounds)) → drawn' ≡ drawn ++ draws source t (q ∷ []) →
        drawn' ≡ before ++ draws source s (round_messages rounds ++ last ∷ [])
    last-drawn before drawn drawn' t q e at a b =
        b ∙ (λ j. a j ++ draws source (at j) (e j ∷ []))
        ∙ append_assoc before (draws source s (take i (round_messages rounds))) (draws source (state_after source s (take i (round_messages rounds))) (last ∷ []))
        ∙ ap (λ (rs : List K). before ++ rs) (sym (draws-append source s (take i (round_messages rounds)) (last ∷ [])) ∙ ap (λ (qs : List (List K)). draws source s (qs ++ last ∷ [])) rounds-all)

    pub last-state : (t t' : List ℕ) (q : List K) → q ≡ last → t ≡ state_after source s (take i (round_messages rounds)) → t' ≡ state_after source t (q ∷ []) → t' ≡ state_after source s (round_messages rounds ++ last ∷ [])
    last-state t t' q e at b =
        b ∙ (λ j. state_after source (at j) (e j ∷ []))
        ∙ sym (state-append source s (take i (round_messages rounds)) (last ∷ [])) ∙ ap (λ (qs : List (List K)). state_after source s (qs ++ last ∷ [])) rounds-all

-- and one more layer
module _ (source : Source) (s : List ℕ) (ms : List LayerMessages) (i : ℕ) (m : LayerMessages) (u : i < length ms) (is : m ≡ get_or ms i m) where
  layers-more : all_messages (take (i + 1) ms) ≡ all_messages (take i ms) ++ messages_of m
  layers-more = ap all_messages (take_more ms i m u ∙ ap (λ (x : LayerMessages). take i ms ++ x ∷ []) (sym is)) ∙ messages-more (take i ms) m

  pub layer-drawn : draws source s (all_messages (take i ms)) ++ draws source (state_after source s (all_messages (take i ms))) (messages_of m) ≡ draws source s (all_messages (take (i + 1) ms))
  layer-drawn = sym (draws-append source s (all_messages (take i ms)) (messages_of m)) ∙ ap (draws source s) (sym layers-more)

  pub layer-state : state_after source (state_after source s (all_messages (take i ms))) (messages_of m) ≡ state_after source s (all_messages (take (i + 1) ms))
  layer-state = sym (state-append source s (all_messages (take i ms)) (messages_of m)) ∙ ap (state_after source s) (sym layers-more)

  -- and there are challenges for it
  pub has_layer_here : IsTrue (source.has s (length (all_messages ms))) → IsTrue (source.has (state_after source s (all_messages (take i ms))) (length (messages_of m)))
  has_layer_here h =
      let rest : ℕ = length (all_messages ms) - length (all_messages (take (i + 1) ms)) in
      let sum = ap length layers-more ∙ length-append (all_messages (take i ms)) (messages_of m) in
      let all : length (all_messages ms) ≡ length (all_messages (take i ms)) + (length (messages_of m) + (length (all_messages ms) - length (all_messages (take (i + 1) ms)))) = omega (arith, sum, number_most ms (i + 1)) in
      has_front source (state_after source s (all_messages (take i ms))) (length (messages_of m)) rest
      (has_behind source s (all_messages (take i ms)) (length (messages_of m) + rest) (subst (λ (n : ℕ). IsTrue (source.has s n)) all h))
