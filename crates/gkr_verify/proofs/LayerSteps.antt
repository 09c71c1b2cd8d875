-- The equations of a layer, where its messages come before those of the layers below
use Rattle.std.proofs.Common.{◌≡◌, ℕ, suc, ◌+◌, List, [], ◌∷◌, ◌++◌, length, get_or, take, drop, true, false, sym, ◌∙◌, ap, arith, append_assoc}
use Rattle.field_ext.specs.Field.{K, k_ops, zero_k, same_k}
use Rattle.field_ext.specs.Polynomial.{value_at}
use Rattle.circuit_core.specs.declared.gate.CircuitGate.{CircuitGate}
use Rattle.gkr_layers.specs.Layers.{GateLayer}
use Rattle.transcript_fs.specs.Source.{Source, draws, state_after}
use Rattle.gkr_layers.specs.declared.verdict.Verdict.TheVariants.{End}
use Rattle.gkr_layers.specs.Equations.{Equation, end_equation, claim_after, sum_equations, equations, Answered, answer}
use Rattle.gkr_verify.proofs.Choices.{first_holds, first_fails}
use Rattle.transcript_fs.proofs.api.Draws.{draws-append, length-draws}
use Rattle.gkr_layers.proofs.api.Lists.{front-take, next-read, rest-drop}
use Rattle.gkr_layers.specs.Places.{Place, weighted_summand_from}
use Rattle.proof_wire.specs.declared.form.ProofForm.{ProofForm}
use Rattle.gkr_layers.specs.Forms.{said_left, said_right, place_between}

module _ (form : ProofForm) (source : Source) (s : List ℕ) (number k : ℕ) (gates : List CircuitGate) (below : List GateLayer) (input : List K) (place : Place K) (claim : K) (rounds : List (List K)) (last : List K) (qs : List (List K)) (size : length rounds ≡ k + k) where
  abbrev layer_bound : List K
  layer_bound = draws source s rounds

  abbrev last_state : List ℕ
  last_state = source.absorb (state_after source s rounds) last

  abbrev last_challenge : K
  last_challenge = source.draw last_state

  abbrev messages : List (List K)
  messages = (rounds ++ last ∷ []) ++ qs

  abbrev challenges : List K
  challenges = draws source s messages

  flat : messages ≡ rounds ++ last ∷ qs
  flat = append_assoc rounds (last ∷ []) qs

  drawn : challenges ≡ layer_bound ++ last_challenge ∷ draws source (source.after last_state) qs
  drawn = ap (draws source s) flat ∙ draws-append source s rounds (last ∷ qs)

  bound_size : length layer_bound ≡ k + k
  bound_size = length-draws source s rounds ∙ size

  q-front : take (k + k) messages ≡ rounds
  q-front = ap (take (k + k)) flat ∙ front-take rounds (last ∷ qs) (k + k) size

  q-last : get_or messages (k + k) [] ≡ last
  q-last = ap (λ (xs : List (List K)). get_or xs (k + k) []) flat ∙ next-read rounds qs last [] (k + k) size

  after_last : k + k + 1 ≡ suc (k + k)
  after_last = omega arith

  q-rest : drop (k + k + 1) messages ≡ qs
  q-rest = ap (drop (k + k + 1)) flat ∙ rest-drop rounds qs last (k + k) (k + k + 1) size after_last

  r-front : take (k + k) challenges ≡ layer_bound
  r-front = ap (take (k + k)) drawn ∙ front-take layer_bound (last_challenge ∷ draws source (source.after last_state) qs) (k + k) bound_size

  r-last : get_or challenges (k + k) zero_k ≡ last_challenge
  r-last = ap (λ (xs : List K). get_or xs (k + k) zero_k) drawn ∙ next-read layer_bound (draws source (source.after last_state) qs) last_challenge zero_k (k + k) bound_size

  r-rest : drop (k + k + 1) challenges ≡ draws source (source.after last_state) qs
  r-rest = ap (drop (k + k + 1)) drawn ∙ rest-drop layer_bound (draws source (source.after last_state) qs) last_challenge (k + k) (k + k + 1) bound_size after_last

  -- the equations of the layer's rounds, that of its end, and those of the layers below
  pub layer_equations : equations form number (record { k = k; gates = gates } ∷ below) input place claim messages challenges
      ≡ sum_equations number 1 claim rounds layer_bound
      ++ end_equation number (claim_after claim rounds layer_bound) (weighted_summand_from k_ops gates place (take k layer_bound) (drop k layer_bound) (said_left k_ops form last) (said_right k_ops form last))
      ∷ equations form (suc number) below input (place_between k_ops form (take k layer_bound) (drop k layer_bound) last_challenge) (value_at k_ops last last_challenge) qs (draws source (source.after last_state) qs)
  layer_equations =
      λ i. sum_equations number 1 claim (q-front i) (r-front i)
      ++ end_equation number (claim_after claim (q-front i) (r-front i)) (weighted_summand_from k_ops gates place (take k (r-front i)) (drop k (r-front i)) (said_left k_ops form (q-last i)) (said_right k_ops form (q-last i)))
      ∷ equations form (suc number) below input (place_between k_ops form (take k (r-front i)) (drop k (r-front i)) (r-last i)) (value_at k_ops (q-last i) (r-last i)) (q-rest i) (r-rest i)

  abbrev layer_end : K
  layer_end = weighted_summand_from k_ops gates place (take k layer_bound) (drop k layer_bound) (said_left k_ops form last) (said_right k_ops form last)

  abbrev layer_whole : List Equation
  layer_whole = equations form number (record { k = k; gates = gates } ∷ below) input place claim messages challenges

  abbrev equations_below : List Equation
  equations_below = equations form (suc number) below input (place_between k_ops form (take k layer_bound) (drop k layer_bound) last_challenge) (value_at k_ops last last_challenge) qs (draws source (source.after last_state) qs)

  pub round_fails : (answered : Answered) → ((rest : List Equation) (more : List (List K)) → answer source s (sum_equations number 1 claim rounds layer_bound ++ rest) (rounds ++ more) ≡ answered) → answer source s layer_whole messages ≡ answered
  round_fails answered fails = (λ i. answer source s (layer_equations i) (flat i)) ∙ fails _ _

  module _ (holds : (rest : List Equation) (more : List (List K)) → answer source s (sum_equations number 1 claim rounds layer_bound ++ rest) (rounds ++ more) ≡ answer source (state_after source s rounds) rest more) (had want : K) (had-is : had ≡ claim_after claim rounds layer_bound) (want-is : want ≡ layer_end) where
    at_end : answer source s layer_whole messages ≡ answer source (state_after source s rounds) (end_equation number had want ∷ equations_below) (last ∷ qs)
    at_end =
        (λ i. answer source s (layer_equations i) (flat i))
        ∙ holds _ _
        ∙ (λ i. answer source (state_after source s rounds) (end_equation number (sym had-is i) (sym want-is i) ∷ equations_below) (last ∷ qs))

    pub end_fails : same_k had want ≡ false → answer source s layer_whole messages ≡ record { verdict = End number had want; state = state_after source s rounds }
    end_fails e = at_end ∙ first_fails (same_k had want) _ _ e

    pub end_holds : same_k had want ≡ true → (next : Place K) (value : K) (s' : List ℕ) (t : K) → t ≡ last_challenge → next ≡ place_between k_ops form (take k layer_bound) (drop k layer_bound) t → value ≡ value_at k_ops last t → s' ≡ source.after last_state →
        answer source s layer_whole messages ≡ answer source s' (equations form (suc number) below input next value qs (draws source s' qs)) qs
    end_holds e next value s' t ht hn hv hs =
        at_end
        ∙ first_holds (same_k had want) _ _ e
        ∙ (λ i. answer source (sym hs i) (equations form (suc number) below input (place_between k_ops form (take k layer_bound) (drop k layer_bound) (sym ht i)) (value_at k_ops last (sym ht i)) qs (draws source (sym hs i) qs)) qs)
        ∙ (λ i. answer source s' (equations form (suc number) below input (sym hn i) (sym hv i) qs (draws source s' qs)) qs)
