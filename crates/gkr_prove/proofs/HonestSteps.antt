-- Honest messages, one more at a time
use Rattle.std.proofs.Common.{◌≡◌, ℕ, ◌+◌, ◌-◌, List, [], ◌∷◌, ◌++◌, length, take, drop, refl, sym, ◌∙◌, ap, ap₂, subst, arith, below_more}
use Rattle.std.proofs.lemmas.List.{get_or_append_left, get_or_push, take-append-le}
use Rattle.field_ext.specs.Field.{K, k_ops, zero_k}
use Rattle.field_ext.specs.Polynomial.{coefficients}
use Rattle.circuit_core.specs.declared.gate.CircuitGate.{CircuitGate}
use Rattle.gkr_layers.specs.Sumcheck.{round_polynomial}
use Rattle.gkr_layers.specs.Forms.{last_polynomial, place_between}
use Rattle.proof_wire.specs.Forms.{last_degree}
use Rattle.wiring_poly.proofs.api.Identity.{take-front}
use Rattle.transcript_fs.specs.Source.{Source, draws, state_after}
use Rattle.gkr_layers.specs.Honest.{AreHonestRounds, IsHonestLayer}
use Rattle.gkr_layers.specs.Layers.{next_place}
use Rattle.proof_wire.specs.declared.form.ProofForm.{ProofForm}
use Rattle.gkr_layers.specs.Places.{Place}

pub rounds_more : (k : ℕ) (gates : List CircuitGate) (values : List K) (place : Place K) (n : ℕ) (qs : List (List K)) (rs : List K) (q : List K) (r : K) → length qs ≡ n → length rs ≡ n →
    q ≡ coefficients k_ops 3 (round_polynomial k_ops k gates values place rs (k + k - length rs - 1)) →
    AreHonestRounds k gates values place n qs rs → AreHonestRounds k gates values place (n + 1) (qs ++ q ∷ []) (rs ++ r ∷ [])
rounds_more k gates values place n qs rs q r u v is honest =
    let message : List K → ℕ → List K = λ bound j. coefficients k_ops 3 (round_polynomial k_ops k gates values place bound (k + k - j - 1)) in
    below_more _ _
    (λ j w.
    get_or_append_left qs (q ∷ []) [] j (omega arith)
    ∙ honest j w
    ∙ ap (λ (bound : List K). message bound j) (sym (take-append-le j rs (r ∷ []) (omega arith))))
    (get_or_push qs q [] n u ∙ is
    ∙ ap₂ message (sym (take-front rs (r ∷ [])) ∙ ap (λ (i : ℕ). take i (rs ++ r ∷ [])) v) v)

pub draws-more : (source : Source) (s : List ℕ) (qs : List (List K)) (q : List K) → draws source s (qs ++ q ∷ []) ≡ draws source s qs ++ source.draw (source.absorb (state_after source s qs) q) ∷ []
draws-more source s [] q = refl
draws-more source s (p ∷ qs) q = ap (λ (rs : List K). source.draw (source.absorb s p) ∷ rs) (draws-more source (source.after (source.absorb s p)) qs q)

pub state-more : (source : Source) (s : List ℕ) (qs : List (List K)) (q : List K) → state_after source s (qs ++ q ∷ []) ≡ source.after (source.absorb (state_after source s qs) q)
state-more source s [] q = refl
state-more source s (p ∷ qs) q = state-more source (source.after (source.absorb s p)) qs q

module _ (form : ProofForm) (k : ℕ) (gates : List CircuitGate) (values : List K) (place : Place K) (source : Source) (s : List ℕ) (qs : List (List K)) (rs end : List K) where
  abbrev challenge : K
  challenge = source.draw (source.absorb (state_after source s qs) end)

  all_drawn : rs ≡ draws source s qs → rs ++ challenge ∷ [] ≡ draws source s (qs ++ end ∷ [])
  all_drawn e = ap (λ (xs : List K). xs ++ challenge ∷ []) e ∙ sym (draws-more source s qs end)

  rounds_kept : length rs ≡ k + k → take (k + k) (rs ++ challenge ∷ []) ≡ rs
  rounds_kept v = ap (λ (i : ℕ). take i (rs ++ challenge ∷ [])) (sym v) ∙ take-front rs (challenge ∷ [])

  -- the rounds and the last message make a layer's messages
  pub honest_layer : length qs ≡ k + k → length rs ≡ k + k → rs ≡ draws source s qs → AreHonestRounds k gates values place (k + k) qs rs →
      end ≡ coefficients k_ops (last_degree form k + 1) (last_polynomial k_ops form values (take k rs) (drop k rs)) → IsHonestLayer form k gates values place (qs ++ end ∷ []) (draws source s (qs ++ end ∷ []))
  honest_layer u v e honest is = subst (λ (xs : List K). IsHonestLayer form k gates values place (qs ++ end ∷ []) xs) (all_drawn e) (record {
    rounds = λ j w.
        get_or_append_left qs (end ∷ []) [] j (omega arith) ∙ honest j w
        ∙ ap (λ (bound : List K). coefficients k_ops 3 (round_polynomial k_ops k gates values place bound (k + k - j - 1))) (sym (take-append-le j rs (challenge ∷ []) (omega arith)));
    last =
        get_or_push qs end [] (k + k) u ∙ is
        ∙ ap (λ (xs : List K). coefficients k_ops (last_degree form k + 1) (last_polynomial k_ops form values (take k xs) (drop k xs))) (sym (rounds_kept v));
  })

  -- and lead to the next place
  pub layer_place : length rs ≡ k + k → rs ≡ draws source s qs → place_between k_ops form (take k rs) (drop k rs) challenge ≡ next_place k_ops form k (draws source s (qs ++ end ∷ []))
  layer_place v e =
      (λ i. place_between k_ops form (take k (sym (rounds_kept v) i)) (drop k (sym (rounds_kept v) i)) (sym (get_or_push rs challenge zero_k (k + k) v) i))
      ∙ ap (next_place k_ops form k) (all_drawn e)
