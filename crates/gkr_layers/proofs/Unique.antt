-- For a source of challenges there is one list of honest messages
use Rattle.std.proofs.Common.{◌≡◌, ℕ, zero, suc, ◌+◌, ◌-◌, ◌<◌, ◌≤◌, ◌⊎◌, inl, inr, List, [], ◌∷◌, ◌++◌, length, take, drop, get_or, refl, sym, ◌∙◌, ap, ap₂, arith, length-drop, get_or-take, take-take}
use Rattle.std.proofs.lemmas.Bool.{cases_lt}
use Rattle.std.proofs.lemmas.List.{take_more, take-append-drop}
use Rattle.field_ext.specs.Field.{K, k_ops, zero_k}
use Rattle.field_ext.specs.Polynomial.{coefficients}
use Rattle.circuit_core.specs.declared.gate.CircuitGate.{CircuitGate}
use Rattle.gkr_layers.specs.Layers.{GateLayer, values_over, message_count, next_place}
use Rattle.transcript_fs.specs.Source.{Source, draws, state_after}
use Rattle.gkr_layers.specs.Places.{Place}
use Rattle.gkr_layers.specs.Sumcheck.{round_polynomial}
use Rattle.proof_wire.specs.declared.form.ProofForm.{ProofForm}
use Rattle.proof_wire.specs.Forms.{last_degree}
use Rattle.gkr_layers.specs.Forms.{last_polynomial, place_between}
use Rattle.gkr_layers.specs.Honest.{IsHonestLayer, AreHonest}

draws-take : (source : Source) (s : List ℕ) (n : ℕ) (qs : List (List K)) → take n (draws source s qs) ≡ draws source s (take n qs)
draws-take source s zero qs = refl
draws-take source s (suc n) [] = refl
draws-take source s (suc n) (q ∷ qs) = ap (λ (rs : List K). source.draw (source.absorb s q) ∷ rs) (draws-take source (source.after (source.absorb s q)) n qs)

draws-drop : (source : Source) (s : List ℕ) (n : ℕ) (qs : List (List K)) → drop n (draws source s qs) ≡ draws source (state_after source s (take n qs)) (drop n qs)
draws-drop source s zero qs = refl
draws-drop source s (suc n) [] = refl
draws-drop source s (suc n) (q ∷ qs) = draws-drop source (source.after (source.absorb s q)) n qs

module _ (form : ProofForm) where
  module _ (k : ℕ) (gates : List CircuitGate) (values : List K) (place : Place K) (source : Source) (s : List ℕ) (qs qs' : List (List K)) (u : k + k + 1 ≤ length qs) (v : k + k + 1 ≤ length qs')
      (h : IsHonestLayer form k gates values place qs (draws source s qs)) (h' : IsHonestLayer form k gates values place qs' (draws source s qs')) where
    same_drawn : (n : ℕ) → take n qs ≡ take n qs' → take n (draws source s qs) ≡ take n (draws source s qs')
    same_drawn n e = draws-take source s n qs ∙ ap (draws source s) e ∙ sym (draws-take source s n qs')

    -- the messages before a place determine the one there
    same_next : (n : ℕ) → n < k + k + 1 → take n qs ≡ take n qs' → get_or qs n [] ≡ get_or qs' n []
    same_next n w e = by_place (cases_lt n (k + k))
      where
        by_place : (n < k + k) ⊎ (k + k ≤ n) → get_or qs n [] ≡ get_or qs' n []
        by_place (inl x) =
            h.rounds n x ∙ ap (λ (bound : List K). coefficients k_ops 3 (round_polynomial k_ops k gates values place bound (k + k - n - 1))) (same_drawn n e) ∙ sym (h'.rounds n x)
        by_place (inr x) =
            let last : n ≡ k + k = omega arith in
            let rs : take (k + k) (draws source s qs) ≡ take (k + k) (draws source s qs') = same_drawn (k + k) (ap (λ (i : ℕ). take i qs) (sym last) ∙ e ∙ ap (λ (i : ℕ). take i qs') last) in
            ap (λ (i : ℕ). get_or qs i []) last ∙ h.last
            ∙ ap (λ (rs : List K). coefficients k_ops (last_degree form k + 1) (last_polynomial k_ops form values (take k rs) (drop k rs))) rs
            ∙ sym h'.last ∙ ap (λ (i : ℕ). get_or qs' i []) (sym last)

    pub same_messages : (n : ℕ) → n ≤ k + k + 1 → take n qs ≡ take n qs'
    same_messages zero w = refl
    same_messages (suc n) w =
        let before = same_messages n (omega arith) in
        let one : suc n ≡ n + 1 = omega arith in
        let a : n < length qs = omega arith in
        let b : n < length qs' = omega arith in
        ap (λ (i : ℕ). take i qs) one
        ∙ take_more qs n [] a
        ∙ ap₂ (λ (xs : List (List K)) (q : List K). xs ++ q ∷ []) before (same_next n (omega arith) before)
        ∙ sym (take_more qs' n [] b)
        ∙ ap (λ (i : ℕ). take i qs') (sym one)

  -- where a layer leads depends on its own challenges alone
  place_front : (k : ℕ) (rs : List K) → next_place k_ops form k (take (k + k + 1) rs) ≡ next_place k_ops form k rs
  place_front k rs =
      let front : take (k + k) (take (k + k + 1) rs) ≡ take (k + k) rs = take-take (k + k) (k + k + 1) rs (omega arith) in
      let last : get_or (take (k + k + 1) rs) (k + k) zero_k ≡ get_or rs (k + k) zero_k = let w : k + k < k + k + 1 = omega arith in get_or-take (k + k + 1) rs (k + k) zero_k w in
      λ i. place_between k_ops form (take k (front i)) (drop k (front i)) (last i)

  pub unique : (layers : List GateLayer) (input : List K) (place : Place K) (source : Source) (s : List ℕ) (qs qs' : List (List K)) → length qs ≡ message_count layers → length qs' ≡ message_count layers →
      AreHonest form layers input place qs (draws source s qs) → AreHonest form layers input place qs' (draws source s qs') → qs ≡ qs'
  unique [] input place source s [] [] u v h h' = refl
  unique [] input place source s [] (q ∷ qs') u v h h' = absurd (omega arith)
  unique [] input place source s (q ∷ qs) qs' u v h h' = absurd (omega arith)
  unique (layer ∷ layers) input place source s qs qs' u v h h' =
      let k : ℕ = layer.k in
      let m : ℕ = layer.k + layer.k + 1 in
      let first : take (layer.k + layer.k + 1) qs ≡ take (layer.k + layer.k + 1) qs' =
      same_messages k layer.gates (values_over k_ops layers input) place source s qs qs' (omega arith) (omega arith) h.0 h'.0 (k + k + 1) (omega arith) in
      let next : next_place k_ops form k (draws source s qs) ≡ next_place k_ops form k (draws source s qs') =
      sym (place_front k (draws source s qs)) ∙ ap (next_place k_ops form k) (draws-take source s m qs ∙ ap (draws source s) first ∙ sym (draws-take source s m qs')) ∙ place_front k (draws source s qs') in
      let rest = unique layers input (next_place k_ops form k (draws source s qs')) source (state_after source s (take m qs')) (drop m qs) (drop m qs')
      (omega (arith, length-drop m qs)) (omega (arith, length-drop m qs'))
      (coe 0 1 (i. AreHonest form layers input (next i) (drop m qs) ((draws-drop source s m qs ∙ (λ j. draws source (state_after source s (first j)) (drop m qs))) i)) h.1)
      (coe 0 1 (i. AreHonest form layers input (next_place k_ops form k (draws source s qs')) (drop m qs') (draws-drop source s m qs' i)) h'.1) in
      sym (take-append-drop m qs) ∙ ap₂ (λ (xs ys : List (List K)). xs ++ ys) first rest ∙ take-append-drop m qs'
