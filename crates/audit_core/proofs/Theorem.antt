-- An accepted falsehood has an exceptional challenge, and what is true is accepted
use Rattle.std.proofs.Common.{◌≡◌, ℕ, ◌+◌, ◌-◌, ◌<◌, inl, inr, List, [], ◌∷◌, Option, Some, None, length, take, drop, get_or, IsTrue, IsSome, refl, sym, ◌∙◌, ap, subst, arith}
use Rattle.std.proofs.lemmas.List.{get_or-drop}
use Rattle.field_ext.specs.Field.{F, K, k_ops, zero_k}
use Rattle.field_ext.specs.Polynomial.{SamePolynomial, coefficients}
use Rattle.field_ext.proofs.api.KLaws.{k_same}
use Rattle.circuit_core.specs.Parts.{input_table}
use Rattle.circuit_core.specs.Sound.{SoundCircuit, exponent_at, exponents}
use Rattle.transcript_fs.specs.Given.{given, numbers_of}
use Rattle.proof_wire.specs.declared.form.ProofForm.{ProofForm}
use Rattle.proof_wire.specs.declared.messages.Messages.{Messages}
use Rattle.proof_wire.specs.Lists.{all_messages, HaveShape}
use Rattle.gkr_layers.specs.declared.verdict.Verdict.TheVariants.{Accepted}
use Rattle.gkr_layers.specs.Places.{Place}
use Rattle.gkr_layers.specs.Places.Place.{At}
use Rattle.gkr_layers.specs.Sumcheck.{round_polynomial}
use Rattle.gkr_layers.specs.Layers.{GateLayer, layers_of, values_over, next_place, lower_exponents, message_count, challenges_of}
use Rattle.gkr_layers.specs.Acceptance.{CircuitClaim, claim_in, verdict_of, challenge_count}
use Rattle.gkr_layers.specs.Honest.{AreHonest}
use Rattle.gkr_layers.proofs.api.Honest.{honest_of_circuit}
use Rattle.gkr_layers.proofs.api.Shapes as shapes
use Rattle.audit_core.specs.declared.report.Audit.{Audit}
use Rattle.audit_core.specs.First.{NamesFirst}
use Rattle.audit_core.specs.Truth.{true_message, IsFalseMessage}
use Rattle.audit_core.specs.Audit.{IsAuditOf, IsDrawnExceptional, place_in}
use Rattle.gkr_verify.proofs.api.GivenDraws.{given-coordinates, given-rest, given-all}
use Rattle.audit_core.proofs.Truth.{size_at, size_round, size_last, size_below, true_round, true_last, true_below, true_size, same_is}
use Rattle.audit_core.proofs.Whole.{sized_at}

-- polynomials that can't differ are the same
no_other : (q p : List K) → ¬ ¬ SamePolynomial k_ops q p → SamePolynomial k_ops q p
no_other q p h j = elim (k_same (get_or q j zero_k) (get_or p j zero_k)) [ inl e ↦ e | inr d ↦ absurd (h (λ s. d (s j))) ]

some_of : {A : Type 0} (o : Option A) → ¬ (o ≡ None) → IsSome o
some_of None h = absurd (h refl)
some_of (Some x) h = refl

module _ (form : ProofForm) where
  -- messages that are the true polynomials are honest
  honest_from : (layers : List GateLayer) (input : List K) (place : Place K) (qs : List (List K)) (rs : List K) →
      ((n : ℕ) → n < message_count layers → get_or qs n [] ≡ coefficients k_ops (size_at form layers n) (true_message form layers input place rs n)) → AreHonest form layers input place qs rs
  honest_from [] input place qs rs h = tt
  honest_from (layer ∷ layers) input place qs rs h = (
    record {
      rounds = λ j u.
          let left : layer.k + layer.k - 1 - j ≡ layer.k + layer.k - j - 1 = omega arith in
          h j (omega arith)
          ∙ (λ i. coefficients k_ops (size_round form layer layers j u i) (true_round form layer layers j input place rs u i))
          ∙ ap (λ (i : ℕ). coefficients k_ops 3 (round_polynomial k_ops layer.k layer.gates (values_over k_ops layers input) place (take j rs) i)) left;
      last =
          h (layer.k + layer.k) (omega arith)
          ∙ (λ i. coefficients k_ops (size_last form layer layers (layer.k + layer.k) refl i) (true_last form layer layers (layer.k + layer.k) input place rs refl i));
    },
    honest_from layers input (next_place k_ops form layer.k rs) (drop (layer.k + layer.k + 1) qs) (drop (layer.k + layer.k + 1) rs)
        (λ n u.
        let m : ℕ = layer.k + layer.k + 1 + n in
        let past : layer.k + layer.k < layer.k + layer.k + 1 + n = omega arith in
        let back : layer.k + layer.k + 1 + n - (layer.k + layer.k + 1) ≡ n = omega arith in
        get_or-drop (layer.k + layer.k + 1) qs n []
        ∙ h m (omega (arith, u))
        ∙ (λ i. coefficients k_ops (size_below form layer layers m past i) (true_below form layer layers m input place rs past i))
        ∙ (λ i. coefficients k_ops (size_at form layers (back i)) (true_message form layers input (next_place k_ops form layer.k rs) (drop (layer.k + layer.k + 1) rs) (back i)))),
  )

module _ (form : ProofForm) (c : SoundCircuit) (inputs outputs : List F) (messages : Messages) (rs : List K) (audit : Audit) (count : length outputs ≡ c.parts.outputs) (shape : HaveShape form (drop 1 (exponents c.parts)) messages.layers) (size : length rs ≡ challenges_of c.parts)
    (is : IsAuditOf form c.parts inputs outputs (all_messages messages.layers) rs audit) where
  abbrev stated : CircuitClaim
  stated = claim_in form c.parts inputs outputs

  abbrev qs : List (List K)
  qs = all_messages messages.layers

  pub falsehood_named : audit.verdict ≡ Accepted → ¬ IsTrue audit.same → IsSome audit.challenge
  falsehood_named accepted false' =
      let w = shapes.sound c inputs outputs count form messages rs shape size (sym is.verdict ∙ accepted) (λ same. false' (is.same.1 same)) in
      some_of audit.challenge (λ none. subst (λ (o : Option (ℕ × K)). NamesFirst (IsDrawnExceptional stated qs rs) (challenge_count stated) (λ n. (n, get_or rs n zero_k)) o) none is.challenge w.0 w.1.drawn w.1.exceptional)

  have : HaveShape form (lower_exponents (layers_of c.parts)) messages.layers
  have = shapes.have_shape form c.parts messages shape

  all : length qs ≡ message_count (layers_of c.parts)
  all = shapes.length-all form (layers_of c.parts) messages.layers have

  true_messages : audit.message ≡ None → (n : ℕ) → n < message_count (layers_of c.parts) →
      get_or qs n [] ≡ coefficients k_ops (size_at form (layers_of c.parts) n) (true_message form (layers_of c.parts) (input_table c.parts inputs) (At (take (exponent_at c.parts 0) rs)) (drop (exponent_at c.parts 0) rs) n)
  true_messages none n u =
      let nothing = subst (λ (o : Option _). NamesFirst (IsFalseMessage stated qs rs) (message_count (layers_of c.parts)) (place_in (layers_of c.parts) 0) o) none is.message in
      let p : List K = true_message form (layers_of c.parts) (input_table c.parts inputs) (At (take (exponent_at c.parts 0) rs)) (drop (exponent_at c.parts 0) rs) n in
      same_is (size_at form (layers_of c.parts) n) (get_or qs n []) p (sized_at form (layers_of c.parts) messages.layers n have u)
      (true_size form (layers_of c.parts) (input_table c.parts inputs) (At (take (exponent_at c.parts 0) rs)) (drop (exponent_at c.parts 0) rs) n)
      (no_other (get_or qs n []) p (nothing n u))

  pub truth_accepted : IsTrue audit.same → audit.message ≡ None → audit.verdict ≡ Accepted
  truth_accepted same none =
      let k : ℕ = exponent_at c.parts 0 in
      let many : length rs ≡ exponent_at c.parts 0 + length qs = omega (arith, size, all) in
      let honest : AreHonest form (layers_of c.parts) (input_table c.parts inputs) (At (take k rs)) qs (drop k rs) = honest_from form (layers_of c.parts) (input_table c.parts inputs) (At (take k rs)) qs (drop k rs) (true_messages none) in
      is.verdict
      ∙ ap (verdict_of stated qs) (sym (given-all rs k qs many))
      ∙ honest_of_circuit form c inputs outputs given (numbers_of rs) qs count (is.same.0 same) all
      (coe 1 0 (i. AreHonest form (layers_of c.parts) (input_table c.parts inputs) (At (given-coordinates rs k (omega (arith, many)) i)) qs (given-rest rs k qs many i)) honest)
