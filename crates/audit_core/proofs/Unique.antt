-- What is named is one, and so is an audit
use Rattle.std.proofs.Common.{◌≡◌, ℕ, inl, inr, List, Option, Some, None, Bool, true, false, IsTrue, refl, sym, ◌∙◌, ap, arith}
use Rattle.std.proofs.lemmas.Bool.{cases_lt}
use Rattle.field_ext.specs.Field.{F, K}
use Rattle.circuit_core.specs.Sound.{SoundCircuit}
use Rattle.proof_wire.specs.declared.form.ProofForm.{ProofForm}
use Rattle.gkr_layers.specs.Acceptance.{claim_in, challenge_count}
use Rattle.gkr_layers.specs.Layers.{message_count}
use Rattle.audit_core.specs.declared.report.Audit.{Audit}
use Rattle.audit_core.specs.First.{IsFirst, NamesFirst}
use Rattle.audit_core.specs.Truth.{IsFalseMessage}
use Rattle.audit_core.specs.Audit.{IsAuditOf, IsDrawnExceptional, place_in}

one_first : (P : ℕ → Type 0) (count m n : ℕ) → IsFirst P count m → IsFirst P count n → m ≡ n
one_first P count m n a b =
    elim (cases_lt m n) [
      | inl u ↦ absurd (b.none_before m u a.holds)
      | inr u ↦ elim (cases_lt n m) [ inl v ↦ absurd (a.none_before n v b.holds) | inr v ↦ omega arith ]
    ]

one_named : {A : Type 0} (P : ℕ → Type 0) (count : ℕ) (name : ℕ → A) (x y : Option A) → NamesFirst P count name x → NamesFirst P count name y → x ≡ y
one_named P count name None None a b = refl
one_named P count name None (Some y) a b = absurd (a b.0 b.1.below b.1.holds)
one_named P count name (Some x) None a b = absurd (b a.0 a.1.below a.1.holds)
one_named P count name (Some x) (Some y) a b = ap Some (a.2 ∙ ap name (one_first P count a.0 b.0 a.1 b.1) ∙ sym b.2)

one_test : (b c : Bool) → (IsTrue b → IsTrue c) → (IsTrue c → IsTrue b) → b ≡ c
one_test true true f g = refl
one_test true false f g = sym (f refl)
one_test false true f g = g refl
one_test false false f g = refl

pub one_audit : (form : ProofForm) (circuit : SoundCircuit) (inputs outputs : List F) (qs : List (List K)) (rs : List K) (audit other : Audit) →
    IsAuditOf form circuit.parts inputs outputs qs rs audit → IsAuditOf form circuit.parts inputs outputs qs rs other → audit ≡ other
one_audit form circuit inputs outputs qs rs audit other a b =
    let stated = claim_in form circuit.parts inputs outputs in
    let verdict = a.verdict ∙ sym b.verdict in
    let same = one_test audit.same other.same (λ h. b.same.1 (a.same.0 h)) (λ h. a.same.1 (b.same.0 h)) in
    let message = one_named (IsFalseMessage stated qs rs) (message_count stated.layers) (place_in stated.layers 0) audit.message other.message a.message b.message in
    let challenge = one_named (IsDrawnExceptional stated qs rs) (challenge_count stated) _ audit.challenge other.challenge a.challenge b.challenge in
    λ i. record { verdict = verdict i; same = same i; message = message i; challenge = challenge i }
