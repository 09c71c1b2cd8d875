-- A case whose proof is read as one of a form has at most one refusal, and none where the proof spells messages.
use Rattle.std.proofs.Common.{◌≡◌, ℕ, List, length, drop, Some, refl, subst, sym, ap, ◌∙◌}
use Rattle.field_ext.specs.Field.{F}
use Rattle.circuit_core.specs.Parts.{Parts}
use Rattle.circuit_core.specs.Sound.{exponents}
use Rattle.proof_wire.specs.declared.messages.Messages.{Messages}
use Rattle.proof_wire.specs.declared.refused.BadProof.{BadProof}
use Rattle.proof_wire.specs.declared.form.ProofForm.{ProofForm}
use Rattle.proof_two.specs.Kinds.{TroubleIn}
use Rattle.proof_wire.specs.Lists.{HaveShape}
use Rattle.arr_compile.specs.declared.refused.BadProgram.{BadProgram}
use Rattle.arr_compile.specs.declared.refused.BadProgram.TheVariants.{At, Deep, Wide}
use Rattle.arr_compile.specs.Circuits.{IsCircuitRefusal}
use Rattle.case_text.specs.Content.{Content}
use Rattle.case_text.specs.declared.reply.Reply.{Reply}
use Rattle.case_text.specs.declared.reply.Reply.TheVariants as replies
use Rattle.case_prove.specs.Circuits.{IsCircuitMiscounted}
use Rattle.case_prove.specs.Verified.{IsClaim, HasProof, IsOutputMiscounted, IsBadProof, RefusesProof, Says, proof_form}
use Rattle.case_prove.specs.declared.refused.Refused.{Refused}
use Rattle.case_prove.specs.declared.refused.Refused.TheVariants as refusals
use Rattle.gkr_cmd.specs.declared.status.Status.TheVariants.{Done}
use Rattle.gkr_cmd.specs.Replies.{IsProofRefusal, status_of}
use Rattle.gkr_cmd.proofs.CircuitAnswers.{IsOne, reply_to, same_counts, counted_or_not}
use Rattle.case_prove.proofs.api.ReadProofs.{one_value}

-- a proof says messages in one form alone, and there the same messages, or it has one first trouble
pub record IsOneProof : Type 0 where
  pub form : (form : ProofForm) (c : Content) (p : Parts) (o : List F) (messages : Messages) → Says form c p o messages → proof_form c ≡ form
  pub reading : (form : ProofForm) (c : Content) (p : Parts) (o : List F) (some others : Messages) → HaveShape form (drop 1 (exponents p)) some.layers → HaveShape form (drop 1 (exponents p)) others.layers → Says form c p o some → Says form c p o others → some ≡ others
  pub trouble : (form : ProofForm) (ks bytes : List ℕ) (trouble other : BadProof) → TroubleIn form ks bytes trouble → TroubleIn form ks bytes other → trouble ≡ other
  pub none : (form : ProofForm) (c : Content) (p : Parts) (o : List F) (messages : Messages) (proof : List ℕ) (trouble : BadProof) → HaveShape form (drop 1 (exponents p)) messages.layers → Says form c p o messages → c.proof ≡ Some proof → TroubleIn form (exponents p) proof trouble → ⊥

-- why a case is refused
pub data Refusal (form : ProofForm) (c : Content) : Reply → Type 0 where
  refused : (bad : BadProgram) → IsCircuitRefusal c.lang c.program bad → Refusal form c (reply_to bad)
  miscounted : (have need : ℕ) → IsCircuitMiscounted c have need → Refusal form c (replies.InputCount have need)
  outputs_miscounted : (have need : ℕ) → IsOutputMiscounted c have need → Refusal form c (replies.OutputCount have need)
  bad_proof : (bad : BadProof) → IsBadProof form c bad → Refusal form c (replies.Proof bad)

pub refusal : (form : ProofForm) (c : Content) (reply : Reply) → IsProofRefusal form c reply → Refusal form c reply
refusal form c replies.Usage is = absurd is
refusal form c (replies.TooLong limit) is = absurd is
refusal form c (replies.Case bad) is = absurd is
refusal form c (replies.Program kind at) is = refused (At at kind) is
refusal form c (replies.Deep levels) is = refused (Deep levels) is
refusal form c (replies.Wide height width) is = refused (Wide height width) is
refusal form c (replies.InputCount have need) is = miscounted have need is
refusal form c (replies.Outputs outputs) is = absurd is
refusal form c (replies.Circuit sizes) is = absurd is
refusal form c (replies.Proved proved) is = absurd is
refusal form c (replies.Demo summary) is = absurd is
refusal form c (replies.Served jobs) is = absurd is
refusal form c (replies.History history) is = absurd is
refusal form c (replies.OutputCount have need) is = outputs_miscounted have need is
refusal form c (replies.Proof bad) is = bad_proof bad is
refusal form c (replies.Verdict line) is = absurd is
refusal form c (replies.Audit lines) is = absurd is
refusal form c (replies.WordCount have need) is = absurd is
refusal form c (replies.Session sizes) is = absurd is

pub same_parts : IsOne → (c : Content) (p p' : Parts) (o o' : List F) → IsClaim c p o → IsClaim c p' o' → p ≡ p'
same_parts one c p p' o o' is is' = one.circuit c.lang c.program p p' is.compiled is'.compiled

pub same_outputs : (c : Content) (p p' : Parts) (o o' : List F) → IsClaim c p o → IsClaim c p' o' → o ≡ o'
same_outputs c p p' o o' is is' = one_value c.outputs o o' is.outputs_are is'.outputs_are

-- there is no claim where the inputs are miscounted, nor where the program is refused
no_claim : IsOne → (c : Content) (have need : ℕ) (p : Parts) (o : List F) → IsCircuitMiscounted c have need → IsClaim c p o → ⊥
no_claim one c have need p o is claim = counted_or_not one c have need p claim.compiled claim.counted is

not_refused : IsOne → (c : Content) (bad : BadProgram) (p : Parts) (o : List F) → IsCircuitRefusal c.lang c.program bad → IsClaim c p o → ⊥
not_refused one c bad p o is claim = one.either c.lang c.program p bad claim.compiled is

as_many_or_not : IsOne → (c : Content) (have need : ℕ) (p : Parts) (o : List F) → IsOutputMiscounted c have need → IsClaim c p o → length o ≡ p.outputs → ⊥
as_many_or_not one c have need p o is claim many =
    let parts = same_parts one c is.parts p is.outputs o is.claim claim in
    let outputs = same_outputs c is.parts p is.outputs o is.claim claim in
    is.differ (is.case_has ∙ ap length outputs ∙ many ∙ sym (is.circuit_has ∙ ap (λ (q : Parts). q.outputs) parts))

same_output_counts : IsOne → (c : Content) (have have' need need' : ℕ) → IsOutputMiscounted c have need → IsOutputMiscounted c have' need' → replies.OutputCount have need ≡ replies.OutputCount have' need'
same_output_counts one c have have' need need' is is' =
    let parts = same_parts one c is.parts is'.parts is.outputs is'.outputs is.claim is'.claim in
    let outputs = same_outputs c is.parts is'.parts is.outputs is'.outputs is.claim is'.claim in
    let same_have : have ≡ have' = is.case_has ∙ ap length outputs ∙ sym is'.case_has in
    let same_need : need ≡ need' = is.circuit_has ∙ ap (λ (q : Parts). q.outputs) parts ∙ sym is'.circuit_has in
    rw (same_have, same_need) refl

same_trouble : IsOne → IsOneProof → (form : ProofForm) (c : Content) (a b : BadProof) → IsBadProof form c a → IsBadProof form c b → a ≡ b
same_trouble one proofs form c a b is is' =
    let parts = same_parts one c is'.parts is.parts is'.outputs is.outputs is'.claim is.claim in
    let proof = one_value c.proof is'.proof is.proof is'.proof_is is.proof_is in
    proofs.trouble form (exponents is.parts) is.proof a b is.trouble
    (coe 0 1 (i. TroubleIn form (exponents (parts i)) (proof i) b) is'.trouble)

spelled_or_not : IsOne → IsOneProof → (form : ProofForm) (c : Content) (bad : BadProof) (p : Parts) (o : List F) (messages : Messages) → IsBadProof form c bad → HasProof form c p o messages → ⊥
spelled_or_not one proofs form c bad p o messages is has =
    let parts = same_parts one c is.parts p is.outputs o is.claim has.claim in
    proofs.none form c p o messages is.proof bad has.of_shape has.spelled is.proof_is (subst (λ (q : Parts). TroubleIn form (exponents q) is.proof bad) parts is.trouble)

-- a case has one refusal
pub one_refusal : IsOne → IsOneProof → (form : ProofForm) (c : Content) {a b : Reply} → Refusal form c a → Refusal form c b → a ≡ b
one_refusal one proofs form c (refused bad is) (refused bad' is') = ap reply_to (one.refusal c.lang c.program bad bad' is is')
one_refusal one proofs form c (refused bad is) (miscounted have need is') = absurd (one.either c.lang c.program is'.parts bad is'.compiled is)
one_refusal one proofs form c (refused bad is) (outputs_miscounted have need is') = absurd (not_refused one c bad is'.parts is'.outputs is is'.claim)
one_refusal one proofs form c (refused bad is) (bad_proof bad' is') = absurd (not_refused one c bad is'.parts is'.outputs is is'.claim)
one_refusal one proofs form c (miscounted have need is) (refused bad is') = absurd (one.either c.lang c.program is.parts bad is.compiled is')
one_refusal one proofs form c (miscounted have need is) (miscounted have' need' is') = same_counts one c have have' need need' is is'
one_refusal one proofs form c (miscounted have need is) (outputs_miscounted have' need' is') = absurd (no_claim one c have need is'.parts is'.outputs is is'.claim)
one_refusal one proofs form c (miscounted have need is) (bad_proof bad is') = absurd (no_claim one c have need is'.parts is'.outputs is is'.claim)
one_refusal one proofs form c (outputs_miscounted have need is) (refused bad is') = absurd (not_refused one c bad is.parts is.outputs is' is.claim)
one_refusal one proofs form c (outputs_miscounted have need is) (miscounted have' need' is') = absurd (no_claim one c have' need' is.parts is.outputs is' is.claim)
one_refusal one proofs form c (outputs_miscounted have need is) (outputs_miscounted have' need' is') = same_output_counts one c have have' need need' is is'
one_refusal one proofs form c (outputs_miscounted have need is) (bad_proof bad is') = absurd (as_many_or_not one c have need is'.parts is'.outputs is is'.claim is'.as_many)
one_refusal one proofs form c (bad_proof bad is) (refused bad' is') = absurd (not_refused one c bad' is.parts is.outputs is' is.claim)
one_refusal one proofs form c (bad_proof bad is) (miscounted have need is') = absurd (no_claim one c have need is.parts is.outputs is' is.claim)
one_refusal one proofs form c (bad_proof bad is) (outputs_miscounted have need is') = absurd (as_many_or_not one c have need is.parts is.outputs is' is.claim is.as_many)
one_refusal one proofs form c (bad_proof bad is) (bad_proof bad' is') = ap replies.Proof (same_trouble one proofs form c bad bad' is is')

-- and none where its proof spells messages
pub not_both : IsOne → IsOneProof → (form : ProofForm) (c : Content) {reply : Reply} (p : Parts) (o : List F) (messages : Messages) → Refusal form c reply → HasProof form c p o messages → ⊥
not_both one proofs form c p o messages (refused bad is) has = not_refused one c bad p o is has.claim
not_both one proofs form c p o messages (miscounted have need is) has = no_claim one c have need p o is has.claim
not_both one proofs form c p o messages (outputs_miscounted have need is) has = as_many_or_not one c have need p o is has.claim has.as_many
not_both one proofs form c p o messages (bad_proof bad is) has = spelled_or_not one proofs form c bad p o messages is has

-- then a call refuses it only where memory runs out
pub read_or_memory : IsOne → IsOneProof → (form : ProofForm) (c : Content) (p : Parts) (o : List F) (messages : Messages) → HasProof form c p o messages → (r : Refused) → RefusesProof form c r → r ≡ refusals.Memory
read_or_memory one proofs form c p o messages has (refusals.Program bad) is = absurd (not_refused one c bad p o is has.claim)
read_or_memory one proofs form c p o messages has (refusals.Input have need) is = absurd (no_claim one c have need p o is has.claim)
read_or_memory one proofs form c p o messages has (refusals.Output have need) is = absurd (as_many_or_not one c have need p o is has.claim has.as_many)
read_or_memory one proofs form c p o messages has (refusals.Proof bad) is = absurd (spelled_or_not one proofs form c bad p o messages is has)
read_or_memory one proofs form c p o messages has refusals.Memory is = refl

-- and the status says so
pub refusal_undone : (form : ProofForm) (c : Content) {reply : Reply} → Refusal form c reply → status_of reply ≡ Done → ⊥
refusal_undone form c (refused (At at kind) is) e = cc
refusal_undone form c (refused (Deep levels) is) e = cc
refusal_undone form c (refused (Wide height width) is) e = cc
refusal_undone form c (miscounted have need is) e = cc
refusal_undone form c (outputs_miscounted have need is) e = cc
refusal_undone form c (bad_proof bad is) e = cc
