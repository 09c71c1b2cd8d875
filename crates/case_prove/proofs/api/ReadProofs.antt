-- The proof that was read of a case is one of the case's own outputs.
use Rattle.std.proofs.Common.{◌≡◌, List, Option, Some, subst}
use Rattle.field_ext.specs.Field.{F}
use Rattle.circuit_core.specs.Parts.{Parts}
use Rattle.proof_wire.specs.declared.form.ProofForm.{ProofForm}
use Rattle.proof_wire.specs.declared.messages.Messages.{Messages}
use Rattle.case_text.specs.Content.{Content}
use Rattle.case_prove.specs.Verified.{HasProof, IsReadAs}

pub one_value : {A : Type 0} (o : Option A) (a b : A) → o ≡ Some a → o ≡ Some b → a ≡ b
one_value o a b is is' = cc

pub with_outputs : (form : ProofForm) (c : Content) (parts : Parts) (messages : Messages) (outputs : List F) → IsReadAs form c parts messages → c.outputs ≡ Some outputs → HasProof form c parts outputs messages
with_outputs form c parts messages outputs read is = subst (λ (xs : List F). HasProof form c parts xs messages) (one_value c.outputs read.0 outputs read.1.claim.outputs_are is) read.1
