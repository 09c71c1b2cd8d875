-- Both ends at their start on a case, and what is said of the session after its end
use Rattle.std.proofs.Common.{◌≡◌, List, [], length, take, drop, Result, Ok, Err, refl, sym, ap, ◌∙◌, subst}
use Rattle.std.specs.Prelude.{IfOk}
use Rattle.field_ext.specs.Field.{F, K}
use Rattle.circuit_core.specs.Parts.{Parts, layer_values}
use Rattle.circuit_eval.specs.Tables.{AreTables}
use Rattle.gkr_layers.specs.Layers.{challenges_of}
use Rattle.case_text.specs.Content.{Content}
use Rattle.case_text.specs.declared.reply.session.SessionSizes.{SessionSizes}
use Rattle.case_prove.specs.Evaluated.{IsEvaluated}
use Rattle.live_session.specs.Proving.{Proving}
use Rattle.live_session.specs.Verifying.{Session}
use Rattle.session_prove.specs.Challenges.{challenges_in}
use Rattle.session_prove.specs.Exchange.{HasEnded, HaveBegun, sizes_of, whole_session}
use Rattle.session_prove.specs.Sessions.{IsPaired, IsSession, session_on}

-- the verifier that was started on the values that the case and the words have
pub started_on : (parts : Parts) (inputs inputs' outputs outputs' : List F) (words : List F) (given given' : List K) (v : Session) → v ≡ record { parts = parts; inputs = inputs'; outputs = outputs'; words = given'; bytes = [] } →
    inputs' ≡ inputs → outputs' ≡ outputs → given' ≡ given → given ≡ challenges_in words → v ≡ session_on parts inputs outputs words
started_on parts inputs inputs' outputs outputs' words given given' v is e f g h =
    is ∙ (λ i. record { parts = parts; inputs = e i; outputs = f i; words = (g ∙ h) i; bytes = [] })

pub have_begun : (parts : Parts) (inputs outputs words : List F) (values : List (List K)) (v : Session) (p : Proving) → v ≡ session_on parts inputs outputs words → p ≡ record { parts = parts; values = values; bytes = [] } → AreTables parts inputs values →
    length outputs ≡ parts.outputs → outputs ≡ take (length outputs) (drop 1 (layer_values parts inputs 0)) → length (challenges_in words) ≡ challenges_of parts → HaveBegun v p
have_begun parts inputs outputs words values v p e f tables many stand count =
    subst (λ (z : Session). HaveBegun z p) (sym e) (subst (λ (z : Proving). HaveBegun (session_on parts inputs outputs words) z) (sym f) at_start)
  where
    at_start : HaveBegun (session_on parts inputs outputs words) (record { parts = parts; values = values; bytes = [] })
    at_start = record {
      unfed = refl;
      prover_unfed = refl;
      same_circuit = refl;
      tables = tables;
      as_many = many;
      outputs = stand;
      words = count;
    }

pub is_session : {E : Type 0} (c : Content) (words : List F) (parts : Parts) (outputs : List F) (v : Session) (result : Result SessionSizes E) → v ≡ session_on parts c.inputs outputs words → IsPaired c words parts → IsEvaluated c outputs →
    IfOk result (λ sizes. HasEnded (whole_session v)) → IfOk result (λ sizes. sizes ≡ sizes_of (whole_session v)) → IfOk result (λ sizes. IsSession c words sizes)
is_session c words parts outputs v (Err e) is paired evaluated ended sizes = tt
is_session c words parts outputs v (Ok them) is paired evaluated ended sizes = record {
  parts = parts;
  paired = paired;
  outputs = outputs;
  evaluated = evaluated;
  ended = subst (λ (z : Session). HasEnded (whole_session z)) is ended;
  sizes_are = sizes ∙ ap (λ (z : Session). sizes_of (whole_session z)) is;
}
