-- A proof says messages in one form alone, and there the same messages, or it has one first trouble.
use Rattle.std.proofs.Common.{◌≡◌, inl, inr, ℕ, List, [], Bool, true, false, MatchBool, Option, Some, drop, sym, ◌∙◌, ap, subst}
use Rattle.std.specs.Prelude.{unwrap_or}
use Rattle.field_ext.specs.Field.{F}
use Rattle.circuit_core.specs.Parts.{Parts}
use Rattle.circuit_core.specs.Sound.{exponents}
use Rattle.transcript_fs.specs.Transcript.{transcript}
use Rattle.proof_wire.specs.declared.form.ProofForm.{ProofForm}
use Rattle.proof_wire.specs.declared.form.ProofForm.TheVariants.{Line, Pair}
use Rattle.proof_wire.specs.declared.messages.Messages.{Messages}
use Rattle.proof_wire.specs.declared.refused.BadProof.{BadProof}
use Rattle.proof_wire.specs.Forms.{form_of}
use Rattle.proof_wire.specs.Lists.{HaveShape}
use Rattle.proof_wire.specs.Spelling.{spelling}
use Rattle.proof_wire.specs.Trouble.{TroubleIs}
use Rattle.proof_wire.proofs.api.Apart as wire_apart
use Rattle.proof_wire.proofs.api.OneTrouble as wire_trouble
use Rattle.proof_wire.proofs.api.Troubles as wire_troubles
use Rattle.proof_two.specs.declared.pairs.Pairs.{Pairs}
use Rattle.proof_two.specs.declared.versions.AnyProof.TheVariants.{One, Two}
use Rattle.proof_two.specs.Kinds.{TroubleIn}
use Rattle.proof_two.specs.Spelling.{spelling_two}
use Rattle.proof_two.specs.Versions.{TroubleIsAny, is_two}
use Rattle.proof_two.proofs.api.Apart as two_apart
use Rattle.proof_two.proofs.api.Either.{any_faultless, any_trouble}
use Rattle.gkr_verify.specs.ShortProof.{filled}
use Rattle.case_text.specs.Content.{Content}
use Rattle.case_prove.specs.Started.{start_of}
use Rattle.case_prove.specs.Verified.{Says, proof_form}
use Rattle.case_prove.proofs.api.ReadProofs.{one_value}

-- the form that the fourth byte of some bytes names
abbrev form_there : Option (List ℕ) → ProofForm
form_there o = form_of (unwrap_or o [])

pub says_form : (form : ProofForm) (c : Content) (p : Parts) (o : List F) (m : Messages) → Says form c p o m → proof_form c ≡ form
says_form Line c p o m (inl e) = ap form_there e
says_form Line c p o m (inr f) = ap form_there f.pairs_spelled
says_form Pair c p o m e = ap form_there e

no_false : true ≡ false → ⊥
no_false h = subst (λ (b : Bool). MatchBool b (Unit {0}) ⊥) h tt

-- no bytes are a proof of both versions
pub apart : (m : Messages) (pairs : Pairs) → spelling_two pairs ≡ spelling Line m → ⊥
apart m pairs e = no_false (ap is_two e)

pub says_one : (form : ProofForm) (c : Content) (p : Parts) (o : List F) (a b : Messages) → HaveShape form (drop 1 (exponents p)) a.layers → HaveShape form (drop 1 (exponents p)) b.layers → Says form c p o a → Says form c p o b → a ≡ b
says_one Line c p o a b s t (inl e) (inl f) = wire_apart.one_reading Line (exponents p) a b s t (one_value c.proof (spelling Line a) (spelling Line b) e f)
says_one Line c p o a b s t (inl e) (inr f) = absurd (apart a f.pairs (one_value c.proof (spelling_two f.pairs) (spelling Line a) f.pairs_spelled e))
says_one Line c p o a b s t (inr e) (inl f) = absurd (apart b e.pairs (one_value c.proof (spelling_two e.pairs) (spelling Line b) e.pairs_spelled f))
says_one Line c p o a b s t (inr e) (inr f) =
    let pairs = two_apart.one_reading (exponents p) e.pairs f.pairs e.pairs_shape f.pairs_shape (one_value c.proof (spelling_two e.pairs) (spelling_two f.pairs) e.pairs_spelled f.pairs_spelled) in
    e.filled_is ∙ ap (λ (q : Pairs). filled p o transcript (start_of Line c.program c.inputs o) q) pairs ∙ sym f.filled_is
says_one Pair c p o a b s t e f = wire_apart.one_reading Pair (exponents p) a b s t (one_value c.proof (spelling Pair a) (spelling Pair b) e f)

pub trouble_one : (form : ProofForm) (ks bytes : List ℕ) (a b : BadProof) → TroubleIn form ks bytes a → TroubleIn form ks bytes b → a ≡ b
trouble_one Line ks bytes a b = any_trouble ks bytes a b
trouble_one Pair ks bytes a b = wire_trouble.one_trouble Pair ks bytes a b

pub says_none : (form : ProofForm) (c : Content) (p : Parts) (o : List F) (m : Messages) (proof : List ℕ) (bad : BadProof) → HaveShape form (drop 1 (exponents p)) m.layers → Says form c p o m → c.proof ≡ Some proof → TroubleIn form (exponents p) proof bad → ⊥
says_none Line c p o m proof bad s (inl e) is t =
    any_faultless (exponents p) (One m) bad s (subst (λ (ys : List ℕ). TroubleIsAny (exponents p) ys bad) (one_value c.proof proof (spelling Line m) is e) t)
says_none Line c p o m proof bad s (inr f) is t =
    any_faultless (exponents p) (Two f.pairs) bad f.pairs_shape (subst (λ (ys : List ℕ). TroubleIsAny (exponents p) ys bad) (one_value c.proof proof (spelling_two f.pairs) is f.pairs_spelled) t)
says_none Pair c p o m proof bad s e is t =
    wire_troubles.faultless Pair (exponents p) m bad s (subst (λ (ys : List ℕ). TroubleIs Pair (exponents p) ys bad) (one_value c.proof proof (spelling Pair m) is e) t)
