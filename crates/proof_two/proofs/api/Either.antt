-- Bytes of either version: what holds of each holds of the one in which they are read.
use Rattle.std.proofs.Common.{◌≡◌, ℕ, ◌++◌, List, [], Bool, true, false, MatchBool, length, refl, sym, ap, subst, arith, length-append}
use Rattle.proof_wire.specs.declared.form.ProofForm.TheVariants.{Line}
use Rattle.proof_wire.specs.declared.refused.BadProof.{BadProof}
use Rattle.proof_wire.specs.declared.refused.ProofRefused.{ProofRefused}
use Rattle.proof_wire.specs.declared.refused.ProofRefused.TheVariants.{Bad, Memory}
use Rattle.proof_wire.specs.Trouble.{TroubleIs}
use Rattle.proof_wire.proofs.api.Apart as wire_apart
use Rattle.proof_wire.proofs.api.Lengths as wire_lengths
use Rattle.proof_wire.proofs.api.OneTrouble as wire_trouble
use Rattle.proof_wire.proofs.api.Troubles as wire_troubles
use Rattle.proof_two.specs.declared.versions.AnyProof.{AnyProof}
use Rattle.proof_two.specs.declared.versions.AnyProof.TheVariants.{One, Two}
use Rattle.proof_two.specs.Spelling.{spelling_two}
use Rattle.proof_two.specs.Trouble.{TroubleIsTwo}
use Rattle.proof_two.specs.Versions.{HasAnyShape, RefusedForAny, TroubleIsAny, any_spelling, is_two}
use Rattle.proof_two.proofs.api.Apart.{one_reading}
use Rattle.proof_two.proofs.api.Lengths.{spelling_length}
use Rattle.proof_two.proofs.OneTrouble.{one_trouble}
use Rattle.proof_two.proofs.Troubles.{faultless}
use Rattle.std.proofs.lemmas.List.{nil_from_length as nothing}

differ : {b : Bool} → b ≡ true → b ≡ false → ⊥
differ {b = true} e f = no f
  where
    no : true ≡ false → ⊥
    no h = subst (λ (b : Bool). MatchBool b (Unit {0}) ⊥) h tt
differ {b = false} e f = no e
  where
    no : false ≡ true → ⊥
    no h = subst (λ (b : Bool). MatchBool b ⊥ (Unit {0})) h tt

pub any_reading : (ks : List ℕ) (some others : AnyProof) → HasAnyShape ks some → HasAnyShape ks others → any_spelling some ≡ any_spelling others → some ≡ others
any_reading ks (One a) (One b) p q e = ap One (wire_apart.one_reading Line ks a b p q e)
any_reading ks (One a) (Two b) p q e = absurd (differ (ap is_two e) refl)
any_reading ks (Two a) (One b) p q e = absurd (differ (ap is_two (sym e)) refl)
any_reading ks (Two a) (Two b) p q e = ap Two (one_reading ks a b p q e)

pub any_front : (ks : List ℕ) (some others : AnyProof) (more : List ℕ) → HasAnyShape ks some → HasAnyShape ks others → any_spelling some ++ more ≡ any_spelling others → more ≡ []
any_front ks (One a) (One b) more p q e = wire_lengths.no_prefix Line ks a b more p q e
any_front ks (One a) (Two b) more p q e = absurd (differ (ap is_two e) refl)
any_front ks (Two a) (One b) more p q e = absurd (differ (ap is_two (sym e)) refl)
any_front ks (Two a) (Two b) more p q e = nothing more (omega (arith, length-append (spelling_two a) more, ap length e, spelling_length ks a p, spelling_length ks b q))

pub any_faultless : (ks : List ℕ) (proof : AnyProof) (trouble : BadProof) → HasAnyShape ks proof → TroubleIsAny ks (any_spelling proof) trouble → ⊥
any_faultless ks (One messages) trouble p t = wire_troubles.faultless Line ks messages trouble p t
any_faultless ks (Two pairs) trouble p t = faultless ks pairs trouble p t

pub any_only_memory : (ks : List ℕ) (proof : AnyProof) (bytes : List ℕ) (e : ProofRefused) → HasAnyShape ks proof → bytes ≡ any_spelling proof → RefusedForAny ks bytes e → e ≡ Memory
any_only_memory ks proof bytes (Bad trouble) a s t = absurd (any_faultless ks proof trouble a (subst (λ (ys : List ℕ). TroubleIsAny ks ys trouble) s t))
any_only_memory ks proof bytes Memory a s t = refl

pub any_trouble : (ks bytes : List ℕ) (a b : BadProof) → TroubleIsAny ks bytes a → TroubleIsAny ks bytes b → a ≡ b
any_trouble ks bytes a b = by (is_two bytes) a b
  where
    by : (two : Bool) (a b : BadProof) → MatchBool two (TroubleIsTwo ks bytes a) (TroubleIs Line ks bytes a) → MatchBool two (TroubleIsTwo ks bytes b) (TroubleIs Line ks bytes b) → a ≡ b
    by true a b = one_trouble ks bytes a b
    by false a b = wire_trouble.one_trouble Line ks bytes a b
