-- Bytes that spell messages of the shape have no trouble.
use Rattle.std.specs.Prelude.{Result, Ok, Err, IsErrAnd, MatchResult}
use Rattle.std.proofs.Common.{◌≡◌, ℕ, ◌<◌, List, get_or, drop, sym, ◌∙◌, subst, arith, refl, ◌++◌}
use Rattle.std.specs.List.{flat_map}
use Rattle.field_ext.specs.Bytes.{bytes_of}
use Rattle.std.proofs.lemmas.List.{get_or_append_left}
use Rattle.proof_wire.specs.declared.messages.Messages.{Messages}
use Rattle.proof_wire.specs.declared.refused.BadProof.{BadProof}
use Rattle.proof_wire.specs.declared.refused.BadProof.TheVariants.{Magic, Short, Range, Long}
use Rattle.proof_wire.specs.declared.refused.ProofRefused.{ProofRefused}
use Rattle.proof_wire.specs.declared.refused.ProofRefused.TheVariants.{Bad, Memory}
use Rattle.proof_wire.specs.declared.form.ProofForm.{ProofForm}
use Rattle.proof_wire.specs.Forms.{magic}
use Rattle.proof_wire.specs.Spelling.{all_coefficients, spelling}
use Rattle.proof_wire.specs.Lists.{HaveShape}
use Rattle.proof_wire.specs.Trouble.{RefusedFor, TroubleIs}
use Rattle.proof_wire.proofs.api.Lengths.{count_is, spelling_length}
use Rattle.proof_wire.proofs.api.Reading.{spelled_in_range}

module _ (form : ProofForm) where
  begins : (ys : List ℕ) (i : ℕ) → i < 4 → get_or (magic form ++ ys) i 0 ≡ get_or (magic form) i 0
  begins ys i h = get_or_append_left (magic form) ys 0 i h

  pub faultless : (ks : List ℕ) (m : Messages) (trouble : BadProof) → HaveShape form (drop 1 ks) m.layers → TroubleIs form ks (spelling form m) trouble → ⊥
  faultless ks m (Magic at) a t = t.differs (begins (flat_map bytes_of (all_coefficients m.layers)) at t.early)
  faultless ks m (Short at need) a t = omega (arith, t.at_end, t.whole, t.early, spelling_length form ks m a)
  faultless ks m (Range at) a t = t.bad (spelled_in_range form (all_coefficients m.layers) t.index (subst (λ n. t.index < n) (sym (count_is form (drop 1 ks) m.layers a)) t.among))
  faultless ks m (Long extra) a t = omega (arith, t.some, t.after, spelling_length form ks m a)

  pub only_memory : (ks : List ℕ) (m : Messages) (bytes : List ℕ) (e : ProofRefused) → HaveShape form (drop 1 ks) m.layers → bytes ≡ spelling form m → RefusedFor form ks bytes e → e ≡ Memory
  only_memory ks m bytes (Bad trouble) a s t = absurd (faultless ks m trouble a (subst (λ ys. TroubleIs form ks ys trouble) s t))
  only_memory ks m bytes Memory a s t = refl

pub stays_memory : {A : Type 0} (P : A → Type 0) (r : Result A ProofRefused) (e : ProofRefused) → e ≡ Memory → IsErrAnd r (λ y. y ≡ e) → MatchResult r P (λ y. y ≡ Memory)
stays_memory P (Ok x) e h f = absurd f
stays_memory P (Err y) e h f = f ∙ h
