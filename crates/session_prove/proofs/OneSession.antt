-- A case and words have one session, and its sizes are the circuit's.
use Rattle.std.proofs.Common.{◌≡◌, ℕ, zero, suc, ◌+◌, ◌*◌, ◌≤◌, List, [], ◌∷◌, length, Bool, true, if◌then◌else◌, ◌==◌, Result, Ok, Err, Some, None, inl, inr, sym, ◌∙◌, ap, arith}
use Rattle.std.specs.Prelude.{nat_le, slice_index_or}
use Rattle.std.proofs.lemmas.Bool.{eqb-true, leb-true}
use Rattle.field_ext.specs.Field.{F}
use Rattle.gkr_layers.specs.Layers.{challenges_of}
use Rattle.gkr_layers.specs.declared.verdict.Verdict.{Verdict}
use Rattle.gkr_layers.specs.declared.verdict.Verdict.TheVariants.{Accepted}
use Rattle.case_text.specs.Content.{Content}
use Rattle.case_text.specs.declared.reply.session.SessionSizes.{SessionSizes}
use Rattle.case_prove.proofs.api.ProvedCases.{OneCircuit}
use Rattle.case_prove.proofs.api.ProvedOutputs.{OneTree, one_meaning}
use Rattle.live_session.specs.Proving.{verdict_known}
use Rattle.live_session.specs.Verifying.{Session, element_count, elements_in, verdict_in, verifier_sent}
use Rattle.live_session.specs.declared.progress.LiveFault.{LiveFault}
use Rattle.live_session.specs.declared.progress.LiveFault.TheVariants.{Extra, Range}
use Rattle.live_session.specs.declared.progress.Progress.{Progress}
use Rattle.live_session.specs.declared.progress.Progress.TheVariants.{Ended, Waiting}
use Rattle.live_session.proofs.api.ElementSteps.{either}
use Rattle.live_session.proofs.api.ProverSteps.{stop_none}
use Rattle.session_prove.specs.Challenges.{challenges_in}
use Rattle.session_prove.specs.Exchange.{sizes_of, whole_session}
use Rattle.session_prove.specs.Sessions.{IsSession, session_on}

pub one_session : OneTree → OneCircuit → (c : Content) (words : List F) (some others : SessionSizes) → IsSession c words some → IsSession c words others → some ≡ others
one_session tree circuit c words some others is is' =
    let parts : is.parts ≡ is'.parts = circuit c.lang c.program is.parts is'.parts is.paired.compiled is'.paired.compiled in
    let outputs : is.outputs ≡ is'.outputs = one_meaning tree c is.outputs is'.outputs is.evaluated is'.evaluated in
    is.sizes_are ∙ (λ i. sizes_of (whole_session (session_on (parts i) c.inputs (outputs i) words))) ∙ sym is'.sizes_are

-- ---- how many there are

pub challenges-count : (words : List F) (n : ℕ) → length words ≡ 2 * n → length (challenges_in words) ≡ n
challenges-count [] zero e = omega arith
challenges-count [] (suc n) e = absurd (omega (arith, e))
challenges-count (re ∷ []) zero e = absurd (omega (arith, e))
challenges-count (re ∷ []) (suc n) e = absurd (omega (arith, e))
challenges-count (re ∷ im ∷ words) zero e = absurd (omega (arith, e))
challenges-count (re ∷ im ∷ words) (suc n) e = ap (λ (m : ℕ). suc m) (challenges-count words n (omega (arith, e)))

-- the last byte is there
told-there : (due : ℕ) (bytes : List ℕ) → verdict_known due bytes ≡ Some true → 8 * due + 1 ≤ length bytes
told-there due bytes e = elim (either (nat_le (8 * due + 1) (length bytes))) [
  | inl h ↦ leb-true (8 * due + 1) (length bytes) h
  | inr h ↦ absurd (let f : None ≡ Some true = sym (ap (λ (b : Bool). if b then Some (slice_index_or bytes (8 * due) 0 == 1) else None) h) ∙ e in cc)
]

abbrev told : ℕ → ℕ → Verdict → ℕ → Result Progress LiveFault
told n good verdict fed =
    if good == n then (if fed == 8 * good then Ok (Ended verdict) else Err (Extra (8 * good)))
    else (if nat_le (8 * good + 8) fed then Err (Range (8 * good)) else Ok Waiting)

-- all was fed, where the end was reached
ended-when : (n good fed : ℕ) (verdict : Verdict) → told n good verdict fed ≡ Ok (Ended Accepted) → fed ≡ 8 * n
ended-when n good fed verdict is = elim (either (good == n)) [
  | inl e ↦ elim (either (fed == 8 * good)) [
    | inl f ↦ omega (arith, eqb-true good n e, eqb-true fed (8 * good) f)
    | inr f ↦
        absurd (let g : Err (Extra (8 * good)) ≡ Ok (Ended Accepted) =
        sym (ap (λ (b : Bool). if b then (if fed == 8 * good then Ok (Ended verdict) else Err (Extra (8 * good))) else (if nat_le (8 * good + 8) fed then Err (Range (8 * good)) else Ok Waiting)) e
        ∙ ap (λ (b : Bool). if b then Ok (Ended verdict) else Err (Extra (8 * good))) f) ∙ is in cc)
  ]
  | inr e ↦ elim (either (nat_le (8 * good + 8) fed)) [
    | inl f ↦
        absurd (let g : Err (Range (8 * good)) ≡ Ok (Ended Accepted) =
        sym (ap (λ (b : Bool). if b then (if fed == 8 * good then Ok (Ended verdict) else Err (Extra (8 * good))) else (if nat_le (8 * good + 8) fed then Err (Range (8 * good)) else Ok Waiting)) e
        ∙ ap (λ (b : Bool). if b then Err (Range (8 * good)) else Ok Waiting) f) ∙ is in cc)
    | inr f ↦
        absurd (let g : Ok Waiting ≡ Ok (Ended Accepted) =
        sym (ap (λ (b : Bool). if b then (if fed == 8 * good then Ok (Ended verdict) else Err (Extra (8 * good))) else (if nat_le (8 * good + 8) fed then Err (Range (8 * good)) else Ok Waiting)) e
        ∙ ap (λ (b : Bool). if b then Err (Range (8 * good)) else Ok Waiting) f) ∙ is in cc)
  ]
]

module _ (c : Content) (words : List F) (sizes : SessionSizes) (is : IsSession c words sizes) where
  abbrev s : Session
  s = whole_session (session_on is.parts c.inputs is.outputs words)

  pub challenge-size : sizes.challenges ≡ challenges_of is.parts
  challenge-size = ap (λ (t : SessionSizes). t.challenges) is.sizes_are ∙ challenges-count words (challenges_of is.parts) is.paired.paired

  pub prover-size : sizes.to_prover ≡ 8 * challenges_of is.parts + 1
  prover-size = ap (λ (t : SessionSizes). t.to_prover) is.sizes_are
      ∙ (let least = told-there (challenges_of is.parts) (verifier_sent s) is.ended.known in
      let most = stop_none (challenges_of is.parts) (verifier_sent s) is.ended.faultless in
      let e : length (verifier_sent s) ≡ 8 * challenges_of is.parts + 1 = omega arith in e)

  pub verifier-size : sizes.to_verifier ≡ 8 * element_count is.parts
  verifier-size = ap (λ (t : SessionSizes). t.to_verifier) is.sizes_are
      ∙ ended-when (element_count is.parts) (length (elements_in s)) (length s.bytes) (verdict_in s) is.ended.accepts
