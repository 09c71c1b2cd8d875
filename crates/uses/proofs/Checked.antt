-- A verdict over equal inputs, outputs and states of the challenges.
use Rattle.std.proofs.Common.{◌≡◌, ℕ, List, Result, subst}
use Rattle.std.specs.Prelude.{IfOk}
use Rattle.field_ext.specs.Field.{F, K}
use Rattle.circuit_core.specs.Parts.{Parts}
use Rattle.gkr_layers.specs.Acceptance.{claim_of, verdict_of}
use Rattle.gkr_layers.specs.declared.verdict.Verdict.{Verdict}
use Rattle.transcript_fs.specs.Source.{all_draws}
use Rattle.transcript_fs.specs.Transcript.{transcript}

abbrev verdict_at : Parts → List F → List F → List ℕ → List (List K) → Verdict
verdict_at parts inputs outputs state qs =
    let claim = claim_of parts inputs outputs in
    verdict_of claim qs (all_draws transcript state claim.k qs)

pub same_verdict : {E : Type 0} (result : Result Verdict E) (parts : Parts) (inputs inputs' outputs outputs' : List F) (state state' : List ℕ) (qs : List (List K)) → inputs ≡ inputs' → outputs ≡ outputs' → state ≡ state'
    → IfOk result (λ verdict. verdict ≡ verdict_at parts inputs outputs state qs) → IfOk result (λ verdict. verdict ≡ verdict_at parts inputs' outputs' state' qs)
same_verdict result parts inputs inputs' outputs outputs' state state' qs i o s is =
    subst (λ x. IfOk result (λ verdict. verdict ≡ verdict_at parts x outputs' state' qs)) i
    (subst (λ x. IfOk result (λ verdict. verdict ≡ verdict_at parts inputs x state' qs)) o
    (subst (λ x. IfOk result (λ verdict. verdict ≡ verdict_at parts inputs outputs x qs)) s is))
