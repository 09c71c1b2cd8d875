-- What an audit says
use Rattle.std.specs.Prelude.{◌≡◌, ◌↔◌, ℕ, suc, ◌+◌, ◌-◌, List, [], ◌∷◌, Some, None, IsTrue, length, take, drop, slice_index_or, nat_lt, nat_eq, if◌then◌else◌, true}
use Rattle.field_ext.specs.Field.{F, K, zero_k}
use Rattle.circuit_core.specs.Parts.{Parts, layer_values}
use Rattle.proof_wire.specs.declared.form.ProofForm.{ProofForm}
use Rattle.gkr_layers.specs.Layers.{GateLayer, message_count}
use Rattle.gkr_layers.specs.declared.verdict.Verdict.TheVariants.{Accepted}
use Rattle.gkr_layers.specs.Acceptance.{CircuitClaim, claim_in, challenge_count, verdict_of}
use Rattle.gkr_layers.specs.Soundness.{IsExceptionalChallenge}
use Rattle.audit_core.specs.declared.place.Place.{Place}
use Rattle.audit_core.specs.declared.report.Audit.{Audit}
use Rattle.audit_core.specs.First.{NamesFirst}
use Rattle.audit_core.specs.Truth.{IsFalseMessage}

-- where message n is, counted from 0 over these layers, the first of which has this number
abbrev pub place_in : List GateLayer → ℕ → ℕ → Place
place_in [] number n = record { layer = number; round = None }
place_in (layer ∷ layers) number n =
    let k = layer.k in
    if nat_lt n (k + k) then record { layer = number; round = Some (suc n) }
    else (if nat_eq n (k + k) then record { layer = number; round = None }
    else place_in layers (suc number) (n - (k + k + 1)))

-- the outputs are those that the circuit has on these inputs
abbrev pub AreOutputs : Parts → List F → List F → Type 0
AreOutputs p inputs outputs = outputs ≡ take (length outputs) (drop 1 (layer_values p inputs 0))

-- challenge n, as it was drawn, is exceptional after the messages and challenges before it
abbrev pub IsDrawnExceptional : CircuitClaim → List (List K) → List K → ℕ → Type 0
IsDrawnExceptional stated qs rs n =
    IsExceptionalChallenge stated (take (n + 1 - stated.k) qs) (take n rs) n
    (slice_index_or rs n zero_k)

-- What is to be said of these messages, and of these challenges that were drawn with them: the first equation that fails; whether the
-- outputs are the circuit's; where the first message that differs from the true one is; and the first exceptional challenge, by
-- its number from 0 and its value.
pub record IsAuditOf (form : ProofForm) (p : Parts) (inputs outputs : List F) (qs : List (List K))
    (rs : List K) (audit : Audit) : Type 0 where
  pub verdict : audit.verdict ≡ verdict_of (claim_in form p inputs outputs) qs rs
  pub same : IsTrue audit.same ↔ AreOutputs p inputs outputs
  pub message : NamesFirst (IsFalseMessage (claim_in form p inputs outputs) qs rs)
      (message_count (claim_in form p inputs outputs).layers)
      (place_in (claim_in form p inputs outputs).layers 0) audit.message
  pub challenge : NamesFirst (IsDrawnExceptional (claim_in form p inputs outputs) qs rs)
      (challenge_count (claim_in form p inputs outputs)) (λ n. (n, slice_index_or rs n zero_k))
      audit.challenge

-- the audit in which all is well: the proof is accepted, the outputs are the circuit's, and nothing is named
abbrev pub names_nothing : Audit
names_nothing = record { verdict = Accepted; same = true; message = None; challenge = None }
