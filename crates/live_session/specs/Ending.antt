-- What the verifier's end holds for its verdict
use Rattle.std.specs.Prelude.{◌≡◌, ℕ, List, [], ◌∷◌, Option, Some, take, drop}
use Rattle.circuit_core.specs.Parts.{Parts}
use Rattle.gkr_layers.specs.declared.verdict.Verdict.{Verdict}
use Rattle.gkr_verify.specs.Buffers.{AreBuffersFor}
use Rattle.live_session.specs.Verifying.{last_byte, lower}
use Rattle.live_session.specs.declared.ending.Ending.{Ending}
use Rattle.proof_wire.specs.declared.form.ProofForm.TheVariants.{Line}
use Rattle.proof_wire.specs.Lists.{HaveShape}

-- buffers for the check of a circuit, and for messages of its shape
pub record IsReadyFor (p : Parts) (ending : Ending) : Type 0 where
  pub buffers : AreBuffersFor p ending.buffers
  pub shape : HaveShape Line (lower p) ending.layers.items

-- this verdict is reached, and its byte comes after the first n of the reply
pub record EndsWith (verdict : Verdict) (n : ℕ) (old new : List ℕ) (result : Option Verdict)
    : Type 0 where
  pub reached : result ≡ Some verdict
  pub before : take n new ≡ take n old
  pub end : drop n new ≡ last_byte verdict ∷ []
