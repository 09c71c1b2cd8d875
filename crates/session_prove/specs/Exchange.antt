-- A session with the honest prover, from its start to its end
use Rattle.std.specs.Prelude.{◌≡◌, [], Ok, Some, None, true, length, take, drop}
use Rattle.circuit_core.specs.Parts.{layer_values}
use Rattle.circuit_eval.specs.Tables.{AreTables}
use Rattle.gkr_layers.specs.Layers.{challenges_of}
use Rattle.gkr_layers.specs.declared.verdict.Verdict.TheVariants.{Accepted}
use Rattle.case_text.specs.declared.reply.session.SessionSizes.{SessionSizes}
use Rattle.live_session.specs.Proving.{Proving, prover_sent, stop_of, verdict_known}
use Rattle.live_session.specs.Verifying.{Session, progress_in, verifier_sent}
use Rattle.live_session.specs.declared.progress.Progress.TheVariants.{Ended}

-- Neither end was fed a byte, the prover has the values of the verifier's circuit on its inputs, and the verifier's outputs are among
-- them.
pub record HaveBegun (s : Session) (prover : Proving) : Type 0 where
  pub unfed : s.bytes ≡ []
  pub prover_unfed : prover.bytes ≡ []
  pub same_circuit : prover.parts ≡ s.parts
  pub tables : AreTables s.parts s.inputs prover.values
  pub as_many : length s.outputs ≡ s.parts.outputs
  pub outputs : s.outputs ≡ take (length s.outputs) (drop 1 (layer_values s.parts s.inputs 0))
  pub words : length s.words ≡ challenges_of s.parts

-- the session at its end: the verifier was fed all that the prover sends for its words
abbrev pub whole_session : Session → Session
whole_session s = record s { bytes = prover_sent s.parts s.inputs s.words }

-- The verifier accepts, and what it sends has no fault and tells the prover so.
pub record HasEnded (s : Session) : Type 0 where
  pub accepts : progress_in s ≡ Ok (Ended Accepted)
  pub faultless : stop_of (challenges_of s.parts) (verifier_sent s) ≡ None
  pub known : verdict_known (challenges_of s.parts) (verifier_sent s) ≡ Some true

-- how many challenges there were, and how many bytes each end was sent
abbrev pub sizes_of : Session → SessionSizes
sizes_of s = record {
  challenges = length s.words;
  to_prover = length (verifier_sent s);
  to_verifier = length s.bytes;
}
