-- What the verifier's end keeps
use Rattle.std.specs.Prelude.{◌≡◌, ℕ, ◌+◌, ◌*◌, List, [], ◌∷◌, Option, None, MatchOption, length, take, drop, true, false}
use Rattle.std.specs.List.{flat_map}
use Rattle.field_ext.specs.Bytes.{bytes_of}
use Rattle.circuit_core.specs.Parts.{Parts}
use Rattle.gkr_layers.specs.Layers.{challenges_of}
use Rattle.gkr_layers.specs.declared.verdict.Verdict.{Verdict}
use Rattle.live_session.specs.Ending.{IsReadyFor}
use Rattle.live_session.specs.Intake.{Fed}
use Rattle.live_session.specs.Verifying.{Session, element_count, is_done, last_byte, verdict_in}
use Rattle.live_session.specs.declared.ending.Ending.{Ending}

-- the buffer of the bytes that are fed, of all elements and one byte more
abbrev pub intake_of : Parts → List ℕ → Fed
intake_of p bytes = record {
  most = element_count p;
  capacity = 8 * element_count p + 1;
  bytes = bytes;
}

-- the verdict once all messages were fed, and with it the last byte
abbrev pub IsConcluded : Session → List ℕ → Option Verdict → Type 0
IsConcluded s reply verdict = MatchOption verdict (is_done s ≡ false)
    (λ v. (is_done s ≡ true) × (v ≡ verdict_in s)
    × (drop (8 * challenges_of s.parts) reply ≡ last_byte v ∷ []))

-- the counts are the circuit's, and what is kept is that of the session
pub record IsKept (s : Session) (intake : Fed) (ending : Ending) (reply : List ℕ)
    (verdict : Option Verdict) : Type 0 where
  pub inputs : length s.inputs ≡ s.parts.inputs
  pub outputs : length s.outputs ≡ s.parts.outputs
  pub words : length s.words ≡ challenges_of s.parts
  pub taken : intake ≡ intake_of s.parts s.bytes
  pub ready : IsReadyFor s.parts ending
  pub unused : verdict ≡ None → ending.challenges ≡ s.words
  pub reply_length : length reply ≡ 8 * challenges_of s.parts + 1
  pub reply_words : take (8 * challenges_of s.parts) reply ≡ flat_map bytes_of s.words
  pub concluded : IsConcluded s reply verdict
