-- The verifier's end of a session, as a function of the bytes that it was fed
use Rattle.std.specs.Prelude.{ℕ, ◌+◌, ◌*◌, List, [], ◌∷◌, ◌++◌, Bool, length, take, Result, Ok, Err, if◌then◌else◌, ◌==◌, nat_le}
use Rattle.std.specs.List.{flat_map}
use Rattle.field_ext.specs.Bytes.{bytes_of}
use Rattle.field_ext.specs.Field.{F, K}
use Rattle.circuit_core.specs.Parts.{Parts}
use Rattle.circuit_core.specs.Sound.{exponent_at}
use Rattle.gkr_layers.specs.Acceptance.{claim_of, verdict_of}
use Rattle.gkr_layers.specs.Layers.{layers_of, lower_exponents}
use Rattle.gkr_layers.specs.declared.verdict.Verdict.{Verdict}
use Rattle.gkr_layers.specs.declared.verdict.Verdict.TheVariants.{Accepted, Sum, End, Input}
use Rattle.proof_wire.specs.Spelling.{coefficient_count}
use Rattle.proof_wire.specs.declared.form.ProofForm.TheVariants.{Line}
use Rattle.live_session.specs.Elements.{leading}
use Rattle.live_session.specs.Layout.{messages_in, sizes_of, whole}
use Rattle.live_session.specs.declared.progress.LiveFault.{LiveFault}
use Rattle.live_session.specs.declared.progress.LiveFault.TheVariants.{Range, Extra}
use Rattle.live_session.specs.declared.progress.Progress.{Progress}
use Rattle.live_session.specs.declared.progress.Progress.TheVariants.{Waiting, Ended}

-- the statement, the challenge words, and the bytes fed so far
pub record Session : Type 0 where
  pub parts : Parts
  pub inputs : List F
  pub outputs : List F
  pub words : List K
  pub bytes : List ℕ

-- how many coordinates the layers below the outputs have, one number for each
abbrev pub lower : Parts → List ℕ
lower p = lower_exponents (layers_of p)

-- how many elements all messages have
abbrev pub element_count : Parts → ℕ
element_count p = coefficient_count Line (lower p)

-- the elements that were fed before any fault
abbrev pub elements_in : Session → List K
elements_in s = leading (element_count s.parts) s.bytes

-- whether all messages were fed
abbrev pub is_done : Session → Bool
is_done s = length (elements_in s) == element_count s.parts

-- the messages that these elements are, once they are all there
abbrev pub spelled : Session → List (List K)
spelled s = messages_in (lower s.parts) (elements_in s)

-- the verdict on them, with the words as challenges
abbrev pub verdict_in : Session → Verdict
verdict_in s = verdict_of (claim_of s.parts s.inputs s.outputs) (spelled s) s.words

-- the fault of the lowest place, or how far the session has come
abbrev pub progress_in : Session → Result Progress LiveFault
progress_in s =
    let good = length (elements_in s) in
    if good == element_count s.parts then
    (if length s.bytes == 8 * good then Ok (Ended (verdict_in s)) else Err (Extra (8 * good)))
    else (if nat_le (8 * good + 8) (length s.bytes) then Err (Range (8 * good)) else Ok Waiting)

abbrev pub last_byte : Verdict → ℕ
last_byte Accepted = 1
last_byte (Sum layer round had claim) = 0
last_byte (End layer had want) = 0
last_byte (Input had want) = 0

-- how many messages were whole before any fault
abbrev pub messages_whole : Session → ℕ
messages_whole s = whole (sizes_of (lower s.parts)) (length (elements_in s))

-- what the verifier has sent: the words for the output point, one after each message that was whole, and the last byte
-- once all were
abbrev pub verifier_sent : Session → List ℕ
verifier_sent s =
    flat_map bytes_of (take (exponent_at s.parts 0 + messages_whole s) s.words)
    ++ (if is_done s then last_byte (verdict_in s) ∷ [] else [])

-- the session with more bytes after those before
abbrev pub joined : Session → List ℕ → Session
joined s more = record s { bytes = s.bytes ++ more }

-- the same, of which no more is kept than shows a byte too many
abbrev pub kept : Session → Session
kept s = record s { bytes = take (8 * element_count s.parts + 1) s.bytes }

-- the session after these pieces, each of them fed
abbrev pub fed_all : Session → List (List ℕ) → Session
fed_all s [] = s
fed_all s (piece ∷ pieces) = fed_all (kept (joined s piece)) pieces
