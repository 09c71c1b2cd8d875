-- What is said of a session on a case: how it ended, or why there is none.
use Rattle.std.specs.Prelude.{◌≡◌, ◌≢◌, ℕ, ◌*◌, List, [], length}
use Rattle.field_ext.specs.Field.{F}
use Rattle.circuit_core.specs.Parts.{Parts}
use Rattle.gkr_layers.specs.Layers.{challenges_of}
use Rattle.arr_compile.specs.Circuits.{IsCompiled}
use Rattle.live_session.specs.Verifying.{Session}
use Rattle.case_text.specs.Content.{Content}
use Rattle.case_text.specs.declared.reply.session.SessionSizes.{SessionSizes}
use Rattle.case_prove.specs.Circuits.{RefusesCircuit}
use Rattle.case_prove.specs.Evaluated.{IsEvaluated}
use Rattle.session_prove.specs.Challenges.{challenges_in}
use Rattle.session_prove.specs.Exchange.{HasEnded, sizes_of, whole_session}
use Rattle.session_prove.specs.declared.refused.SessionRefused.{SessionRefused}
use Rattle.session_prove.specs.declared.refused.SessionRefused.TheVariants.{Case, Words}

-- a verifier of these outputs that sends these challenges, before it was fed a byte
abbrev pub session_on : Parts → List F → List F → List F → Session
session_on p inputs outputs words = record {
  parts = p;
  inputs = inputs;
  outputs = outputs;
  words = challenges_in words;
  bytes = [];
}

-- The case's program has a circuit with as many inputs as the case, and there are two words for each challenge.
pub record IsPaired (c : Content) (words : List F) (parts : Parts) : Type 0 where
  pub compiled : IsCompiled c.lang c.program parts
  pub counted : length c.inputs ≡ parts.inputs
  pub paired : length words ≡ 2 * challenges_of parts

-- With the program's meaning on the case's inputs as outputs, and these words as challenges, both ends come to the end of the session,
-- where the verifier accepts, and these are its sizes.
pub record IsSession (c : Content) (words : List F) (sizes : SessionSizes) : Type 0 where
  pub parts : Parts
  pub paired : IsPaired c words parts
  pub outputs : List F
  pub evaluated : IsEvaluated c outputs
  pub ended : HasEnded (whole_session (session_on parts c.inputs outputs words))
  pub sizes_are : sizes ≡ sizes_of (whole_session (session_on parts c.inputs outputs words))

-- The case's program has a circuit with as many inputs as the case, and another number of words than two for each challenge.
pub record IsWordMiscounted (c : Content) (words : List F) (have need : ℕ) : Type 0 where
  pub parts : Parts
  pub compiled : IsCompiled c.lang c.program parts
  pub counted : length c.inputs ≡ parts.inputs
  pub session_has : have ≡ length words
  pub circuit_needs : need ≡ 2 * challenges_of parts
  pub differ : have ≢ need

-- A call refuses a session as the definitions do, or memory ran out.
abbrev pub RefusesSession : Content → List F → SessionRefused → Type 0
RefusesSession c words (Case refused) = RefusesCircuit c refused
RefusesSession c words (Words have need) = IsWordMiscounted c words have need
