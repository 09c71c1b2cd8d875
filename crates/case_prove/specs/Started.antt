-- The state in which the challenges of a proof start.
use Rattle.std.specs.Prelude.{◌≡◌, ℕ, List, Some}
use Rattle.field_ext.specs.Field.{F}
use Rattle.proof_wire.specs.declared.form.ProofForm.{ProofForm}
use Rattle.proof_wire.specs.declared.form.ProofForm.TheVariants.{Line, Pair}
use Rattle.transcript_fs.specs.Transcript.{start_state, pair_start_state}
use Rattle.case_text.specs.Content.{Content}

-- that of the transcript of a program's text, inputs and outputs, whose name tells the form of the proof
abbrev pub start_of : ProofForm → List ℕ → List F → List F → List ℕ
start_of Line text inputs outputs = start_state text inputs outputs
start_of Pair text inputs outputs = pair_start_state text inputs outputs

-- the state in which the challenges of a case's own proof start, as one of a form
abbrev pub IsOwnStart : ProofForm → Content → List ℕ → Type 0
IsOwnStart form c start =
    (outputs : List F) → c.outputs ≡ Some outputs → start ≡ start_of form c.program c.inputs outputs
