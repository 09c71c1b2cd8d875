-- The kinds of proofs: the form of their messages, their bytes, and the first trouble of other bytes.
use Rattle.std.specs.Prelude.{ℕ, List}
use Rattle.proof_wire.specs.declared.form.ProofForm.{ProofForm}
use Rattle.proof_wire.specs.declared.form.ProofForm.TheVariants.{Line, Pair}
use Rattle.proof_wire.specs.declared.messages.Messages.{Messages}
use Rattle.proof_wire.specs.declared.refused.BadProof.{BadProof}
use Rattle.proof_wire.specs.Spelling.{spelling}
use Rattle.proof_wire.specs.Trouble.{TroubleIs}
use Rattle.proof_two.specs.declared.kind.ProofKind.{ProofKind}
use Rattle.proof_two.specs.declared.kind.ProofKind.TheVariants.{ByLines, ByPairs}
use Rattle.proof_two.specs.declared.kind.ProofVersion.TheVariants.{One, Two}
use Rattle.proof_two.specs.Lists.{shortened}
use Rattle.proof_two.specs.Spelling.{spelling_two}
use Rattle.proof_two.specs.Versions.{TroubleIsAny}

-- the form of a kind's messages
abbrev pub form_in : ProofKind → ProofForm
form_in (ByLines version) = Line
form_in ByPairs = Pair

-- the bytes of messages as a proof of a kind
abbrev pub kind_spelling : ProofKind → Messages → List ℕ
kind_spelling (ByLines One) messages = spelling Line messages
kind_spelling (ByLines Two) messages = spelling_two (shortened messages)
kind_spelling ByPairs messages = spelling Pair messages

-- the first trouble of bytes that are read as a proof of this form: by lines in the version that the fourth byte names
abbrev pub TroubleIn : ProofForm → List ℕ → List ℕ → BadProof → Type 0
TroubleIn Line ks bytes trouble = TroubleIsAny ks bytes trouble
TroubleIn Pair ks bytes trouble = TroubleIs Pair ks bytes trouble
