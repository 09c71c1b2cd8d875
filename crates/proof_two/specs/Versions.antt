-- Proofs by lines of either version: which version bytes are read in, their spelling, and their first trouble.
use Rattle.std.specs.Prelude.{ℕ, List, Bool, ◌==◌, MatchBool, drop, slice_index_or}
use Rattle.proof_wire.specs.declared.form.ProofForm.TheVariants.{Line}
use Rattle.proof_wire.specs.declared.refused.BadProof.{BadProof}
use Rattle.proof_wire.specs.declared.refused.ProofRefused.{ProofRefused}
use Rattle.proof_wire.specs.declared.refused.ProofRefused.TheVariants.{Bad, Memory}
use Rattle.proof_wire.specs.Lists.{HaveShape}
use Rattle.proof_wire.specs.Spelling.{spelling}
use Rattle.proof_wire.specs.Trouble.{TroubleIs}
use Rattle.proof_two.specs.declared.versions.AnyProof.{AnyProof}
use Rattle.proof_two.specs.declared.versions.AnyProof.TheVariants.{One, Two}
use Rattle.proof_two.specs.Lists.{HavePairs}
use Rattle.proof_two.specs.Spelling.{spelling_two, mark_two}
use Rattle.proof_two.specs.Trouble.{TroubleIsTwo}

-- bytes are read as a proof of version 2 where their fourth is the digit 2, and else as one of version 1
abbrev pub is_two : List ℕ → Bool
is_two bytes = slice_index_or bytes 3 0 == mark_two

-- the messages have the shape of a circuit of these many coordinates for each layer, the output layer first
abbrev pub HasAnyShape : List ℕ → AnyProof → Type 0
HasAnyShape ks (One messages) = HaveShape Line (drop 1 ks) messages.layers
HasAnyShape ks (Two pairs) = HavePairs (drop 1 ks) pairs.layers

-- the bytes of a proof, in its version
abbrev pub any_spelling : AnyProof → List ℕ
any_spelling (One messages) = spelling Line messages
any_spelling (Two pairs) = spelling_two pairs

-- this is the first trouble of the bytes, in the version in which they are read
abbrev pub TroubleIsAny : List ℕ → List ℕ → BadProof → Type 0
TroubleIsAny ks bytes trouble =
    MatchBool (is_two bytes) (TroubleIsTwo ks bytes trouble) (TroubleIs Line ks bytes trouble)

-- a refusal names the first trouble, or says that no memory is left
abbrev pub RefusedForAny : List ℕ → List ℕ → ProofRefused → Type 0
RefusedForAny ks bytes (Bad trouble) = TroubleIsAny ks bytes trouble
RefusedForAny ks bytes Memory = Unit
