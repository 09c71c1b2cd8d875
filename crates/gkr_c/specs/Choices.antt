-- What the numbers of kinds and versions choose.
use Rattle.std.specs.Prelude.{◌≡◌, ℕ, List, Option, Some, None, if◌then◌else◌, nat_eq}
use Rattle.proof_two.specs.declared.kind.ProofKind.{ProofKind}
use Rattle.proof_two.specs.declared.kind.ProofKind.TheVariants.{ByLines, ByPairs}
use Rattle.proof_two.specs.declared.kind.ProofVersion.{ProofVersion}
use Rattle.proof_two.specs.declared.kind.ProofVersion.TheVariants.{One, Two}
use Rattle.gkr_words.specs.declared.words.CaseCommand.{CaseCommand}
use Rattle.gkr_c.specs.Handed.{HandsOut, HandsOutNothing}

-- the version with this number
abbrev pub version_of : ℕ → Option ProofVersion
version_of n = if nat_eq n 1 then Some One else if nat_eq n 2 then Some Two else None

-- the kind of proof with this number: 1 and 2 by lines in that version, 3 by pairs
abbrev pub kind_of : ℕ → Option ProofKind
kind_of n =
    if nat_eq n 1 then Some (ByLines One)
    else if nat_eq n 2 then Some (ByLines Two)
    else if nat_eq n 3 then Some ByPairs
    else None

-- The command that was chosen was run; where there is none, the number is 2, as of words that are
-- no command, and nothing was handed out.
abbrev pub HandsOutChosen : Option CaseCommand → List ℕ → List ℕ → List ℕ → ℕ → ℕ → Type 0
HandsOutChosen (Some command) input room now needed number =
    HandsOut command input room now needed number
HandsOutChosen None input room now needed number = (number ≡ 2) × HandsOutNothing room now needed
