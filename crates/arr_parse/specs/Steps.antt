-- What a step of the parser does to what is left to read.
use Rattle.std.specs.Prelude.{◌≡◌, ℕ, suc, ◌<◌, ◌≤◌, List, [], ◌∷◌, ◌++◌, Option, Some, None, Result, length, map}
use Rattle.arr_ast.specs.declared.lang.Lang.{Lang}
use Rattle.arr_ast.specs.declared.program.Dimension.{Dimension}
use Rattle.arr_lex.specs.declared.token.Token.{Token}
use Rattle.arr_parse.specs.Mark.{Mark, Source, mark}
use Rattle.arr_parse.specs.Grammar.{Part, The, AName, MoreParameters}
use Rattle.arr_parse.specs.ProgramSpelling.{dimension_spelling}
use Rattle.arr_parse.specs.Reading.{levels, refusal}
use Rattle.arr_parse.specs.Parsed.{Agrees}
use Rattle.arr_parse.specs.declared.refused.ParseRefused.{ParseRefused}
use Rattle.arr_parse.specs.declared.refused.ParseRefused.TheVariants.{Syntax}
use Rattle.arr_lex.specs.declared.token.Symbol.TheVariants.{CloseRound}

-- the tokens of a source that are left, with so many levels open
pub record Rest : Type 0 where
  pub source : Source
  pub tokens : List Token
  pub levels : ℕ

-- After what was read before, the first tokens complete this spelling, and the rest follows.
pub record Takes (before : List Mark) (old : Rest) (spelling : List Mark) (new : Rest) : Type 0
  where
    pub spelled : before ++ map (mark old.source) old.tokens
        ≡ spelling ++ map (mark old.source) new.tokens
    pub shorter : length new.tokens ≤ length old.tokens
    pub source : new.source ≡ old.source
    pub levels : new.levels ≡ old.levels

-- Where the first parts are due, reading goes on with the next ones, whatever is due after them.
abbrev pub Leads : {X : Type 0} → List Part → (X → List Part) → Rest → Result X ParseRefused
    → Rest → Type 0
Leads first next old result new = (due : List Part) → levels due ≡ old.levels
    → Agrees
    (λ found. refusal old.source.lang (length old.source.text) (next found ++ due) new.tokens)
    result
    (refusal old.source.lang (length old.source.text) (first ++ due) old.tokens)

-- these parts are read
abbrev pub Reads : {X : Type 0} → List Part → Rest → Result X ParseRefused → Rest → Type 0
Reads parts old result new = Leads parts (λ found. []) old result new

-- These parts and the `)` after them are read, whatever is due after it, where it ends the level that was opened last.
abbrev pub Closes : {X : Type 0} → List Part → Rest → Result X ParseRefused → Rest → Type 0
Closes parts old result new = (due : List Part) → suc (levels due) ≡ old.levels
    → Agrees (λ found. refusal old.source.lang (length old.source.text) due new.tokens) result
    (refusal old.source.lang (length old.source.text) (parts ++ The CloseRound ∷ due) old.tokens)

-- A level ends: tokens are taken, the source stays, and one level less is open.
abbrev pub EndsLevel : Rest → Rest → Type 0
EndsLevel old new = (length new.tokens < length old.tokens) × (new.source ≡ old.source)
    × (old.levels ≡ suc new.levels)

-- the part that is due after what was found
abbrev pub after_found : {X : Type 0} → Part → Option X → List Part
after_found part None = []
after_found part (Some found) = part ∷ []

-- The tokens begin no row of the part, so it is skipped, whatever is due after it.
abbrev pub IsSkipped : Part → List Token → Type 0
IsSkipped part tokens = (lang : Lang) (end : ℕ) (due : List Part)
    → refusal lang end (part ∷ due) tokens ≡ refusal lang end due tokens

-- Where the tokens begin with the sign of a further operand, it is taken and the operand is due.
abbrev pub Chains : {X : Type 0} → Part → Part → Rest → Option X → Rest → Type 0
Chains more operand old None new = IsSkipped more old.tokens
Chains more operand old (Some sign) new = (lang : Lang) (end : ℕ) (due : List Part)
    → levels due ≡ old.levels → refusal lang end (more ∷ due) old.tokens
    ≡ refusal lang end (operand ∷ (more ∷ due)) new.tokens

-- Where the tokens begin with the comma before a further parameter, it is taken and a name is due, or it is one too many.
abbrev pub ChainsNames : Rest → Option ℕ → Rest → Type 0
ChainsNames old None new = (left : ℕ) → IsSkipped (MoreParameters left) old.tokens
ChainsNames old (Some at) new = (lang : Lang) (end : ℕ) (due : List Part) →
    suc (levels due) ≡ old.levels →
    ((left : ℕ) → refusal lang end (MoreParameters (suc left) ∷ The CloseRound ∷ due) old.tokens
    ≡ refusal lang end (AName ∷ MoreParameters left ∷ The CloseRound ∷ due) new.tokens)
    × (refusal lang end (MoreParameters 0 ∷ The CloseRound ∷ due) old.tokens ≡ Some (Syntax at))

-- a dimension in its brackets, if there is one
abbrev pub maybe_dimension_spelling : Option Dimension → List Mark
maybe_dimension_spelling None = []
maybe_dimension_spelling (Some dimension) = dimension_spelling dimension
