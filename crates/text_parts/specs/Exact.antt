-- A part is exact: it takes the bytes that spell its value, or stops at the longest prefix with
-- which some text begins.
use Rattle.std.specs.Prelude.{◌≡◌, ℕ, ◌<◌, ◌≤◌, ◌^◌, List, [], ◌∷◌, ◌++◌, length, decimal, false, Ok, Err}
use Rattle.text_parts.specs.declared.due.DueKind.{DueKind}
use Rattle.text_parts.specs.declared.due.DueKind.TheVariants.{End}
use Rattle.text_parts.specs.declared.rule.Rule.{Rule}
use Rattle.text_parts.specs.declared.stop.Stop.{Stop}
use Rattle.text_parts.specs.Rules.{after}
use Rattle.text_parts.specs.Parts.{Taking, stopped, is_digit}
use Rattle.text_parts.specs.Places.{Begins}

-- The byte that comes next isn't taken, whatever follows it.
abbrev pub Blocks : {A : Type 0} → (List ℕ → Taking A) → List ℕ → DueKind → List ℕ → Type 0
Blocks taking taken kind [] = kind ≡ End
Blocks taking taken kind (b ∷ rest) =
    (more : List ℕ) → taking (taken ++ b ∷ more) ≡ Err (stopped kind (b ∷ more))

-- Taking stops here.
pub record StopsAt {A : Type 0} (taking : List ℕ → Taking A) (bytes : List ℕ) (s : Stop)
    : Type 0 where
  pub taken : List ℕ
  pub rest : List ℕ
  pub parts : bytes ≡ taken ++ rest
  pub place : s ≡ stopped s.kind rest
  pub due : taking taken ≡ Err (stopped End [])
  pub blocks : Blocks taking taken s.kind rest

-- The bytes are a text, and then the rest.
pub record Found {A : Type 0} (Text : A → List ℕ → Type 0) (bytes : List ℕ) (a : A)
    (rest : List ℕ) : Type 0 where
  pub text : List ℕ
  pub spells : Text a text
  pub parts : bytes ≡ text ++ rest

pub record IsExact {A : Type 0} (Text : A → List ℕ → Type 0) (taking : List ℕ → Taking A)
    : Type 0 where
  pub only : (a : A) (text rest : List ℕ) → Text a text → taking (text ++ rest) ≡ Ok (a, rest)
  pub found : (bytes : List ℕ) (a : A) (rest : List ℕ) → taking bytes ≡ Ok (a, rest)
      → Found Text bytes a rest
  pub stops : (bytes : List ℕ) (s : Stop) → taking bytes ≡ Err s → StopsAt taking bytes s
  -- where the bytes end too early, some text begins with them
  pub wants : (bytes : List ℕ) → taking bytes ≡ Err (stopped End []) → Begins Text bytes
  -- there is a text
  pub some : Begins Text []

-- the texts of a fixed word
abbrev pub IsWord : List ℕ → Unit {0} → List ℕ → Type 0
IsWord word u text = text ≡ word

-- the texts of counted bytes
abbrev pub IsCounted : ℕ → List ℕ → List ℕ → Type 0
IsCounted n bytes text = (length bytes ≡ n) × (text ≡ bytes)

-- What comes after a decimal is no digit, and the numbers fit.
pub record IsSound (rule : Rule) : Type 0 where
  pub some : 0 < rule.limit
  pub fits : rule.limit ≤ 2 ^ 32
  pub zero_closes : is_digit rule.after_zero ≡ false
  pub other_closes : is_digit rule.after_other ≡ false

-- the texts of a decimal, with the byte after it
abbrev pub IsDecimal : Rule → ℕ → List ℕ → Type 0
IsDecimal rule n text = (n < rule.limit) × (text ≡ decimal n ++ after rule n ∷ [])
