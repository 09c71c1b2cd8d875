-- A note: three lines, which say how many pages it has.
use Rattle.std.specs.Prelude.{◌≡◌, ℕ, ◌<◌, List, [], ◌∷◌, ◌++◌, codes, decimal, Ok}
use Rattle.std.specs.List.{concat}
use Rattle.text_parts.specs.declared.due.DueKind.TheVariants.{Header, Length, Section}
use Rattle.text_parts.specs.declared.rule.Rule.{Rule}
use Rattle.text_parts.specs.Bytes.{newline}
use Rattle.text_parts.specs.Parts.{Taking, ◌>>=◌, decimal_at, word_at}

abbrev pub header : List ℕ
header = codes "note 1" ++ newline ∷ []

abbrev pub last_line : List ℕ
last_line = codes "end" ++ newline ∷ []

-- These bytes are the text of a note of so many pages.
pub record SpellsNote (bytes : List ℕ) (pages : ℕ) : Type 0 where
  pub few : pages < 1000
  pub text : bytes ≡ concat
      (header ∷ codes "pages " ∷ (decimal pages ++ newline ∷ []) ∷ last_line ∷ [])

abbrev pub page_count : Rule
page_count =
    record { limit = 1000; over = Length; after_zero = newline; after_other = newline }

-- its parts in order
unfoldable pub note_at : List ℕ → Taking ℕ
note_at bytes = do
  first ← word_at Header header bytes
  name ← word_at Section (codes "pages ") first.1
  pages ← decimal_at page_count name.1
  last ← word_at Section last_line pages.1
  Ok (pages.0, last.1)
