-- A session: a case, and the words of the challenges that its verifier is to send.
use Rattle.std.specs.Prelude.{◌≡◌, ℕ, List, [], ◌∷◌, ◌++◌, length, codes, Result, Ok}
use Rattle.std.specs.List.{concat}
use Rattle.field_ext.specs.Field.{F}
use Rattle.case_text.specs.declared.case.form.Form.TheVariants.{Plain}
use Rattle.text_parts.specs.declared.due.DueKind.TheVariants.{Section}
use Rattle.case_text.specs.declared.case.refusal.BadCase.{BadCase}
use Rattle.text_parts.specs.declared.stop.Stop.{Stop}
use Rattle.case_text.specs.Content.{AreValues, Content}
use Rattle.case_text.specs.Spelling.{Spells, counted_text}
use Rattle.text_parts.specs.Bytes.{newline}
use Rattle.text_parts.specs.Parts.{Taking, ◌>>=◌, at_end, word_at}
use Rattle.case_text.specs.Reading.{case_at, counted_at, refused}

-- the words are the real and the imaginary part of one challenge after another
pub record SessionContent : Type 0 where
  pub case : Content
  pub words : List F

abbrev pub done : List ℕ
done = codes "done" ++ newline ∷ []

-- These bytes are a text of the session: that of its case, its words after their count, and the last line.
pub record SpellsSession (bytes : List ℕ) (session : SessionContent) : Type 0 where
  pub few : AreValues session.words
  pub case_text : List ℕ
  pub case : Spells Plain case_text session.case
  pub text : bytes ≡ concat
      (case_text ∷ codes "words " ∷ counted_text session.words ∷ done ∷ [])

unfoldable pub words_at : List ℕ → Taking (List F)
words_at bytes = do
  name ← word_at Section (codes "words ") bytes
  counted_at name.1

unfoldable pub session_at : List ℕ → Taking SessionContent
session_at bytes = do
  case ← case_at Plain bytes
  words ← words_at case.1
  last ← word_at Section done words.1
  Ok (record { case = case.0; words = words.0 }, last.1)

-- the session that all of the bytes spell
abbrev pub session_in : List ℕ → Result SessionContent Stop
session_in bytes = at_end (session_at bytes)

-- The session that bytes spell, or their refusal.
abbrev pub session_reading : List ℕ → Result SessionContent BadCase
session_reading bytes = refused (length bytes) (session_in bytes)
