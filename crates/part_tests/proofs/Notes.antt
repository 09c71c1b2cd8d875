-- The lines of a note are rows of parts, so they take exactly their texts.
use Rattle.std.proofs.Common.{ℕ, List, Result, Ok, Err, refl, arith}
use Rattle.std.specs.Prelude.{codes, IfOk}
use Rattle.text_parts.specs.declared.due.DueKind.TheVariants.{Header, Section}
use Rattle.text_parts.specs.declared.stop.ReadError.{ReadError}
use Rattle.text_parts.specs.Bytes.{newline}
use Rattle.text_parts.specs.Parts.{Gives, at_end}
use Rattle.text_parts.specs.Exact.{IsExact}
use Rattle.text_parts.proofs.api.Compose.{same_texts}
use Rattle.text_parts.proofs.api.Rows.{made_row, number_row, part_row, word_row}
use Rattle.text_parts.proofs.api.Whole.{whole_found}
use Rattle.part_tests.specs.Notes.{SpellsNote, header, last_line, note_at, page_count}

abbrev pub NoteText : ℕ → List ℕ → Type 0
NoteText pages text = SpellsNote text pages

pub note_exact : IsExact NoteText note_at
unfolding note_at
note_exact = same_texts _ NoteText note_at
    (λ pages text h. record { few = h.holds.0; text = h.parts })
    (λ pages text h. record { way = (tt, tt); holds = (h.few, refl); parts = h.text })
    (word_row Header header (word_row Section (codes "pages ")
    (part_row (λ n. n) (number_row page_count newline (record { some = omega arith; fits = omega arith; zero_closes = refl; other_closes = refl }) refl refl)
    (λ n v g. word_row Section last_line (made_row n))
    (λ n v w c g e. e))))

pub note_found : (bytes : List ℕ) (result : Result ℕ ReadError) → Gives (λ pages. pages) result (at_end (note_at bytes)) → IfOk result (λ pages. SpellsNote bytes pages)
note_found bytes (Ok pages) h = whole_found NoteText note_at note_exact bytes pages h
note_found bytes (Err e) h = tt
