-- The lines of a session are rows of parts, so they take exactly their texts.
use Rattle.std.proofs.Common.{List, ℕ, ◌++◌, refl, ap}
use Rattle.std.specs.Prelude.{codes}
use Rattle.field_ext.specs.Field.{F}
use Rattle.text_parts.specs.declared.due.DueKind.TheVariants.{Section}
use Rattle.text_parts.specs.Exact.{IsExact}
use Rattle.text_parts.proofs.api.Compose.{same_texts}
use Rattle.text_parts.proofs.api.Rows.{Spelled, as_row, made_row, part_row, word_row}
use Rattle.case_text.specs.declared.case.form.Form.TheVariants.{Plain}
use Rattle.case_text.specs.Content.{AreValues, Content}
use Rattle.case_text.specs.Spelling.{counted_text}
use Rattle.case_text.proofs.api.Lines.{case_exact, counted_row}
use Rattle.session_text.specs.Sessions.{SessionContent, SpellsSession, done, session_at, words_at}

words_row : IsExact (Spelled (λ (w : Unit {0}) ws. AreValues ws) (λ w ws. codes "words " ++ counted_text ws)) words_at
unfolding words_at
words_row = word_row Section (codes "words ") counted_row

abbrev made : Content → List F → SessionContent
made case words = record { case = case; words = words }

abbrev pub SessionText : SessionContent → List ℕ → Type 0
SessionText session text = SpellsSession text session

pub session_exact : IsExact SessionText session_at
unfolding session_at
session_exact = same_texts _ SessionText session_at
    (λ session text h. record { few = h.holds.1.0; case_text = h.way.0; case = h.holds.0; text = h.parts })
    (λ session text h. record { way = (h.case_text, (tt, tt)); holds = (h.case, (h.few, refl)); parts = h.text })
    (part_row (λ s. s.case) (as_row (case_exact Plain)) (λ c text g.
    part_row (λ s. s.words) words_row (λ ws v g. word_row Section done (made_row (made c ws)))
    (λ ws v w s g e. ap (λ (x : SessionContent). x.words) e))
    (λ c text w s g h. ap (λ (x : SessionContent). x.case) h.1))
