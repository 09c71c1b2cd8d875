use Rattle.text_parts.proofs.api.Whole.{whole_alone}
use Rattle.part_tests.specs.Notes.{note_at}
use Rattle.part_tests.proofs.Notes.{NoteText, note_exact}
use Rattle.part_tests.proofs.laws.no_note_begins_another.Goals as goal

pub returns : goal.returns
returns c = whole_alone NoteText note_at note_exact
