use Rattle.text_parts.proofs.api.Whole.{whole_one}
use Rattle.part_tests.specs.Notes.{note_at}
use Rattle.part_tests.proofs.Notes.{NoteText, note_exact}
use Rattle.part_tests.proofs.laws.one_note.Goals as goal

pub returns : goal.returns
returns c = whole_one NoteText note_at note_exact
