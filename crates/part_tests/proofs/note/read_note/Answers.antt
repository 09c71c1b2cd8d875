use Rattle.part_tests.proofs.Notes.{note_found}
use Rattle.part_tests.proofs.note.read_note.Goals as goal

pub returns-clause-found : goal.returns-clause-found
returns-clause-found c = note_found c.args.bytes.now c.whole.result c.whole.ensures
