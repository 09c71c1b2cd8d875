-- A case is read from exactly the bytes that spell it.
use Rattle.case_text.proofs.api.Readings.{read_exactly}
use Rattle.case_text.proofs.laws.read_exactly.Goals as goal

pub returns : goal.returns
returns c = read_exactly
