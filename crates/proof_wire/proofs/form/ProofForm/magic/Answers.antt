use Rattle.std.proofs.Common.{rules}
use Rattle.proof_wire.proofs.form.ProofForm.magic.Goals as goal

pub returns-in-Line : goal.returns-in-Line
returns-in-Line c = search rules

pub returns-in-Pair : goal.returns-in-Pair
returns-in-Pair c = search rules
