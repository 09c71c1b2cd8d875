use Rattle.std.proofs.Common.{rules}
use Rattle.case_prove.proofs.verification.proof_form.Goals as goal

pub returns : goal.returns
returns c = search rules
