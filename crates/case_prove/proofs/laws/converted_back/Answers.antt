use Rattle.case_prove.proofs.ConvertedCases.{back}
use Rattle.case_prove.proofs.laws.converted_back.Goals as goal

pub returns : goal.returns
returns c = back c.one_circuit.ensures
