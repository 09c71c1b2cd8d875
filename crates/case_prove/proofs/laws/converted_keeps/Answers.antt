use Rattle.case_prove.proofs.ConvertedCases.{one_converted, same_verdicts}
use Rattle.case_prove.proofs.laws.converted_keeps.Goals as goal

pub returns-clause-verdict : goal.returns-clause-verdict
returns-clause-verdict c = same_verdicts c.one_circuit.ensures

pub returns-clause-one : goal.returns-clause-one
returns-clause-one c = one_converted c.one_circuit.ensures
