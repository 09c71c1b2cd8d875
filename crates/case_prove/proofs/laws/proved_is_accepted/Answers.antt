use Rattle.proof_two.specs.Kinds.{form_in}
use Rattle.case_prove.proofs.api.ProvedCases.{accepted}
use Rattle.case_prove.proofs.laws.proved_is_accepted.Goals as goal

pub returns : goal.returns
returns c = λ kind. accepted kind c.one_tree.ensures c.circuit_computes.ensures.inputs c.circuit_computes.ensures.computes (c.honest_is_accepted.ensures.proofs (form_in kind))
