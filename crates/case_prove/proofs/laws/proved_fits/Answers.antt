use Rattle.std.proofs.Common.{sym, subst}
use Rattle.proof_two.specs.Kinds.{kind_spelling}
use Rattle.case_text.specs.Content.{Fits}
use Rattle.case_prove.proofs.api.ProvedOutputs.{sound, meaning_there}
use Rattle.case_prove.proofs.ProvedSizes.{fits, kind_length}
use Rattle.case_prove.proofs.laws.proved_fits.Goals as goal

pub returns : goal.returns
returns c kind case proved fit is =
    let there = meaning_there c.one_tree.ensures c.circuit_computes.ensures.inputs c.circuit_computes.ensures.computes case is.parts is.compiled is.outputs is.evaluated in
    let circuit = sound case.lang case.program is.parts is.compiled in
    subst Fits (sym is.proved_is)
    (fits circuit case.lang case.program case.inputs is.outputs (kind_spelling kind is.messages) fit.program fit.inputs there.as_many (c.circuit_is_sound.ensures.few_outputs case.lang case.program is.parts is.compiled) (kind_length kind circuit is.messages is.of_shape))
