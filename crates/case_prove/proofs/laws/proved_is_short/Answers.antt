use Rattle.std.proofs.Common.{◌<◌, ◌≤◌, length, sym, subst, arith}
use Rattle.proof_two.specs.Kinds.{kind_spelling}
use Rattle.case_text.specs.Content.{Content}
use Rattle.case_text.specs.Spelling.{lower_case_text}
use Rattle.case_prove.proofs.api.ProvedOutputs.{sound, meaning_there}
use Rattle.case_prove.proofs.ProvedSizes.{kind_length}
use Rattle.case_prove.proofs.ProvedText.{short}
use Rattle.case_prove.proofs.laws.proved_is_short.Goals as goal

pub returns : goal.returns
returns c kind case proved fit is =
    let there = meaning_there c.one_tree.ensures c.circuit_computes.ensures.inputs c.circuit_computes.ensures.computes case is.parts is.compiled is.outputs is.evaluated in
    let circuit = sound case.lang case.program is.parts is.compiled in
    let few : length is.outputs ≤ 65535 = omega (arith, there.as_many, c.circuit_is_sound.ensures.few_outputs case.lang case.program is.parts is.compiled) in
    subst (λ (p : Content). length (lower_case_text p) < 8388608) (sym is.proved_is) (short case.lang case.program case.inputs is.outputs (kind_spelling kind is.messages) fit.program fit.inputs few (kind_length kind circuit is.messages is.of_shape))
