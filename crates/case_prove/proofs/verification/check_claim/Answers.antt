-- The verdict is the one with the challenges of the case's own transcript.
use Rattle.std.proofs.Common.{List, sym}
use Rattle.std.proofs.lemmas.Result.{IfOk-weaker}
use Rattle.field_ext.specs.Field.{F}
use Rattle.circuit_core.specs.Parts.{Parts}
use Rattle.case_text.specs.Content.{Content}
use Rattle.case_prove.specs.Verified.{HasProof}
use Rattle.case_prove.proofs.api.ReadProofs.{with_outputs}
use Rattle.case_prove.proofs.Statements.{of_start}
use Rattle.case_prove.proofs.verification.check_claim.Goals as goal

pub returns : goal.returns
returns c =
    let case : Content = c.args.case.now in
    let parts : Parts = c.args.circuit.now.parts in
    let messages = c.args.messages.now in
    let outputs : List F = c.in-Some.outputs.now in
    let has : HasProof c.args.form c.args.case.now c.args.circuit.now.parts c.in-Some.outputs.now c.args.messages.now = with_outputs c.args.form case parts messages outputs c.requires.read (sym c.in-Some.ensures) in
    IfOk-weaker c.check_as.result _ _
    (λ verdict is. record {
      parts = parts;
      outputs = outputs;
      claim = has.claim;
      as_many = has.as_many;
      form = c.args.form;
      messages = messages;
      of_shape = has.of_shape;
      spelled = has.spelled;
      verdict_is =
          of_start c.args.form case parts outputs messages verdict _ _ c.inputs.ensures.inputs (c.requires.start outputs (sym c.in-Some.ensures)) is;
    })
    c.check_as.ensures.verdict
