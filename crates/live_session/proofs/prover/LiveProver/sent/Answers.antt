-- What was sent is said by the stage
use Rattle.std.proofs.Common.{◌≡◌, List, ◌∙◌, subst}
use Rattle.field_ext.specs.Field.{F}
use Rattle.circuit_eval.specs.Tables.{AreTables}
use Rattle.gkr_layers.specs.Layers.{challenges_of}
use Rattle.live_session.specs.Elements.{leading}
use Rattle.live_session.specs.Proving.{Proving, prover_sent, words_in}
use Rattle.live_session.proofs.CourseSteps.{sent_stage}
use Rattle.live_session.proofs.prover.LiveProver.sent.Goals as goal

pub returns : goal.returns
returns c =
    let a = c.self.inside in
    let p = c.self.inside.circuit.now.parts in
    subst (λ (s : Proving). (inputs : List F) → AreTables s.parts inputs s.values → c.deref.result.now ≡ prover_sent s.parts inputs (words_in s)) c.self.view_is
    (λ inputs tables. c.deref.ensures.value ∙ sent_stage p inputs (leading (challenges_of p) a.intake.bytes) a.course.layer a.course.base a.course.sent.items a.course.stage (c.self.invariant.at_stage inputs tables))
