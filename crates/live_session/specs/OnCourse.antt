-- What the prover's end keeps
use Rattle.std.specs.Prelude.{◌≡◌, ◌+◌, ◌*◌, List, None}
use Rattle.field_ext.specs.Field.{F, K}
use Rattle.circuit_core.specs.Parts.{Parts}
use Rattle.circuit_eval.specs.Tables.{AreTables}
use Rattle.gkr_layers.specs.Layers.{challenges_of}
use Rattle.live_session.specs.Elements.{leading}
use Rattle.live_session.specs.Intake.{Fed}
use Rattle.live_session.specs.Proving.{stop_of}
use Rattle.live_session.specs.ProverState.{IsAt}
use Rattle.live_session.specs.declared.course.Course.{Course}

-- the values are the circuit's for some inputs, no fault was fed, and all challenges that were fed are gone through
pub record IsOnCourse (p : Parts) (values : List (List K)) (intake : Fed) (course : Course)
    : Type 0 where
  pub inputs : List F
  pub tables : AreTables p inputs values
  pub most : intake.most ≡ challenges_of p
  pub capacity : intake.capacity ≡ 8 * challenges_of p + 2
  pub faultless : stop_of (challenges_of p) intake.bytes ≡ None
  pub at_stage : (inputs : List F) → AreTables p inputs values
      → IsAt p inputs (leading (challenges_of p) intake.bytes) course
