-- The challenges before are gone through
use Rattle.std.proofs.Common.{List, take}
use Rattle.field_ext.specs.Field.{F}
use Rattle.circuit_eval.specs.Tables.{AreTables}
use Rattle.live_session.specs.ProverState.{IsAt}
use Rattle.live_session.proofs.prover.run.Given as goal

abbrev pub invariant-loop-u : goal.invariant-loop-u
invariant-loop-u g l = (inputs : List F) → AreTables l.circuit.parts inputs l.values → IsAt l.circuit.parts inputs (take l.u l.words) l.course
