-- The longest runs of a layer's gates
use Rattle.std.specs.Prelude.{◌≡◌, ℕ, ◌+◌, ◌≤◌, ◌<◌, List, length, slice_index_or, All}
use Rattle.circuit_core.specs.declared.gate.CircuitGate.{CircuitGate}
use Rattle.circuit_core.specs.Parts.{zero_gate}
use Rattle.run_wiring.specs.declared.run.Run.{Run}
use Rattle.run_wiring.specs.Runs.{gate_in, HasSmallSteps, StandsFor}

-- the run's gates are the layer's at its positions
pub record IsRunOf (gates : List CircuitGate) (run : Run) : Type 0 where
  pub within : run.first + run.count ≤ length gates
  pub same : (t : ℕ) → t < run.count
      → slice_index_or gates (run.first + t) zero_gate ≡ gate_in run t
  pub small : HasSmallSteps run

-- no run from the same position has more gates, and a run of one gate has steps 0
pub record IsLongest (gates : List CircuitGate) (run : Run) : Type 0 where
  pub is_run : IsRunOf gates run
  pub some : 1 ≤ run.count
  pub single : run.count ≡ 1 → (run.lstep ≡ 0) × (run.rstep ≡ 0)
  pub longest : (other : Run) → IsRunOf gates other → other.first ≡ run.first
      → other.count ≤ run.count

-- the runs stand for the layer, and each is the longest from its position
pub record AreGreedy (runs : List Run) (gates : List CircuitGate) : Type 0 where
  pub stand : StandsFor runs gates
  pub longest : All (IsLongest gates) runs

-- the next gate may be the second of a run
pub record CanFollow (gate next : CircuitGate) : Type 0 where
  pub kind : next.kind ≡ gate.kind
  pub left : gate.left ≤ next.left
  pub left_step : next.left ≤ gate.left + 2
  pub right : gate.right ≤ next.right
  pub right_step : next.right ≤ gate.right + 2
