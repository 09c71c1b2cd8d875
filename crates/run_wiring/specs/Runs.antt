-- Runs of gates, and the gates that they stand for
use Rattle.std.specs.Prelude.{◌≡◌, ℕ, ◌+◌, ◌*◌, ◌≤◌, ◌<◌, ◌^◌, List, [], ◌∷◌, ◌++◌, map, All}
use Rattle.std.specs.List.{range_with_len}
use Rattle.circuit_core.specs.declared.gate.CircuitGate.{CircuitGate}
use Rattle.run_wiring.specs.declared.run.Run.{Run}

-- the gate of a run at place t
abbrev pub gate_in : Run → ℕ → CircuitGate
gate_in run t = record {
  kind = run.kind;
  left = run.left + t * run.lstep;
  right = run.right + t * run.rstep;
}

-- the gates of a run
abbrev pub gates_in : Run → List CircuitGate
gates_in run = map (gate_in run) (range_with_len 0 run.count)

-- the gates of runs, one after another
abbrev pub gates_of : List Run → List CircuitGate
gates_of [] = []
gates_of (run ∷ runs) = gates_in run ++ gates_of runs

-- each run begins where the one before ends, the first at position g
abbrev pub FollowOn : ℕ → List Run → Type 0
FollowOn g [] = Unit {0}
FollowOn g (run ∷ runs) = (run.first ≡ g) × FollowOn (g + run.count) runs

-- operands move by at most 2 a gate
abbrev pub HasSmallSteps : Run → Type 0
HasSmallSteps run = (run.lstep ≤ 2) × (run.rstep ≤ 2)

-- no run is empty
abbrev pub HasGates : Run → Type 0
HasGates run = 1 ≤ run.count

-- a list of runs stands for a layer where its gates, in order, are the layer's
pub record StandsFor (runs : List Run) (gates : List CircuitGate) : Type 0 where
  pub in_order : FollowOn 0 runs
  pub some : All HasGates runs
  pub small : All HasSmallSteps runs
  pub same : gates_of runs ≡ gates

-- the run's gates have positions below 2 ^ k, and their operands below 2 ^ j
pub record IsWithin (k j : ℕ) (run : Run) : Type 0 where
  pub some : 1 ≤ run.count
  pub positions : run.first + run.count ≤ 2 ^ k
  pub left : (t : ℕ) → t < run.count → run.left + t * run.lstep < 2 ^ j
  pub right : (t : ℕ) → t < run.count → run.right + t * run.rstep < 2 ^ j
