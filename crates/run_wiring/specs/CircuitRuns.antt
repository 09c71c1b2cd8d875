-- The runs of a circuit's layers, and which layers are gone over by them
use Rattle.std.specs.Prelude.{◌≡◌, ℕ, ◌+◌, ◌*◌, ◌^◌, ◌<◌, ◌≤◌, List, [], length, max, slice_index_or}
use Rattle.circuit_core.specs.Parts.{Parts, height}
use Rattle.circuit_core.specs.Sound.{exponent_at}
use Rattle.run_wiring.specs.Greedy.{AreGreedy}
use Rattle.run_wiring.specs.LayerRuns.{LayerRuns}
use Rattle.run_wiring.specs.declared.layer_wiring.LayerWiring.{LayerWiring}
use Rattle.run_wiring.specs.declared.layer_wiring.LayerWiring.TheVariants.{Runs, Gates}

-- these are the greedy runs of a layer of the circuit
pub record AreRunsOf (p : Parts) (layer : ℕ) (runs : LayerRuns) : Type 0 where
  pub greedy : AreGreedy runs.runs (slice_index_or p.layers layer [])
  pub k : runs.k ≡ exponent_at p layer
  pub below : runs.below ≡ exponent_at p (layer + 1)

-- The rule by which a layer is gone over by its runs or gate by gate: a run counts as much as 16 gates for each coordinate of the
-- longest point, and 16 more.
abbrev pub AreFew : LayerRuns → Type 0
AreFew runs = 16 * (max runs.k runs.below + 1) * length runs.runs ≤ 2 ^ runs.k

-- a layer's wiring is by its runs exactly where they are few; gate by gate nothing is kept
abbrev pub IsWiringOf : Parts → ℕ → LayerWiring → Type 0
IsWiringOf p layer (Runs runs) = AreRunsOf p layer runs × AreFew runs
IsWiringOf p layer Gates = (runs : LayerRuns) → AreRunsOf p layer runs → ¬ AreFew runs

-- the wiring of each layer above the inputs, the output layer first
pub record AreWiringsOf (p : Parts) (wirings : List LayerWiring) : Type 0 where
  pub each : length wirings ≡ height p
  pub of : (layer : ℕ) → layer < height p
      → IsWiringOf p layer (slice_index_or wirings layer Gates)
