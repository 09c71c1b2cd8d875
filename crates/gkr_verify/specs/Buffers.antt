-- The buffers of a check
use Rattle.std.specs.Prelude.{◌≡◌, vec_len}
use Rattle.circuit_core.specs.Parts.{Parts}
use Rattle.gkr_verify.specs.declared.buffers.CheckBuffers.{CheckBuffers}
use Rattle.run_wiring.specs.CircuitRuns.{AreWiringsOf}

-- It has the wiring of each layer of the circuit, and room for 80 coordinates: of the two points where a claim may be, and of those of
-- a layer's operands, each of at most 20.
pub record AreBuffersFor (p : Parts) (buffers : CheckBuffers) : Type 0 where
  pub wirings : AreWiringsOf p buffers.wirings.items
  pub points : vec_len buffers.points ≡ 80
