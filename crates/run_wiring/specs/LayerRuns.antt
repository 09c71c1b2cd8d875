-- The runs of a layer, as contracts see them
use Rattle.std.specs.Prelude.{ℕ, ◌+◌, ◌^◌, List, [], ◌∷◌, length, Bool, true, ◌&&◌, IsTrue, nat_eq, nat_le, nat_lt}
use Rattle.std.specs.List.{list_all}
use Rattle.circuit_core.specs.declared.gate.CircuitGate.{CircuitGate}
use Rattle.run_wiring.specs.declared.run.Run.{Run}
use Rattle.run_wiring.specs.Runs.{gates_of}

-- whether each run begins where the one before ends, the first at position g
abbrev pub follow_on : ℕ → List Run → Bool
follow_on g [] = true
follow_on g (run ∷ runs) = nat_eq run.first g && follow_on (g + run.count) runs

-- whether a run has gates, and its operands move by at most 2 a gate
abbrev pub is_sound_run : Run → Bool
is_sound_run run = nat_le 1 run.count && (nat_le run.lstep 2 && nat_le run.rstep 2)

-- whether a gate's operands are positions of a layer of this width
abbrev pub is_over : ℕ → CircuitGate → Bool
is_over width gate = nat_lt gate.left width && nat_lt gate.right width

-- whether the runs stand for 2 ^ k gates over 2 ^ below positions
abbrev pub are_of_layer : ℕ → ℕ → List Run → Bool
are_of_layer k below runs =
    follow_on 0 runs && (list_all is_sound_run runs
    && (nat_eq (length (gates_of runs)) (2 ^ k) && list_all (is_over (2 ^ below)) (gates_of runs)))

pub record LayerRuns : Type 0 where
  pub k : ℕ
  pub below : ℕ
  pub runs : List Run
  pub stand : IsTrue (are_of_layer k below runs)
