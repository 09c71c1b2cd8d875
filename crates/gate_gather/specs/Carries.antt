-- Layers that need no third table
use Rattle.std.specs.Prelude.{◌≡◌, List, All, slice_index_or}
use Rattle.field_ext.specs.Ring.{Ops}
use Rattle.circuit_core.specs.declared.gate.Kind.TheVariants.{Add}
use Rattle.circuit_core.specs.declared.gate.CircuitGate.{CircuitGate}

-- the gate multiplies, or it carries a value up: it adds the value of position 0
abbrev pub MultipliesOrCarries : CircuitGate → Type 0
MultipliesOrCarries gate = gate.kind ≡ Add → gate.right ≡ 0

-- a layer of multiply gates and carries alone, over values of which the first is 0
pub record HasNoSums (A : Type 0) (o : Ops A) (gates : List CircuitGate) (values : List A) : Type 0
  where
    pub gates_do : All MultipliesOrCarries gates
    pub zero_first : slice_index_or values 0 o.zero ≡ o.zero
