-- Gates, layers and tables of many copies of one circuit, side by side. The copy's bits are the
-- high bits of a position.
use Rattle.std.specs.Prelude.{ℕ, zero, suc, ◌+◌, ◌-◌, ◌*◌, ◌^◌, min, nat_lt, if◌then◌else◌}
use Rattle.std.specs.Prelude.{List, [], ◌++◌, map}
use Rattle.circuit_core.specs.declared.gate.CircuitGate.{CircuitGate}
use Rattle.gkr_layers.specs.Layers.{GateLayer}

-- n lists one after another, list 0 first
abbrev pub joined : {A : Type 0} → ℕ → (ℕ → List A) → List A
joined zero f = []
joined (suc n) f = joined n f ++ f n

-- the table of 2 ^ n copies: the copies' tables one after another
abbrev pub copies_table : {A : Type 0} → ℕ → (ℕ → List A) → List A
copies_table n table = joined (2 ^ n) table

-- a gate with both operands so many positions on
abbrev pub moved : ℕ → CircuitGate → CircuitGate
moved by gate = record { kind = gate.kind; left = by + gate.left; right = by + gate.right }

-- the gates of a layer over 2 ^ k positions in 2 ^ n copies: those of copy c have operands from
-- c * 2 ^ k on
abbrev pub copies : ℕ → ℕ → List CircuitGate → List CircuitGate
copies n k gates = copies_table n (λ c. map (moved (c * 2 ^ k)) gates)

abbrev pub copied_layer : ℕ → GateLayer → GateLayer
copied_layer n layer = record { k = layer.k + n; gates = copies n layer.k layer.gates }

abbrev pub copied_layers : ℕ → List GateLayer → List GateLayer
copied_layers n layers = map (copied_layer n) layers

-- how many of 2 ^ 0 to 2 ^ (m - 1) are below a number
abbrev pub powers_below : ℕ → ℕ → ℕ
powers_below zero number = 0
powers_below (suc m) number = powers_below m number + (if nat_lt (2 ^ m) number then 1 else 0)

-- the least n for which 2 ^ n copies have a place for each of so many instances
abbrev pub copy_exponent : ℕ → ℕ
copy_exponent count = powers_below count count

-- the instance that copy c stands for, of so many: the copies past the last instance are copies of
-- the last
abbrev pub instance_of : ℕ → ℕ → ℕ
instance_of count c = min c (count - 1)
