-- Which gates of a block are sent into a range of places
use Rattle.std.specs.Prelude.{◌≢◌, ℕ, zero, suc, ◌+◌, ◌<◌, ◌≤◌, List, slice_index_or}
use Rattle.circuit_core.specs.declared.gate.CircuitGate.{CircuitGate}
use Rattle.circuit_core.specs.Parts.{zero_gate}

-- the position after the first n of a list of positions, of which all are `start` or more
abbrev pub position_after : List ℕ → ℕ → ℕ → ℕ
position_after chosen start zero = start
position_after chosen start (suc n) = slice_index_or chosen n 0 + 1

-- no gate of the positions from a to before b is sent to the places from `from` on, of which there are `places`
abbrev pub AreElsewhere : (CircuitGate → ℕ) → List CircuitGate → ℕ → ℕ → ℕ → ℕ → Type 0
AreElsewhere place gates from places a b =
    (p x : ℕ) → a ≤ p → p < b → x < places → place (slice_index_or gates p zero_gate) ≢ from + x

-- the place to which the gate is sent whose position the list has at j
abbrev pub place_of_chosen : (CircuitGate → ℕ) → List CircuitGate → List ℕ → ℕ → ℕ
place_of_chosen place gates chosen j =
    place (slice_index_or gates (slice_index_or chosen j 0) zero_gate)

-- the first n of the list are, in order, the positions from `start` to before `end` whose gates are sent to these places
pub record AreChosen (place : CircuitGate → ℕ) (gates : List CircuitGate)
    (from places start end : ℕ) (chosen : List ℕ) (n : ℕ) : Type 0 where
  pub order : (j : ℕ) → j < n → position_after chosen start j ≤ slice_index_or chosen j 0
  pub before : (j : ℕ) → j < n → slice_index_or chosen j 0 < end
  pub sent : (j : ℕ) → j < n → (from ≤ place_of_chosen place gates chosen j)
      × (place_of_chosen place gates chosen j < from + places)
  pub between : (j : ℕ) → j < n → AreElsewhere place gates from places
      (position_after chosen start j) (slice_index_or chosen j 0)
  pub past : AreElsewhere place gates from places (position_after chosen start n) end
