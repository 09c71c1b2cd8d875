-- A circuit with no fault, and its shape
use Rattle.std.specs.Prelude.{ℕ, zero, suc, ◌+◌, ◌≤◌, List, Option, None, IsTrue, ◌&&◌, length, map, unwrap_or, is_none, slice_get, nat_le}
use Rattle.std.specs.List.{list_all, range_with_len}
use Rattle.circuit_core.specs.declared.gate.Leaf.{Leaf}
use Rattle.circuit_core.specs.Parts.{Limits, Parts, height, width_of}
use Rattle.circuit_core.specs.Faults.{fault_of, exponent_of}

-- The limits that every circuit keeps: at most 1,024 layers above the input, and at most 2 ^ 20 = 1,048,576 positions in a layer.
abbrev pub greatest : Limits
greatest = record { height = 1024; exponent = 20 }

pub record SoundCircuit : Type 0 where
  pub parts : Parts
  pub faultless : IsTrue (is_none (fault_of greatest parts))
  pub has_output : 1 ≤ parts.outputs

-- a layer has 2 ^ k positions: k for each layer, that of the outputs first
pub record Exponents : Type 0 where
  pub ks : List ℕ
  pub long : 2 ≤ length ks
  pub short : length ks ≤ greatest.height + 1
  pub bounded : IsTrue (list_all (λ k. nat_le 1 k && nat_le k greatest.exponent) ks)

abbrev pub exponent_at : Parts → ℕ → ℕ
exponent_at p i = unwrap_or (exponent_of greatest (width_of p i)) 0

abbrev pub exponents : Parts → List ℕ
exponents p = map (exponent_at p) (range_with_len 0 (height p + 1))

-- the leaf at a position of the input layer
abbrev pub leaf_at : Parts → ℕ → Option Leaf
leaf_at p zero = None
leaf_at p (suc k) = slice_get p.leaves k
