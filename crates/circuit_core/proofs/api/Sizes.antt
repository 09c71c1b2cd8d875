-- The sizes of a circuit's layers
use Rattle.std.proofs.Common.{◌≡◌, ℕ, ◌+◌, ◌^◌, ◌<◌, ◌≤◌, [], length, get_or, All, sym, ◌∙◌, arith, subst}
use Rattle.std.proofs.lemmas.List.FromFn.{get_or-map-range_with_len, length-map-range_with_len}
use Rattle.std.proofs.lemmas.Bool.{cond-true, lt-ltb}
use Rattle.circuit_core.specs.Parts.{Parts, height, width_of, IsOver}
use Rattle.circuit_core.specs.Sound.{SoundCircuit, exponent_at, exponents}
use Rattle.circuit_core.proofs.api.Faultless.{none_from_test, width_power, layer_over}

module _ (c : SoundCircuit) where
  -- a layer has 2 ^ k positions
  pub size_of : (i : ℕ) → i ≤ height c.parts → (width_of c.parts i ≡ 2 ^ exponent_at c.parts i) × (1 ≤ exponent_at c.parts i) × (exponent_at c.parts i ≤ 20)
  size_of = width_power c.parts (none_from_test _ c.faultless)

  pub gates_size : (i : ℕ) → i < height c.parts → length (get_or c.parts.layers i []) ≡ 2 ^ exponent_at c.parts i
  gates_size i u = sym (cond-true _ _ _ (lt-ltb i (height c.parts) u)) ∙ (size_of i (omega arith)).0

  pub gates_over : (i : ℕ) → i < height c.parts → All (IsOver (2 ^ exponent_at c.parts (i + 1))) (get_or c.parts.layers i [])
  gates_over i u = subst (λ (n : ℕ). All (IsOver n) (get_or c.parts.layers i [])) (size_of (i + 1) (omega arith)).0 (layer_over c.parts (none_from_test _ c.faultless) i u)

-- the shape gives it of each layer
pub exponents-length : (p : Parts) → length (exponents p) ≡ height p + 1
exponents-length p = length-map-range_with_len (exponent_at p) 0 (height p + 1)

pub exponents-at : (p : Parts) (i d : ℕ) → i ≤ height p → get_or (exponents p) i d ≡ exponent_at p i
exponents-at p i d u = get_or-map-range_with_len (exponent_at p) 0 (height p + 1) i i d (omega arith) (omega arith)
