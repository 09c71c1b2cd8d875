-- The sum of a layer's summand over both operands, with some of its coordinates bound to challenges
use Rattle.std.specs.Prelude.{◌≡◌, ◌≢◌, ℕ, ◌<◌, ◌+◌, ◌-◌, ◌*◌, ◌^◌, List, [], ◌∷◌, ◌++◌, map, length, if◌then◌else◌, nat_lt, ◌==◌, slice_index_or}
use Rattle.field_ext.specs.Ring.{Ops}
use Rattle.field_ext.specs.Field.{K, k_ops}
use Rattle.field_ext.specs.Sums.{sum_below, sum_cube}
use Rattle.field_ext.specs.Multilinear.{bits_of}
use Rattle.circuit_core.specs.declared.gate.CircuitGate.{CircuitGate}
use Rattle.circuit_core.specs.Parts.{Parts}
use Rattle.circuit_core.specs.Sound.{exponent_at}
use Rattle.field_ext.specs.Polynomial.{polynomial_ops, constant, coefficients}
use Rattle.gkr_layers.specs.Places.{Place, map_place, weighted_summand_at}
use Rattle.gkr_layers.specs.Sumcheck.{round_polynomial}
use Rattle.table_parts.specs.PartTables.{PartTables, part_sum, cuts_left}

-- a layer of gates over the 2 ^ k values of the layer below, the place of its claim, the challenges that are bound, and the parts of the tables that are lent, if any
pub record LayerSum : Type 0 where
  pub k : ℕ
  pub gates : List CircuitGate
  pub values : List K
  pub place : Place K
  pub bound : List K
  pub lent : List PartTables

-- that of a layer of a circuit over values of its layers, with no challenge bound
abbrev pub sum_of_layer : Parts → List (List K) → ℕ → Place K → LayerSum
sum_of_layer p values layer place = record {
  k = exponent_at p (layer + 1);
  gates = slice_index_or p.layers layer [];
  values = slice_index_or values (layer + 1) [];
  place = place;
  bound = [];
  lent = [];
}

-- the coordinates of the phase that are left once n of the 2 k are bound: first those of the left operand, then those of the right one
abbrev pub left_in_phase : ℕ → ℕ → ℕ
left_in_phase k n = if nat_lt n k then k - n else k + k - n

-- the coordinates of a later phase
abbrev pub after_phase : ℕ → ℕ → ℕ
after_phase k n = if nat_lt n k then k else 0

-- the part of a round's true polynomial in which the other coordinates of the phase are the bits of a number from `from` to before `to`
abbrev pub part_of_round : {A : Type 0} → Ops A → ℕ → List CircuitGate → List A → Place A → List A
    → ℕ → ℕ → List A
part_of_round o k gates values place bound from to =
    let n = length bound in
    sum_below (polynomial_ops o) (to - from) (λ j.
    sum_cube (polynomial_ops o) (after_phase k n) (λ c.
    weighted_summand_at (polynomial_ops o) o (constant o) k gates values
    (map_place (constant o) place)
    (map (constant o) bound ++ (o.zero ∷ o.one ∷ [])
    ∷ (bits_of (polynomial_ops o) (left_in_phase k n - 1) (from + j) ++ c))))

-- how many numbers the other coordinates of the phase have
abbrev pub pairs_of : LayerSum → ℕ
pairs_of s = 2 ^ (left_in_phase s.k (length s.bound) - 1)

-- a round is summed by the parts of the tables
abbrev pub pieces_of : LayerSum → ℕ
pieces_of s = 2 ^ cuts_left s.k (left_in_phase s.k (length s.bound))

-- how many pairs a part has once n of the 2 k challenges are bound
abbrev pub half_size : ℕ → ℕ → ℕ
half_size k n = let m = left_in_phase k n in 2 ^ (m - 1 - cuts_left k m)

-- how many pairs each piece has
abbrev pub piece_pairs : LayerSum → ℕ
piece_pairs s = half_size s.k (length s.bound)

abbrev pub piece_poly : LayerSum → ℕ → List K
piece_poly s piece = part_of_round k_ops s.k s.gates s.values s.place s.bound
    (piece * piece_pairs s) (piece * piece_pairs s + piece_pairs s)

-- each of these parts sums to its piece of the next round
abbrev pub SumToPieces : LayerSum → List PartTables → Type 0
SumToPieces s parts = (i : ℕ) (part : PartTables) → i < pieces_of s
    → part_sum (slice_index_or parts i part) ≡ coefficients k_ops 3 (piece_poly s i)

-- the next challenge isn't the last of the first phase, and parts have more pairs than one, so that they are parts of the round after it
abbrev pub StaysInParts : LayerSum → Type 0
StaysInParts s = (length s.bound + 1 ≢ s.k) × (1 < piece_pairs s)

-- the steps that bind a challenge: three for each pair, and one for each gate where the second phase begins
abbrev pub bind_steps : LayerSum → ℕ
bind_steps s = 3 * pairs_of s + (if length s.bound + 1 == s.k then length s.gates else 0)

-- the true polynomial of the next round
abbrev pub next_poly : LayerSum → List K
next_poly s = round_polynomial k_ops s.k s.gates s.values s.place s.bound
    (s.k + s.k - length s.bound - 1)
