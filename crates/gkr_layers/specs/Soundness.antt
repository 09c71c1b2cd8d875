-- Which challenges let a false claim pass, and how many they are
use Rattle.std.specs.Prelude.{◌≡◌, ℕ, ◌+◌, ◌-◌, ◌<◌, ◌≤◌, List, [], ◌∷◌, ◌++◌, All, length, take, drop, replicate, slice_index, slice_index_or, map, sum, nat_lt, MatchBool}
use Rattle.std.specs.List.{range_with_len}
use Rattle.field_ext.specs.Field.{F, K, k_ops, zero_k}
use Rattle.field_ext.specs.Polynomial.{HasAtMost}
use Rattle.circuit_core.specs.Parts.{Parts, layer_values}
use Rattle.proof_wire.specs.declared.form.ProofForm.{ProofForm}
use Rattle.proof_wire.specs.Forms.{last_degree}
use Rattle.gkr_layers.specs.Sumcheck.{difference, IsExceptionalFold}
use Rattle.gkr_layers.specs.Layers.{GateLayer, IsExceptional, message_count}
use Rattle.gkr_layers.specs.Acceptance.{CircuitClaim, true_table, challenge_count, output_place}

-- v is exceptional as challenge n, after these messages and challenges
abbrev pub IsExceptionalChallenge : CircuitClaim → List (List K) → List K → ℕ → K → Type 0
IsExceptionalChallenge stated qs rs n v =
    let k = stated.k in
    MatchBool (nat_lt n k)
    (IsExceptionalFold k_ops (difference k_ops stated.claimed_table (true_table stated)) (take n rs)
    v)
    (IsExceptional k_ops stated.form stated.layers stated.input_table (output_place stated rs) qs
    (drop k rs) (n - k) v)

-- how many exceptional challenges there are at most: one for a coordinate of the output point, two for a round, and for a layer's last
-- message its degree
abbrev pub layer_bounds : ProofForm → List GateLayer → List ℕ
layer_bounds form [] = []
layer_bounds form (layer ∷ layers) =
    replicate (layer.k + layer.k) 2 ++ last_degree form layer.k ∷ layer_bounds form layers

-- the bounds of all challenges in order, where the output layer has 2 ^ k positions
abbrev pub bounds_of : ProofForm → ℕ → List GateLayer → List ℕ
bounds_of form k layers = replicate k 1 ++ layer_bounds form layers

-- their sum over all challenges
abbrev pub sum_of_bounds : ProofForm → ℕ → List GateLayer → ℕ
sum_of_bounds form k layers =
    sum (map (slice_index (bounds_of form k layers)) (range_with_len 0 (k + message_count layers)))

abbrev pub bounds : CircuitClaim → List ℕ
bounds stated = bounds_of stated.form stated.k stated.layers

abbrev pub bound : CircuitClaim → ℕ → ℕ
bound stated n = slice_index (bounds stated) n

-- each message has at most as many coefficients as its place allows, where it is there
abbrev pub HaveDegrees : ProofForm → List GateLayer → List (List K) → Type 0
HaveDegrees form [] qs = Unit {0}
HaveDegrees form (layer ∷ layers) qs =
    let k = layer.k in
    All (λ q. length q ≤ 3) (take (k + k) qs)
    × (length (slice_index_or qs (k + k) []) ≤ last_degree form k + 1)
    × HaveDegrees form layers (drop (k + k + 1) qs)

-- challenge n is exceptional after the messages and challenges before it, and few are
pub record LetsPass (stated : CircuitClaim) (qs : List (List K)) (rs : List K) (n : ℕ)
    : Type 0 where
  pub drawn : n < challenge_count stated
  pub exceptional : IsExceptionalChallenge stated (take (n + 1 - stated.k) qs) (take n rs) n
      (slice_index_or rs n zero_k)
  pub few : HasAtMost (bound stated n)
      (IsExceptionalChallenge stated (take (n + 1 - stated.k) qs) (take n rs) n)

-- the outputs are not those that the circuit has on these inputs
abbrev pub IsFalse : Parts → List F → List F → Type 0
IsFalse p inputs outputs = ¬ (outputs ≡ take (length outputs) (drop 1 (layer_values p inputs 0)))
