-- The bytes of a proof of version 2, and how many they are.
use Rattle.std.specs.Prelude.{ℕ, ◌+◌, ◌*◌, List, [], ◌∷◌, ◌++◌, drop, codes}
use Rattle.std.specs.List.{flat_map, sum_by}
use Rattle.field_ext.specs.Field.{K}
use Rattle.field_ext.specs.Bytes.{bytes_of}
use Rattle.proof_two.specs.declared.pairs.RoundPair.{RoundPair}
use Rattle.proof_two.specs.declared.pairs.LayerPairs.{LayerPairs}
use Rattle.proof_two.specs.declared.pairs.Pairs.{Pairs}

-- the fourth byte of a proof of version 2: the digit 2
abbrev pub mark_two : ℕ
mark_two = 50

-- the four bytes before the first coefficient
abbrev pub magic_two : List ℕ
magic_two = codes "GKR" ++ mark_two ∷ []

-- a round's two coefficients, constant first
abbrev pub pair_of : RoundPair → List K
pair_of round = round.c0 ∷ round.c2 ∷ []

-- a layer's coefficients: those of its rounds, and those of its line's message
abbrev pub layer_elements : LayerPairs → List K
layer_elements layer = flat_map pair_of layer.rounds ++ layer.last

abbrev pub all_elements : List LayerPairs → List K
all_elements layers = flat_map layer_elements layers

-- the bytes of a proof of version 2 of these messages
abbrev pub spelling_two : Pairs → List ℕ
spelling_two pairs = magic_two ++ flat_map bytes_of (all_elements pairs.layers)

-- how many coefficients there are for layers whose lower neighbours have these many coordinates
abbrev pub element_count : List ℕ → ℕ
element_count ks = sum_by (λ k. 4 * k + (k + 1)) ks

-- how many bytes a proof has, for layers with these many coordinates, the output layer first
abbrev pub length_two : List ℕ → ℕ
length_two ks = 4 + 8 * element_count (drop 1 ks)
