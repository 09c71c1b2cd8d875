-- The bytes of a proof, and how many they are.
use Rattle.std.specs.Prelude.{ℕ, ◌+◌, ◌*◌, List, [], ◌∷◌, ◌++◌, drop}
use Rattle.std.specs.List.{flat_map, sum_by}
use Rattle.field_ext.specs.Field.{K}
use Rattle.field_ext.specs.Bytes.{bytes_of}
use Rattle.proof_wire.specs.declared.messages.Round.{Round}
use Rattle.proof_wire.specs.declared.messages.LayerMessages.{LayerMessages}
use Rattle.proof_wire.specs.declared.messages.Messages.{Messages}
use Rattle.proof_wire.specs.declared.form.ProofForm.{ProofForm}
use Rattle.proof_wire.specs.Forms.{last_degree, magic}

-- a round's three coefficients, constant first
abbrev pub coefficients_of : Round → List K
coefficients_of round = round.c0 ∷ round.c1 ∷ round.c2 ∷ []

-- a layer's coefficients: those of its rounds, and those of its last message
abbrev pub layer_coefficients : LayerMessages → List K
layer_coefficients layer = flat_map coefficients_of layer.rounds ++ layer.last

abbrev pub all_coefficients : List LayerMessages → List K
all_coefficients layers = flat_map layer_coefficients layers

-- the bytes of a proof of these messages, in a form
abbrev pub spelling : ProofForm → Messages → List ℕ
spelling form messages = magic form ++ flat_map bytes_of (all_coefficients messages.layers)

-- how many coefficients there are for layers whose lower neighbours have these many coordinates
abbrev pub coefficient_count : ProofForm → List ℕ → ℕ
coefficient_count form ks = sum_by (λ k. 6 * k + (last_degree form k + 1)) ks

-- how many bytes a proof has, for layers with these many coordinates, the output layer first
abbrev pub length_of : ProofForm → List ℕ → ℕ
length_of form ks = 4 + 8 * coefficient_count form (drop 1 ks)
