-- A small true statement and small false ones, with messages and challenges that let them pass
use Rattle.std.specs.Prelude.{ℕ, ◌-◌, List, [], ◌∷◌}
use Rattle.field_ext.specs.Field.{K, of, prime}
use Rattle.circuit_core.specs.declared.gate.Kind.TheVariants.{Add, Mul}
use Rattle.circuit_core.specs.declared.gate.CircuitGate.{CircuitGate}
use Rattle.proof_wire.specs.declared.form.ProofForm.TheVariants.{Line, Pair}
use Rattle.gkr_layers.specs.Layers.{GateLayer}
use Rattle.gkr_layers.specs.Acceptance.{CircuitClaim}

-- a number and its negative
abbrev pub number : ℕ → K
number n = record { re = of n; im = of 0 }

abbrev pub minus : ℕ → K
minus n = number (prime - n)

abbrev pub adds : ℕ → ℕ → CircuitGate
adds left right = record { kind = Add; left = left; right = right }

abbrev pub multiplies : ℕ → ℕ → CircuitGate
multiplies left right = record { kind = Mul; left = left; right = right }

-- a layer that copies the value at position 1
abbrev pub copy : GateLayer
copy = record { k = 1; gates = adds 0 0 ∷ adds 1 0 ∷ [] }

-- a layer that multiplies the values at positions 1 and 2
abbrev pub product : GateLayer
product = record { k = 2; gates = adds 0 0 ∷ multiplies 1 2 ∷ [] }

-- "5 copied is 0", with a false message in the first round
abbrev pub zero_for_five : CircuitClaim
zero_for_five = record {
  form = Line;
  k = 1;
  layers = copy ∷ [];
  input_table = number 0 ∷ number 5 ∷ [];
  claimed_table = number 0 ∷ number 0 ∷ [];
}

abbrev pub false_round_messages : List (List K)
false_round_messages = (number 0 ∷ minus 20 ∷ number 20 ∷ [])
    ∷ (number 120 ∷ minus 80 ∷ minus 40 ∷ []) ∷ (number 15 ∷ number 5 ∷ []) ∷ []

abbrev pub false_round_challenges : List K
false_round_challenges = number 2 ∷ number 3 ∷ number 4 ∷ number 6 ∷ []

-- the same, with a false message of the line
abbrev pub false_line_messages : List (List K)
false_line_messages = (number 0 ∷ number 0 ∷ number 0 ∷ []) ∷ (number 0 ∷ number 0 ∷ number 0 ∷ [])
    ∷ (minus 20 ∷ number 40 ∷ []) ∷ []

abbrev pub false_line_challenges : List K
false_line_challenges = number 2 ∷ number 3 ∷ number 4 ∷ number 1 ∷ []

-- "3 times 4 is 13", with the messages of the true product and challenges that are all 0
abbrev pub thirteen_for_twelve : CircuitClaim
thirteen_for_twelve = record {
  form = Line;
  k = 1;
  layers = copy ∷ product ∷ [];
  input_table = number 0 ∷ number 3 ∷ number 4 ∷ number 0 ∷ [];
  claimed_table = number 0 ∷ number 13 ∷ [];
}

abbrev pub true_product_messages : List (List K)
true_product_messages =
    (number 0 ∷ number 12 ∷ minus 12 ∷ []) ∷ (number 0 ∷ number 12 ∷ minus 12 ∷ [])
    ∷ (number 0 ∷ number 0 ∷ [])
    ∷ (number 0 ∷ number 3 ∷ minus 3 ∷ []) ∷ (number 0 ∷ number 4 ∷ minus 4 ∷ [])
    ∷ (number 0 ∷ number 3 ∷ minus 3 ∷ []) ∷ (number 0 ∷ number 4 ∷ minus 4 ∷ [])
    ∷ (number 0 ∷ number 0 ∷ number 0 ∷ []) ∷ []

abbrev pub zero_challenges : List K
zero_challenges = number 0 ∷ number 0 ∷ number 0 ∷ number 0 ∷ number 0 ∷ number 0 ∷ number 0
    ∷ number 0 ∷ number 0 ∷ []

-- "5 copied is 5", with the honest messages
abbrev pub five_for_five : CircuitClaim
five_for_five = record {
  form = Pair;
  k = 1;
  layers = copy ∷ [];
  input_table = number 0 ∷ number 5 ∷ [];
  claimed_table = number 0 ∷ number 5 ∷ [];
}

abbrev pub true_pair_messages : List (List K)
true_pair_messages = (number 0 ∷ minus 5 ∷ number 15 ∷ []) ∷ (number 120 ∷ minus 80 ∷ minus 40 ∷ [])
    ∷ (number 15 ∷ number 20 ∷ []) ∷ []

abbrev pub true_pair_challenges : List K
true_pair_challenges = number 2 ∷ number 3 ∷ number 4 ∷ number 6 ∷ []

-- "5 copied is 0", with a false pair
abbrev pub zero_for_five_by_pair : CircuitClaim
zero_for_five_by_pair = record zero_for_five { form = Pair }

abbrev pub false_pair_messages : List (List K)
false_pair_messages = (number 0 ∷ number 0 ∷ number 0 ∷ []) ∷ (number 0 ∷ number 0 ∷ number 0 ∷ [])
    ∷ (minus 55 ∷ number 55 ∷ []) ∷ []

abbrev pub false_pair_challenges : List K
false_pair_challenges = number 2 ∷ number 3 ∷ number 4 ∷ number 2 ∷ []
