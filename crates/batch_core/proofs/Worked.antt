-- The examples by computation
use Rattle.std.proofs.Common.{◌≡◌, [], ◌∷◌, refl}
use Rattle.field_ext.specs.Field.{k_ops, of}
use Rattle.field_ext.specs.Multilinear.{extension_at}
use Rattle.circuit_core.specs.Faults.{first_below}
use Rattle.proof_wire.specs.declared.form.ProofForm.TheVariants.{Line}
use Rattle.gkr_layers.specs.Examples.{number, minus, adds, multiplies}
use Rattle.gkr_layers.proofs.api.Accepted.{equal}
use Rattle.batch_core.specs.CopiedWiring.{same_copy}
use Rattle.batch_core.specs.CopiedValues.{instance_weight}
use Rattle.batch_core.specs.BatchClaim.{claim_of_batch}
use Rattle.batch_core.specs.Examples.{product_circuit, two_products, two_multiples, three_outputs}

pub products_exponent : (claim_of_batch Line product_circuit [] two_products).k ≡ 2
unfolding first_below
products_exponent = refl

pub products_layers : (claim_of_batch Line product_circuit [] two_products).layers
    ≡ record { k = 2; gates = adds 0 0 ∷ adds 1 0 ∷ adds 2 2 ∷ adds 3 2 ∷ [] } ∷ record { k = 3; gates = adds 0 0 ∷ multiplies 1 2 ∷ adds 4 4 ∷ multiplies 5 6 ∷ [] } ∷ []
unfolding first_below
products_layers = refl

pub products_inputs : (claim_of_batch Line product_circuit [] two_products).input_table ≡ number 0 ∷ number 3 ∷ number 4 ∷ number 0 ∷ number 0 ∷ number 5 ∷ number 6 ∷ number 0 ∷ []
products_inputs = refl

pub products_claimed : (claim_of_batch Line product_circuit [] two_products).claimed_table ≡ number 0 ∷ number 12 ∷ number 0 ∷ number 30 ∷ []
products_claimed = refl

pub one_coordinate : same_copy k_ops (number 3 ∷ []) (number 5 ∷ []) (number 7 ∷ []) ≡ number 57
unfolding of
one_coordinate = equal _ _ refl

pub first_output : extension_at k_ops k_ops (λ x. x) (claim_of_batch Line product_circuit [] three_outputs).claimed_table (number 1 ∷ number 0 ∷ number 0 ∷ []) ≡ number 8
unfolding of
first_output = equal _ _ refl

pub third_output : extension_at k_ops k_ops (λ x. x) (claim_of_batch Line product_circuit [] three_outputs).claimed_table (number 1 ∷ number 0 ∷ number 1 ∷ []) ≡ number 10
unfolding of
third_output = equal _ _ refl

pub fourth_output : extension_at k_ops k_ops (λ x. x) (claim_of_batch Line product_circuit [] three_outputs).claimed_table (number 1 ∷ number 1 ∷ number 1 ∷ []) ≡ number 10
unfolding of
fourth_output = equal _ _ refl

pub first_weight : instance_weight k_ops (number 2 ∷ number 3 ∷ []) 3 0 ≡ number 2
unfolding of
first_weight = equal _ _ refl

pub second_weight : instance_weight k_ops (number 2 ∷ number 3 ∷ []) 3 1 ≡ minus 4
unfolding of
second_weight = equal _ _ refl

pub third_weight : instance_weight k_ops (number 2 ∷ number 3 ∷ []) 3 2 ≡ number 3
unfolding of
third_weight = equal _ _ refl

pub shared_position : extension_at k_ops k_ops (λ x. x) (claim_of_batch Line product_circuit (of 3 ∷ []) two_multiples).input_table (number 1 ∷ number 0 ∷ number 2 ∷ []) ≡ number 3
unfolding of
shared_position = equal _ _ refl

pub own_position : extension_at k_ops k_ops (λ x. x) (claim_of_batch Line product_circuit (of 3 ∷ []) two_multiples).input_table (number 0 ∷ number 1 ∷ number 2 ∷ []) ≡ number 8
unfolding of
own_position = equal _ _ refl

pub both_positions : extension_at k_ops k_ops (λ x. x) (claim_of_batch Line product_circuit (of 3 ∷ []) two_multiples).input_table (number 2 ∷ number 3 ∷ number 5 ∷ []) ≡ minus 54
unfolding of
both_positions = equal _ _ refl
