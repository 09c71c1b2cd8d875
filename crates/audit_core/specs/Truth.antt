-- The true message in each place of a proof, at the challenges that were drawn
use Rattle.std.specs.Prelude.{ℕ, ◌+◌, ◌-◌, List, [], ◌∷◌, take, drop, slice_index_or, nat_lt, nat_eq, if◌then◌else◌}
use Rattle.field_ext.specs.Field.{K, k_ops}
use Rattle.field_ext.specs.Polynomial.{SamePolynomial}
use Rattle.proof_wire.specs.declared.form.ProofForm.{ProofForm}
use Rattle.gkr_layers.specs.Places.{Place}
use Rattle.gkr_layers.specs.Forms.{last_polynomial}
use Rattle.gkr_layers.specs.Sumcheck.{round_polynomial}
use Rattle.gkr_layers.specs.Layers.{GateLayer, values_over, next_place}
use Rattle.gkr_layers.specs.Acceptance.{CircuitClaim, output_place}

-- the true polynomial in the place of message n, counted from 0: that of a round, or the last of a layer
abbrev pub true_message : ProofForm → List GateLayer → List K → Place K → List K → ℕ → List K
true_message form [] input place rs n = []
true_message form (layer ∷ layers) input place rs n =
    let k = layer.k in
    let t = values_over k_ops layers input in
    if nat_lt n (k + k) then round_polynomial k_ops k layer.gates t place (take n rs)
    (k + k - 1 - n)
    else (if nat_eq n (k + k) then last_polynomial k_ops form t (take k (take (k + k) rs))
    (drop k (take (k + k) rs))
    else true_message form layers input (next_place k_ops form k rs) (drop (k + k + 1) rs)
    (n - (k + k + 1)))

-- message n differs from it as a polynomial
abbrev pub IsFalseMessage : CircuitClaim → List (List K) → List K → ℕ → Type 0
IsFalseMessage stated qs rs n =
    ¬ SamePolynomial k_ops (slice_index_or qs n [])
    (true_message stated.form stated.layers stated.input_table (output_place stated rs)
    (drop stated.k rs) n)
