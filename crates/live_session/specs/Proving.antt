-- The prover's end of a session, as a function of the bytes that it was fed
use Rattle.std.specs.Prelude.{ℕ, ◌+◌, ◌-◌, ◌*◌, List, [], ◌∷◌, ◌++◌, Bool, length, map, take, drop, Option, Some, None, if◌then◌else◌, ◌==◌, nat_le, nat_lt, slice_index_or}
use Rattle.std.specs.List.{flat_map, range_with_len}
use Rattle.field_ext.specs.Bytes.{bytes_of}
use Rattle.field_ext.specs.Field.{F, K, k_ops}
use Rattle.field_ext.specs.Polynomial.{coefficients}
use Rattle.circuit_core.specs.Parts.{Parts, input_table}
use Rattle.circuit_core.specs.Sound.{exponent_at}
use Rattle.gkr_layers.specs.Forms.{last_polynomial}
use Rattle.gkr_layers.specs.Layers.{GateLayer, challenges_of, layers_of, next_place, values_over}
use Rattle.gkr_layers.specs.Places.{Place}
use Rattle.gkr_layers.specs.Places.Place.{At}
use Rattle.gkr_layers.specs.Sumcheck.{round_polynomial}
use Rattle.proof_wire.specs.Forms.{last_degree}
use Rattle.proof_wire.specs.declared.form.ProofForm.TheVariants.{Line}
use Rattle.live_session.specs.Elements.{leading}
use Rattle.live_session.specs.declared.progress.LiveFault.{LiveFault}
use Rattle.live_session.specs.declared.progress.LiveFault.TheVariants.{Range, Extra}

-- a circuit, values of its layers, and the bytes fed so far
pub record Proving : Type 0 where
  pub parts : Parts
  pub values : List (List K)
  pub bytes : List ℕ

-- the true polynomial of a round, at the challenges before it
abbrev pub round_message : GateLayer → List K → Place K → List K → ℕ → List K
round_message layer values place rs j = coefficients k_ops 3
    (round_polynomial k_ops layer.k layer.gates values place (take j rs)
    (layer.k + layer.k - j - 1))

-- and of a layer's line
abbrev pub line_message : GateLayer → List K → List K → List K
line_message layer values rs = coefficients k_ops (last_degree Line layer.k + 1)
    (last_polynomial k_ops Line values (take layer.k (take (layer.k + layer.k) rs))
    (drop layer.k (take (layer.k + layer.k) rs)))

-- the messages of a layer
abbrev pub layer_messages : GateLayer → List K → Place K → List K → List (List K)
layer_messages layer values place rs =
    map (round_message layer values place rs) (range_with_len 0 (layer.k + layer.k))
    ++ line_message layer values rs ∷ []

-- and of all layers, each at the place that the challenges before lead to
abbrev pub honest_messages : List GateLayer → List K → Place K → List K → List (List K)
honest_messages [] input place rs = []
honest_messages (layer ∷ layers) input place rs =
    layer_messages layer (values_over k_ops layers input) place rs
    ++ honest_messages layers input (next_place k_ops Line layer.k rs)
    (drop (layer.k + layer.k + 1) rs)

-- those of a circuit on these inputs, where the first challenges are the output point
abbrev pub honest_for : Parts → List F → List K → List (List K)
honest_for p inputs words = honest_messages (layers_of p) (input_table p inputs)
    (At (take (exponent_at p 0) words)) (drop (exponent_at p 0) words)

abbrev pub message_bytes : List (List K) → List ℕ
message_bytes qs = flat_map (flat_map bytes_of) qs

-- what the prover has sent: each message once all challenges before it are there
abbrev pub prover_sent : Parts → List F → List K → List ℕ
prover_sent p inputs words =
    message_bytes (take (length words + 1 - exponent_at p 0) (honest_for p inputs words))

-- the challenges that were fed
abbrev pub words_in : Proving → List K
words_in s = leading (challenges_of s.parts) s.bytes

-- the fault of the lowest place in bytes, where so many challenges and the last byte are due
abbrev pub stop_of : ℕ → List ℕ → Option LiveFault
stop_of due bytes =
    let words = length (leading due bytes) in
    if words == due then
    (if nat_lt 1 (slice_index_or bytes (8 * due) 0) then Some (Range (8 * due))
    else (if nat_le (8 * due + 2) (length bytes) then Some (Extra (8 * due + 1)) else None))
    else (if nat_le (8 * words + 8) (length bytes) then Some (Range (8 * words)) else None)

-- whether the last byte says that the verifier accepts, once it was fed
abbrev pub verdict_known : ℕ → List ℕ → Option Bool
verdict_known due bytes =
    if nat_le (8 * due + 1) (length bytes) then Some (slice_index_or bytes (8 * due) 0 == 1)
    else None

-- with more bytes
abbrev pub fed_more : Proving → List ℕ → Proving
fed_more s more = record s { bytes = s.bytes ++ more }
