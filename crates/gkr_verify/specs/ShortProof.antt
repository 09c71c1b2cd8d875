-- The messages of a proof of version 2 with each middle coefficient filled in, and the sum equations of all layers
use Rattle.std.specs.Prelude.{ℕ, suc, List, [], ◌∷◌, ◌++◌, map, Bool, true, false}
use Rattle.field_ext.specs.Field.{F, K, k_ops, embed_k}
use Rattle.field_ext.specs.Polynomial.{value_at}
use Rattle.circuit_core.specs.Parts.{Parts, width_of, padded_values}
use Rattle.circuit_core.specs.Sound.{exponent_at}
use Rattle.transcript_fs.specs.Source.{Source, point_draws, state_after_point, draws, state_after}
use Rattle.proof_wire.specs.declared.messages.Round.{Round}
use Rattle.proof_wire.specs.declared.messages.LayerMessages.{LayerMessages}
use Rattle.proof_wire.specs.declared.messages.Messages.{Messages}
use Rattle.proof_wire.specs.Spelling.{coefficients_of}
use Rattle.proof_wire.specs.Lists.{round_messages}
use Rattle.proof_two.specs.declared.pairs.RoundPair.{RoundPair}
use Rattle.proof_two.specs.declared.pairs.LayerPairs.{LayerPairs}
use Rattle.proof_two.specs.declared.pairs.Pairs.{Pairs}
use Rattle.sumcheck_verify.specs.Sumcheck.{middle_for}
use Rattle.gkr_layers.specs.declared.verdict.Verdict.{Verdict}
use Rattle.gkr_layers.specs.declared.verdict.Verdict.TheVariants.{Accepted, Sum, End, Input}
use Rattle.gkr_layers.specs.Places.{value_over}
use Rattle.gkr_layers.specs.Places.Place.{At}
use Rattle.gkr_layers.specs.Equations.{Equation, sum_equations}

-- a round's message with the middle coefficient that the claim leaves
abbrev pub filled_round : K → RoundPair → Round
filled_round claim pair =
    record { c0 = pair.c0; c1 = middle_for k_ops claim pair.c0 pair.c2; c2 = pair.c2 }

module _ (source : Source) where
  -- the state once a layer's messages were taken in, before the challenge after its last
  abbrev pub state_at_last : List ℕ → LayerMessages → List ℕ
  state_at_last s layer =
      source.absorb (state_after source s (round_messages layer.rounds)) layer.last

  -- the claim on the layer below
  abbrev pub next_claim : List ℕ → LayerMessages → K
  next_claim s layer = value_at k_ops layer.last (source.draw (state_at_last s layer))

  -- the messages of rounds, each filled in by the claim that those before it leave, where challenges come from the source
  abbrev pub filled_rounds : List ℕ → K → List RoundPair → List Round
  filled_rounds s claim [] = []
  filled_rounds s claim (pair ∷ pairs) =
      let round = filled_round claim pair in
      let taken = source.absorb s (coefficients_of round) in
      round ∷ filled_rounds (source.after taken)
      (value_at k_ops (coefficients_of round) (source.draw taken)) pairs

  abbrev pub filled_layer : List ℕ → K → LayerPairs → LayerMessages
  filled_layer s claim layer =
      record { rounds = filled_rounds s claim layer.rounds; last = layer.last }

  -- the messages of layers, each filled in from the claim that those above it leave
  abbrev pub filled_layers : List ℕ → K → List LayerPairs → List LayerMessages
  filled_layers s claim [] = []
  filled_layers s claim (layer ∷ layers) =
      let filled = filled_layer s claim layer in
      filled ∷ filled_layers (source.after (state_at_last s filled)) (next_claim s filled) layers

  -- the sum equations of layers, the first of which has this number
  abbrev pub sums_from : ℕ → List ℕ → K → List LayerMessages → List Equation
  sums_from number s claim [] = []
  sums_from number s claim (layer ∷ layers) =
      let qs = round_messages layer.rounds in
      sum_equations number 1 claim qs (draws source s qs)
      ++ sums_from (suc number) (source.after (state_at_last s layer)) (next_claim s layer) layers

-- the claim on the outputs: the extension of the claimed output layer, at the point of the first challenges
abbrev pub output_claim : Parts → List F → Source → List ℕ → K
output_claim p outputs source s =
    value_over k_ops (map embed_k (padded_values (width_of p 0) outputs))
    (At (point_draws source s (exponent_at p 0)))

-- the messages of a proof of version 2 of these outputs, each middle coefficient filled in
abbrev pub filled : Parts → List F → Source → List ℕ → Pairs → Messages
filled p outputs source s pairs = record {
  layers = filled_layers source (state_after_point source s (exponent_at p 0))
      (output_claim p outputs source s) pairs.layers;
}

-- the sum equations of all layers
abbrev pub sums_of : Parts → List F → Source → List ℕ → Messages → List Equation
sums_of p outputs source s messages =
    sums_from source 0 (state_after_point source s (exponent_at p 0))
    (output_claim p outputs source s) messages.layers

-- whether a verdict names a sum equation
abbrev pub is_sum : Verdict → Bool
is_sum Accepted = false
is_sum (Sum layer round had claim) = true
is_sum (End layer had want) = false
is_sum (Input had want) = false
