-- The shape of the messages of a proof of version 2, and what is left of a proof's messages without middle coefficients
use Rattle.std.specs.Prelude.{◌≡◌, ℕ, ◌+◌, List, [], ◌∷◌, map, length}
use Rattle.proof_wire.specs.declared.messages.Round.{Round}
use Rattle.proof_wire.specs.declared.messages.LayerMessages.{LayerMessages}
use Rattle.proof_wire.specs.declared.messages.Messages.{Messages}
use Rattle.proof_two.specs.declared.pairs.RoundPair.{RoundPair}
use Rattle.proof_two.specs.declared.pairs.LayerPairs.{LayerPairs}
use Rattle.proof_two.specs.declared.pairs.Pairs.{Pairs}

-- two messages of rounds for each of k coordinates, and a line's message of k + 1 coefficients
pub record HasPairs (k : ℕ) (layer : LayerPairs) : Type 0 where
  pub rounds : length layer.rounds ≡ k + k
  pub last : length layer.last ≡ k + 1

-- there are messages of its shape for each layer, where the layers below have these many coordinates
abbrev pub HavePairs : List ℕ → List LayerPairs → Type 0
HavePairs [] [] = Unit {0}
HavePairs [] (m ∷ ms) = ⊥
HavePairs (k ∷ ks) [] = ⊥
HavePairs (k ∷ ks) (m ∷ ms) = HasPairs k m × HavePairs ks ms

-- a round's message without its middle coefficient
abbrev pub short_round : Round → RoundPair
short_round round = record { c0 = round.c0; c2 = round.c2 }

abbrev pub short_layer : LayerMessages → LayerPairs
short_layer layer = record { rounds = map short_round layer.rounds; last = layer.last }

-- all messages, with no middle coefficient of a round
abbrev pub shortened : Messages → Pairs
shortened messages = record { layers = map short_layer messages.layers }
