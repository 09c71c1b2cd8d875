-- The messages of a proof as one list, as the equations take them, and their shape
use Rattle.std.specs.Prelude.{◌≡◌, ℕ, ◌+◌, List, [], ◌∷◌, ◌++◌, map, length}
use Rattle.field_ext.specs.Field.{K}
use Rattle.proof_wire.specs.declared.messages.Round.{Round}
use Rattle.proof_wire.specs.declared.messages.LayerMessages.{LayerMessages}
use Rattle.proof_wire.specs.declared.form.ProofForm.{ProofForm}
use Rattle.proof_wire.specs.Forms.{last_degree}
use Rattle.proof_wire.specs.Spelling.{coefficients_of}

-- the coefficients of rounds' messages
abbrev pub round_messages : List Round → List (List K)
round_messages rounds = map coefficients_of rounds

-- a layer's messages: those of its rounds, and the last
abbrev pub messages_of : LayerMessages → List (List K)
messages_of m = round_messages m.rounds ++ m.last ∷ []

-- all messages, in the order of the proof
abbrev pub all_messages : List LayerMessages → List (List K)
all_messages [] = []
all_messages (m ∷ ms) = messages_of m ++ all_messages ms

-- two messages of rounds for each of k coordinates, and a last one of as many coefficients as the form has
pub record HasShape (form : ProofForm) (k : ℕ) (messages : LayerMessages) : Type 0 where
  pub rounds : length messages.rounds ≡ k + k
  pub last : length messages.last ≡ last_degree form k + 1

-- there are messages of its shape for each layer, where the layers below have these many coordinates
abbrev pub HaveShape : ProofForm → List ℕ → List LayerMessages → Type 0
HaveShape form [] [] = Unit {0}
HaveShape form [] (m ∷ ms) = ⊥
HaveShape form (k ∷ ks) [] = ⊥
HaveShape form (k ∷ ks) (m ∷ ms) = HasShape form k m × HaveShape form ks ms
