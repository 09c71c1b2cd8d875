-- The rounds of a layer, proved one after another
use Rattle.std.specs.Prelude.{◌≡◌, ℕ, ◌+◌, ◌≤◌, List, [], ◌∷◌, ◌++◌, length, take, drop, Option, IfSome, IsTrue}
use Rattle.std.specs.Global.{Vec}
use Rattle.field_ext.specs.Field.{F, K, k_ops}
use Rattle.field_ext.specs.Polynomial.{coefficients}
use Rattle.round_tables.specs.LayerSum.{LayerSum}
use Rattle.line_reduce.specs.Parts.{part_coordinates, parts_of}
use Rattle.transcript_fs.specs.Source.{Source, draws, state_after}
use Rattle.proof_wire.specs.declared.messages.Round.{Round}
use Rattle.proof_wire.specs.declared.form.ProofForm.{ProofForm}
use Rattle.proof_wire.specs.declared.messages.LayerMessages.{LayerMessages}
use Rattle.proof_wire.specs.Lists.{round_messages, all_messages, HaveShape}
use Rattle.circuit_core.specs.Parts.{Parts, input_table}
use Rattle.circuit_core.specs.Sound.{exponent_at}
use Rattle.circuit_eval.specs.Tables.{AreTables}
use Rattle.gkr_layers.specs.Honest.{AreHonestRounds, AreHonest}
use Rattle.gkr_layers.specs.Layers.{layers_of, lower_exponents, message_count}
use Rattle.gkr_layers.specs.Places.{Place, IsOver}
use Rattle.sumcheck_prove.specs.Lines.{LineJobsView}
use Rattle.gkr_layers.specs.Sumcheck.{line_polynomial}

-- a message q was taken in, and is noted with the challenge r that it led to
pub record IsNoted (source : Source) (q : List K) (r : K) (before after : List ℕ)
    (qs : List Round) (rs : List K) (qs' : List Round) (rs' : List K) : Type 0 where
  pub messages : round_messages qs' ≡ round_messages qs ++ q ∷ []
  pub drawn : rs' ≡ rs ++ r ∷ []
  pub challenge : r ≡ source.draw (source.absorb before q)
  pub state : after ≡ source.after (source.absorb before q)

-- qs are the honest messages of the first n rounds, and rs the challenges after them, from a state of the source to another
pub record AreBegun (source : Source) (sum : LayerSum) (before : List ℕ) (n : ℕ)
    (qs : List Round) (rs : List K) (after : List ℕ) : Type 0 where
  pub honest : AreHonestRounds sum.k sum.gates sum.values sum.place n (round_messages qs) rs
  pub count : length qs ≡ n
  pub challenges : length rs ≡ n
  pub drawn : rs ≡ draws source before (round_messages qs)
  pub state : after ≡ state_after source before (round_messages qs)

-- the line over 2 ^ k values has as many parts, and is over these values
abbrev pub IsLineFor : LineJobsView → ℕ → List K → Type 0
IsLineFor l k values =
    (part_coordinates ≤ k) × (l.number ≡ parts_of k) × (l.values ≡ values)

-- what is known of the line of a layer over these values, after these challenges of its rounds, are its coefficients
abbrev pub IsLineAhead : ℕ → List K → List K → Option (Vec K) → Type 0
IsLineAhead k values drawn line = IfSome line (λ last. last.items ≡ coefficients k_ops (k + 1)
    (line_polynomial k_ops values (take k drawn) (drop k drawn)))

-- these are values of the layers of a circuit, the claim is at a place of the outputs, and there are challenges for all layers
pub record CanProve (source : Source) (p : Parts) (values : List (List K)) (place : Place K)
    (state : List ℕ) : Type 0 where
  pub values_are : (inputs : List F) × AreTables p inputs values
  pub position : IsOver (exponent_at p 0) place
  pub has : IsTrue (source.has state (message_count (layers_of p)))

-- ms are the honest messages of all layers, from a state of the source to another
pub record AreProved (source : Source) (form : ProofForm) (p : Parts) (values : List (List K))
    (place : Place K) (before : List ℕ) (ms : List LayerMessages) (after : List ℕ) : Type 0 where
  pub honest : (inputs : List F) → AreTables p inputs values → AreHonest form (layers_of p)
      (input_table p inputs) place (all_messages ms) (draws source before (all_messages ms))
  pub state : after ≡ state_after source before (all_messages ms)
  pub shape : HaveShape form (lower_exponents (layers_of p)) ms
