-- How a check keeps the place of a claim from layer to layer
use Rattle.std.specs.Prelude.{ℕ, List, take, drop}
use Rattle.field_ext.specs.Field.{K}
use Rattle.proof_wire.specs.declared.form.ProofForm.{ProofForm}
use Rattle.proof_wire.specs.declared.form.ProofForm.TheVariants.{Line, Pair}
use Rattle.gkr_layers.specs.Places.{Place}
use Rattle.gkr_layers.specs.Places.Place.{At, AtBoth}

-- the place on a layer of k coordinates: those of its point come first, or those of its two points
abbrev pub kept_place : ProofForm → ℕ → K → List K → Place K
kept_place Line k weight kept = At (take k kept)
kept_place Pair k weight kept = AtBoth (take k kept) (take k (drop k kept)) weight
