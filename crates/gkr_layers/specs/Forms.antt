-- How one claim on the layer below comes from the claim on a layer: by a line through the two operands' points, or by a pair of values there
use Rattle.std.specs.Prelude.{List, [], ◌∷◌, slice_index_or}
use Rattle.field_ext.specs.Ring.{Ops}
use Rattle.field_ext.specs.Polynomial.{value_at}
use Rattle.field_ext.specs.Multilinear.{extension_at}
use Rattle.proof_wire.specs.declared.form.ProofForm.{ProofForm}
use Rattle.proof_wire.specs.declared.form.ProofForm.TheVariants.{Line, Pair}
use Rattle.gkr_layers.specs.Sumcheck.{point_between, line_polynomial}
use Rattle.gkr_layers.specs.Places.{Place}
use Rattle.gkr_layers.specs.Places.Place.{At, AtBoth}

module _ {A : Type 0} (o : Ops A) where
  -- what the last message says to be the extension at the left operand's point
  abbrev pub said_left : ProofForm → List A → A
  said_left Line q = value_at o q o.zero
  said_left Pair q = slice_index_or q 0 o.zero

  -- and at the right operand's
  abbrev pub said_right : ProofForm → List A → A
  said_right Line q = value_at o q o.one
  said_right Pair q = slice_index_or q 1 o.zero

  -- The true last message, over the values of the layer below. The pair u, w is the polynomial u + w X: its value at the challenge is
  -- the next claim.
  abbrev pub last_polynomial : ProofForm → List A → List A → List A → List A
  last_polynomial Line values b c = line_polynomial o values b c
  last_polynomial Pair values b c =
      extension_at o o (λ x. x) values b ∷ extension_at o o (λ x. x) values c ∷ []

  -- where the next claim is
  abbrev pub place_between : ProofForm → List A → List A → A → Place A
  place_between Line b c e = At (point_between o b c e)
  place_between Pair b c e = AtBoth b c e
