-- What is left without middle coefficients has the shape of a proof of version 2.
use Rattle.std.proofs.Common.{ℕ, List, [], ◌∷◌, ◌∙◌, map}
use Rattle.std.proofs.lemmas.List.{length-map}
use Rattle.proof_wire.specs.declared.messages.LayerMessages.{LayerMessages}
use Rattle.proof_wire.specs.declared.form.ProofForm.TheVariants.{Line}
use Rattle.proof_wire.specs.Lists.{HaveShape}
use Rattle.proof_two.specs.Lists.{HavePairs, short_layer, short_round}

pub short_shape : (ks : List ℕ) (layers : List LayerMessages) → HaveShape Line ks layers → HavePairs ks (map short_layer layers)
short_shape [] [] h = tt
short_shape [] (m ∷ ms) h = absurd h
short_shape (k ∷ ks) [] h = absurd h
short_shape (k ∷ ks) (m ∷ ms) h = (record { rounds = length-map m.rounds short_round ∙ h.0.rounds; last = h.0.last }, short_shape ks ms h.1)
