-- The place at which prover and verifier keep a claim
use Rattle.field_ext.specs.Field.{K}
use Rattle.gkr_layers.specs.declared.claim_place.ClaimPlace.{ClaimPlace}
use Rattle.gkr_layers.specs.declared.claim_place.ClaimPlace.TheVariants.{One, Both}
use Rattle.gkr_layers.specs.Places.{Place}
use Rattle.gkr_layers.specs.Places.Place.{At, AtBoth}

abbrev pub place_of : ClaimPlace → Place K
place_of (One point) = At point.now
place_of (Both first second weight) = AtBoth first.now second.now weight
