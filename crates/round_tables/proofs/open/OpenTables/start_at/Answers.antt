use Rattle.std.proofs.Common.{arith, length, subst}
use Rattle.gkr_layers.specs.Places as places
use Rattle.gkr_layers.specs.ClaimPlace as claim_place
use Rattle.round_tables.proofs.Narrow.{few_coordinates}
use Rattle.round_tables.proofs.open.OpenTables.start_at.Goals as goal

pub start_two_in-requires-clause-few : goal.start_two_in-requires-clause-few
start_two_in-requires-clause-few c =
    let layer = c.requires.layer in
    let over = subst (λ place. places.IsOver layer.exponent (claim_place.place_of place)) c.in-Both.is layer.coordinates in
    omega (arith, few_coordinates layer.exponent (length c.args.gates.now) layer.width c.requires.few, over.1)
