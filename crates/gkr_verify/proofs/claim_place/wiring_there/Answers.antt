use Rattle.std.proofs.Common.{rules}
use Rattle.gkr_verify.proofs.claim_place.wiring_there.Goals as goal

pub at-add-requires-clause-layer : goal.at-add-requires-clause-layer
at-add-requires-clause-layer g = search rules

pub at-add-requires-clause-of : goal.at-add-requires-clause-of
at-add-requires-clause-of g = search rules

pub wiring_at_both-requires-clause-layer : goal.wiring_at_both-requires-clause-layer
wiring_at_both-requires-clause-layer g = search rules

pub wiring_at_both-requires-clause-wiring : goal.wiring_at_both-requires-clause-wiring
wiring_at_both-requires-clause-wiring g = search rules
