-- The rounds before hold the first elements
use Rattle.std.proofs.Common.{◌≡◌, ◌*◌, take}
use Rattle.std.specs.List.{flat_map}
use Rattle.proof_wire.specs.Spelling.{coefficients_of}
use Rattle.live_session.proofs.layout.fill_rounds.Given as goal

abbrev pub invariant-loop-i : goal.invariant-loop-i
invariant-loop-i l = flat_map coefficients_of (take l.i l.rounds) ≡ take (3 * l.i) l.elements
