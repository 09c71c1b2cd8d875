use Rattle.std.proofs.Common.{◌≡◌, ◌*◌, length, take}
use Rattle.std.specs.List.{flat_map}
use Rattle.proof_wire.specs.Spelling.{coefficients_of}
use Rattle.proof_wire.proofs.cutting.cut_rounds.Given as goal

abbrev pub invariant-loop-i : goal.invariant-loop-i
invariant-loop-i l = (length l.rounds.items ≡ l.i) × (flat_map coefficients_of l.rounds.items ≡ take (3 * l.i) l.elements)
