use Rattle.std.proofs.Common.{◌≡◌, ◌*◌, length, take}
use Rattle.std.specs.List.{flat_map}
use Rattle.proof_two.specs.Spelling.{pair_of}
use Rattle.proof_two.proofs.cutting.cut_rounds.Given as goal

abbrev pub invariant-loop-i : goal.invariant-loop-i
invariant-loop-i l = (length l.rounds.items ≡ l.i) × (flat_map pair_of l.rounds.items ≡ take (2 * l.i) l.elements)
