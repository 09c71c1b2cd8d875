use Rattle.std.proofs.Common.{◌≡◌, ◌≤◌, length, take}
use Rattle.proof_two.specs.Spelling.{magic_two}
use Rattle.proof_two.proofs.decoding.foreign_byte.Given as goal

abbrev pub invariant-loop-at : goal.invariant-loop-at
invariant-loop-at l = (l.at ≤ length l.bytes) × (take l.at l.bytes ≡ take l.at magic_two)
