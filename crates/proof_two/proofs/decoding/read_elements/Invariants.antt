use Rattle.std.proofs.Common.{◌≡◌, length}
use Rattle.proof_two.specs.Trouble.{BeginWithTwo}
use Rattle.proof_two.proofs.decoding.read_elements.Given as goal

abbrev pub invariant-loop-i : goal.invariant-loop-i
invariant-loop-i l = (length l.read.items ≡ l.i) × BeginWithTwo l.read.items l.bytes
