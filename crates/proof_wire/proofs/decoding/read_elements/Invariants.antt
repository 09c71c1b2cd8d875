use Rattle.std.proofs.Common.{◌≡◌, length}
use Rattle.proof_wire.specs.Trouble.{BeginWith}
use Rattle.proof_wire.proofs.decoding.read_elements.Given as goal

abbrev pub invariant-loop-i : goal.invariant-loop-i
invariant-loop-i l = (length l.elements.items ≡ l.i) × BeginWith l.fn.form l.elements.items l.bytes
