use Rattle.std.proofs.Common.{◌≡◌, ◌≤◌, length, take}
use Rattle.proof_wire.specs.Forms.{magic}
use Rattle.proof_wire.proofs.decoding.foreign_byte.Given as goal

abbrev pub invariant-loop-at : goal.invariant-loop-at
invariant-loop-at l = (l.at ≤ length l.bytes) × (take l.at l.bytes ≡ take l.at (magic l.fn.form))
