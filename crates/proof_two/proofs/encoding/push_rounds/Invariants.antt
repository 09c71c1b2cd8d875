use Rattle.std.proofs.Common.{◌≡◌, ◌++◌, take}
use Rattle.std.specs.List.{flat_map}
use Rattle.field_ext.specs.Bytes.{bytes_of}
use Rattle.proof_two.specs.Spelling.{pair_of}
use Rattle.proof_two.proofs.encoding.push_rounds.Given as goal

abbrev pub invariant-loop-round : goal.invariant-loop-round
invariant-loop-round l = l.bytes.items ≡ l.fn.bytes.items ++ flat_map bytes_of (flat_map pair_of (take l.round-index l.rounds))
