use Rattle.std.proofs.Common.{◌++◌, ℕ, List, take, length}
use Rattle.std.specs.List.{flat_map}
use Rattle.sha2.specs.Hashers.{Holds256}
use Rattle.transcript_fs.specs.Transcript.{number_bytes, counted_bytes}
use Rattle.transcript_fs.proofs.feeding.feed_numbers.Given as goal

abbrev pub invariant-loop-number : goal.invariant-loop-number
invariant-loop-number l = (m : List ℕ) → Holds256 l.fn.hasher m → Holds256 l.hasher (m ++ counted_bytes (length l.numbers) (flat_map number_bytes (take l.number-index l.numbers)))
