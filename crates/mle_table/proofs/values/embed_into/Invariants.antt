-- The elements passed are written
use Rattle.std.proofs.Common.{◌≡◌, ◌<◌, ℕ, get_or}
use Rattle.field_ext.specs.Field.{embed_k, zero_k, of}
use Rattle.mle_table.proofs.values.embed_into.Given as goal

abbrev pub invariant-loop-i : goal.invariant-loop-i
invariant-loop-i l = (k : ℕ) → k < l.i → get_or l.items k zero_k ≡ embed_k (get_or l.values k (of 0))
