-- The places passed hold the block, and no other is changed
use Rattle.std.proofs.Common.{◌≡◌, ℕ, ◌+◌, ◌<◌, ◌≤◌, get_or}
use Rattle.field_ext.specs.Field.{zero_k}
use Rattle.table_parts.proofs.folding.write_block.Given as goal

abbrev pub invariant-loop-i : goal.invariant-loop-i
invariant-loop-i l = record {
  before : (i : ℕ) → i < l.from → get_or l.values i zero_k ≡ get_or l.fn.values i zero_k;
  within : (i : ℕ) → i < l.i → get_or l.values (l.from + i) zero_k ≡ get_or l.block i zero_k;
  after : (i : ℕ) → l.from + l.i ≤ i → get_or l.values i zero_k ≡ get_or l.fn.values i zero_k;
}
