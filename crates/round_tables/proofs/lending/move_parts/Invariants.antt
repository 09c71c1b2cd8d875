-- So many parts are moved, each with its capacity
use Rattle.std.proofs.Common.{◌≡◌, ℕ, ◌+◌, ◌≤◌, All, vec_len, vec_capacity}
use Rattle.table_parts.specs.PartTables.{HasCapacity}
use Rattle.round_tables.proofs.lending.move_parts.Given as goal

abbrev pub invariant-loop : goal.invariant-loop
invariant-loop l = record {
  left : vec_len l.from + l.counter ≡ vec_len l.fn.from;
  from_capacity : vec_capacity l.from ≡ vec_capacity l.fn.from;
  moved : vec_len l.to ≡ vec_len l.fn.to + l.counter;
  capacity : vec_capacity l.fn.to ≤ vec_capacity l.to;
  capacities : (n : ℕ) → All (HasCapacity n) l.fn.from.items → All (HasCapacity n) l.fn.to.items → All (HasCapacity n) l.from.items × All (HasCapacity n) l.to.items;
}
