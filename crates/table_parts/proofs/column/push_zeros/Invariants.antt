-- So many zeros are there
use Rattle.std.proofs.Common.{◌≡◌, ◌≤◌, ◌+◌, ◌++◌, vec_len, vec_capacity}
use Rattle.table_parts.specs.Columns.{zeros}
use Rattle.table_parts.proofs.column.push_zeros.Given as goal

abbrev pub invariant-loop : goal.invariant-loop
invariant-loop l = record {
  items : l.values.items ≡ l.fn.values.items ++ zeros l.counter;
  len : vec_len l.values ≡ vec_len l.fn.values + l.counter;
  capacity : vec_capacity l.fn.values ≤ vec_capacity l.values;
}
