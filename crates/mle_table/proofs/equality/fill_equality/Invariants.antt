-- The table holds the equality polynomial at the coordinates taken
use Rattle.std.proofs.Common.{◌≡◌, ◌^◌, ◌≤◌, ℕ, take, get_or}
use Rattle.field_ext.specs.Field.{k_ops, zero_k}
use Rattle.mle_table.specs.Equality.{IsEqTable}
use Rattle.mle_table.proofs.equality.fill_equality.Given as goal

abbrev pub invariant-loop-u : goal.invariant-loop-u
invariant-loop-u l = record {
  doubled : l.size ≡ 2 ^ l.u-index;
  filled : IsEqTable k_ops (take l.u-index l.point) l.table;
  rest : (g : ℕ) → l.size ≤ g → get_or l.table g zero_k ≡ get_or l.fn.table g zero_k;
}
