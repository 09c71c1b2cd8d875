-- Values that are all 0 are so many zeros
use Rattle.std.proofs.Common.{sym}
use Rattle.table_parts.proofs.Columns.{all-zeros}
use Rattle.table_parts.proofs.column.Column.write.Goals as goal

pub returns-then-is_zero : goal.returns-then-is_zero
returns-then-is_zero c = λ i. record {
  items = sym (all-zeros c.args.values.now (c.is_zero.ensures.0 c.if-is_zero.true)) i;
  capacity = (c.self.view_is i).capacity;
}
