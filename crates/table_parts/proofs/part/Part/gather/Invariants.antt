-- The values so far are those of the parts passed
use Rattle.std.proofs.Common.{◌≡◌, length, take}
use Rattle.table_parts.specs.PartTables.{flat_table, flat_scales, flat_shifts}
use Rattle.table_parts.proofs.part.Part.gather.Given as goal

abbrev pub invariant-loop-part : goal.invariant-loop-part
invariant-loop-part l = record {
  capacity : l.self.capacity ≡ l.fn.self.capacity;
  table : l.self.table ≡ flat_table (take l.part-index l.parts);
  scales : l.self.scales ≡ flat_scales (take l.part-index l.parts);
  shifts : l.self.shifts ≡ flat_shifts (take l.part-index l.parts);
  table_size : length l.self.table ≡ l.part-index;
  scales_size : length l.self.scales ≡ l.part-index;
  shifts_size : length l.self.shifts ≡ l.part-index;
}
