-- The parts passed have their values
use Rattle.std.proofs.Common.{◌≡◌, ◌*◌, take, map, All}
use Rattle.field_ext.specs.Field.{embed_k}
use Rattle.table_parts.specs.PartTables.{HasCapacity, HasSize, flat_table, flat_scales, flat_shifts}
use Rattle.table_parts.proofs.parts.fill_parts.Given as goal

abbrev pub invariant-loop-i : goal.invariant-loop-i
invariant-loop-i l = record {
  capacities : All (HasCapacity l.size) l.parts;
  sizes : All (HasSize l.size) (take l.i l.parts);
  table : flat_table (take l.i l.parts) ≡ take (l.i * l.size) (map embed_k l.table);
  scales : flat_scales (take l.i l.parts) ≡ take (l.i * l.size) l.scales;
  shifts : flat_shifts (take l.i l.parts) ≡ take (l.i * l.size) l.shifts;
}
