-- The pieces of a round may be shared among threads
use denote.Ref.{NamedLft}
use denote.Hole.{as_row}
use denote.Struct.Field.{u32-field, usize-field, bool-field, shr_slice_field, shr_ref_field}
use denote.Param.Send.{IsSync, sendable, view_sync, fixed_sync}
use denote.Param.SendFields.{as_row_sync, declared_sync}
use Rattle.std.proofs.Crossing.{crosses, Vec-sync}
use Rattle.std.specs.contracts.alloc.Global as heap
use Rattle.std.specs.contracts.impls.GlobalAllocator.TheImpl as heap_impl
use Rattle.std.specs.contracts.vec.Vec as vec
use Rattle.std.specs.contracts.option.Option as option
use Rattle.std.specs.contracts.snapshot.Snapshot as snapshot
use Rattle.table_parts.specs.contracts.column.Column as column
use Rattle.table_parts.specs.contracts.column.Column.TheInside as inside_column
use Rattle.round_tables.specs.contracts.kept_point.KeptPoint as kept_point
use Rattle.table_parts.specs.contracts.part.Part as part
use Rattle.table_parts.specs.contracts.part.Part.TheInside as inside_part
use Rattle.round_tables.specs.contracts.working.Working as working
use Rattle.round_tables.specs.contracts.gate_tables.GateTables as tables
use Rattle.round_tables.specs.contracts.gate_tables.GateTables.TheInside as inside_tables
use Rattle.round_tables.specs.contracts.layer_gates.LayerGates as layer
use Rattle.sumcheck_prove.specs.contracts.pieces.PieceSums as sums
use Rattle.circuit_core.specs.contracts.gate.CircuitGate as gate
use Rattle.mle_table.specs.contracts.base_table.BaseTable as table
use Rattle.mle_table.specs.contracts.base_table.BaseTable.TheInside as inside_table
use Rattle.field_ext.specs.contracts.fp.Fp as fp
use Rattle.field_ext.specs.contracts.fp.Fp.TheInside as inside_fp
use Rattle.field_ext.specs.contracts.ext.Ext as ext
use Rattle.field_ext.specs.contracts.ext.Ext.TheInside as inside_ext

word_sync : IsSync (as_row u32-field)
word_sync = search (sendable, as_row_sync) depth 6

size_sync : IsSync (as_row usize-field)
size_sync = search (sendable, as_row_sync) depth 6

flag_sync : IsSync (as_row bool-field)
flag_sync = search (sendable, as_row_sync) depth 6

heap_sync : IsSync (as_row heap.the_field)
heap_sync = as_row_sync heap.the_field (search (crosses, sendable) depth 6)

fp_inside_sync : IsSync inside_fp.the_row
fp_inside_sync = declared_sync inside_fp.the_type (word_sync, tt)

fp_sync : IsSync fp.the_row
fp_sync = search (fixed_sync, fp_inside_sync)

ext_inside_sync : IsSync inside_ext.the_row
ext_inside_sync = declared_sync inside_ext.the_type (as_row_sync fp.the_field fp_sync, (as_row_sync fp.the_field fp_sync, tt))

ext_sync : IsSync ext.the_row
ext_sync = search (fixed_sync, ext_inside_sync)

gate_sync : IsSync gate.the_row
gate_sync = search (crosses, sendable) depth 14

values_sync : IsSync (as_row (vec.the_field ext.the_row heap.the_row heap_impl.ghosts))
values_sync = as_row_sync (vec.the_field ext.the_row heap.the_row heap_impl.ghosts) (Vec-sync ext.the_row ext_sync)

numbers_sync : IsSync (as_row (vec.the_field fp.the_row heap.the_row heap_impl.ghosts))
numbers_sync = as_row_sync (vec.the_field fp.the_row heap.the_row heap_impl.ghosts) (Vec-sync fp.the_row fp_sync)

table_inside_sync : IsSync inside_table.the_row
table_inside_sync = declared_sync inside_table.the_type (word_sync, (numbers_sync, tt))

table_sync : IsSync table.the_row
table_sync = search (view_sync, table_inside_sync)

column_inside_sync : IsSync inside_column.the_row
column_inside_sync = declared_sync inside_column.the_type (values_sync, (flag_sync, (size_sync, (size_sync, tt))))

column_sync : IsSync (as_row column.the_field)
column_sync = as_row_sync column.the_field (search (view_sync, column_inside_sync))

part_inside_sync : IsSync inside_part.the_row
part_inside_sync = declared_sync inside_part.the_type (values_sync, (column_sync, (column_sync, (size_sync, (flag_sync, tt)))))

part_sync : IsSync part.the_row
part_sync = search (view_sync, part_inside_sync)

parts_sync : IsSync (as_row (vec.the_field part.the_row heap.the_row heap_impl.ghosts))
parts_sync = as_row_sync (vec.the_field part.the_row heap.the_row heap_impl.ghosts) (Vec-sync part.the_row part_sync)

working_sync : IsSync working.the_row
working_sync = declared_sync working.the_type (heap_sync, (values_sync, (size_sync, (values_sync, (values_sync, (parts_sync, (parts_sync, (flag_sync, (parts_sync, tt)))))))))

gates_sync : (κ : NamedLft) → IsSync (as_row (shr_slice_field κ gate.the_row tt))
gates_sync κ = as_row_sync (shr_slice_field κ gate.the_row tt) (search (sendable, gate_sync) depth 6)

lent_table_sync : (κ : NamedLft) → IsSync (as_row (shr_ref_field κ table.the_row tt))
lent_table_sync κ = as_row_sync (shr_ref_field κ table.the_row tt) (search (sendable, table_sync) depth 6)

kept_point_sync : IsSync kept_point.the_row
kept_point_sync = declared_sync kept_point.the_type (values_sync, (values_sync, (values_sync, tt)))

layer_sync : (κ : NamedLft) → IsSync (layer.the_row κ)
layer_sync κ = declared_sync (layer.the_type κ) (size_sync, (gates_sync κ, (lent_table_sync κ, (kept_point_sync, (kept_point_sync, (as_row_sync ext.the_field ext_sync, (flag_sync, tt)))))))

lent_sync : IsSync (as_row (option.the_field (snapshot.the_row working.the_row)))
lent_sync = as_row_sync (option.the_field (snapshot.the_row working.the_row)) (search (crosses, sendable) depth 8)

tables_inside_sync : (κ : NamedLft) → IsSync (inside_tables.the_row κ)
tables_inside_sync κ = declared_sync (inside_tables.the_type κ) (layer_sync κ, (working_sync, (lent_sync, tt)))

tables_sync : (κ : NamedLft) → IsSync (tables.the_row κ)
tables_sync κ = search (view_sync, tables_inside_sync)

pub sums_sync : (κ κ' : NamedLft) → IsSync (sums.the_row κ κ')
sums_sync κ κ' = declared_sync (sums.the_type κ κ') (as_row_sync (shr_ref_field κ (tables.the_row κ') tt) (search (sendable, tables_sync) depth 6), tt)
