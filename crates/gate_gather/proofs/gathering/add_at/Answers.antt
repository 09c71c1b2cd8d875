-- One value of the table is changed
use Rattle.field_ext.specs.Field.{k_ops}
use Rattle.field_ext.proofs.api.KLaws.{k_laws}
use Rattle.gate_gather.proofs.Sent.{added_at}
use Rattle.gate_gather.proofs.gathering.add_at.Goals as goal

pub returns : goal.returns
returns c y = added_at k_ops k_laws c.args.table.now c.args.place c.index-table-place.result c.add.result c.args.x c.requires c.index-table-place.is c.add.ensures y
