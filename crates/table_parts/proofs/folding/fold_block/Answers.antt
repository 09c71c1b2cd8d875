-- The block's folds are after the first places
use Rattle.field_ext.specs.Field.{k_ops}
use Rattle.table_parts.proofs.Folds.{block_written}
use Rattle.table_parts.proofs.folding.fold_block.Goals as goal

pub returns-clause-within : goal.returns-clause-within
returns-clause-within g c = block_written k_ops c.args.values.now c.fold_into.new.block c.write_block.new.values c.args.r c.args.from c.args.count c.fold_into.ensures.folds c.write_block.ensures.within
