use Rattle.std.proofs.Common.{◌≡◌, ◌*◌, map}
use Rattle.field_ext.specs.Field.{k_ops, embed_k}
use Rattle.line_reduce.specs.Rows.{weighted_sum}
use Rattle.line_reduce.proofs.blocks.weighted.Given as goal

abbrev pub invariant-loop-i : goal.invariant-loop-i
invariant-loop-i l = l.sum ≡ weighted_sum k_ops (map embed_k l.values) l.at l.weights l.column l.n (4 * l.i)
