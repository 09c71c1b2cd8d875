-- The sums so far are those of the pieces passed
use Rattle.std.proofs.Common.{◌≡◌, length}
use Rattle.field_ext.specs.Field.{K, k_ops}
use Rattle.field_ext.specs.Polynomial.{value_at}
use Rattle.field_ext.specs.Sums.{sum_below}
use Rattle.round_tables.specs.LayerSum.{piece_poly}
use Rattle.sumcheck_prove.proofs.message.round_in.Given as goal

abbrev pub invariant-loop-piece : goal.invariant-loop-piece
invariant-loop-piece g l = record {
  three : length l.total ≡ 3;
  value : (e : K) → value_at k_ops l.total e ≡ sum_below k_ops l.piece (λ piece. value_at k_ops (piece_poly l.tables piece) e);
}
