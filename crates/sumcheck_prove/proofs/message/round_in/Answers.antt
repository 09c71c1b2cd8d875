-- One piece more, and the coefficients from the values
use Rattle.std.proofs.Common.{◌≡◌, arith}
use Rattle.field_ext.specs.Field.{k_ops}
use Rattle.field_ext.specs.Polynomial.{value_at}
use Rattle.round_tables.specs.LayerSum.{pieces_of, piece_poly}
use Rattle.sumcheck_prove.proofs.Summing.{one_more, three_each, piece_value, whole_round}
use Rattle.sumcheck_prove.proofs.message.round_in.Goals as goal

pub plus-total-requires-clause-message : goal.plus-total-requires-clause-message
plus-total-requires-clause-message g c = three_each c.args.tables.now c.loop-piece.piece c.piece_message.result c.piece_message.ensures

pub loop-piece-preserved : goal.loop-piece-preserved
loop-piece-preserved g c = record {
  three = c.plus-total.ensures.three;
  value = λ e.
      one_more (λ piece. value_at k_ops (piece_poly c.args.tables.now piece) e) c.loop-piece.piece _ _ _ (c.plus-total.ensures.value e) (c.loop-piece.invariant.value e)
      (piece_value c.args.tables.now c.loop-piece.piece c.piece_message.result e c.piece_message.ensures);
}

pub returns : goal.returns
returns g c =
    let all : c.loop-piece.piece ≡ pieces_of c.args.tables.now = omega arith in
    whole_round c.args.tables.now c.loop-piece.piece c.loop-piece.total c.requires.left all c.loop-piece.invariant.three c.loop-piece.invariant.value
