use Rattle.field_ext.specs.Bytes.{bytes_of}
use Rattle.proof_wire.proofs.api.Pieces.{one_more_within}
use Rattle.proof_two.specs.Spelling.{pair_of}
use Rattle.proof_two.proofs.encoding.push_rounds.Goals as goal

pub loop-round-preserved : goal.loop-round-preserved
loop-round-preserved c = cc (c.in_ok-push_elements.ensures, c.coefficients.ensures, c.loop-round.invariant, c.round-item.is, one_more_within bytes_of pair_of c.args.bytes.now.items c.args.rounds.now c.loop-round.round-index c.round-item.result c.loop-round-test.true)
