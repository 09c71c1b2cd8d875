-- There are as many elements as the layer's messages have
use Rattle.std.proofs.Common.{arith, ap, length, length-append}
use Rattle.std.specs.List.{flat_map}
use Rattle.proof_wire.specs.Spelling.{coefficients_of}
use Rattle.proof_wire.proofs.api.Lengths.{rounds_length}
use Rattle.live_session.proofs.layout.filled.Goals as goal

pub split_at-requires : goal.split_at-requires
split_at-requires c =
    let m = c.args.buffer in
    omega (arith, c.requires, length-append (flat_map coefficients_of m.rounds) m.last, rounds_length m.rounds, ap length c.into_vec-rounds.ensures, c.into_vec-rounds.result.ok.0, c.len.ensures)

pub copy_from_slice-requires : goal.copy_from_slice-requires
copy_from_slice-requires c =
    let m = c.args.buffer in
    omega (arith, c.requires, length-append (flat_map coefficients_of m.rounds) m.last, rounds_length m.rounds, ap length c.into_vec-rounds.ensures, c.into_vec-rounds.result.ok.0, c.len.ensures, ap length c.into_vec-last.ensures, c.into_vec-last.result.ok.0, c.split_at.ensures.back_len)
