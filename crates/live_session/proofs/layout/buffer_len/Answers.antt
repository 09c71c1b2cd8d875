-- Three elements a round, and those of the line
use Rattle.std.proofs.Common.{arith, ap, length, length-append}
use Rattle.std.specs.List.{flat_map}
use Rattle.proof_wire.specs.Spelling.{coefficients_of}
use Rattle.proof_wire.proofs.api.Lengths.{rounds_length}
use Rattle.live_session.proofs.layout.buffer_len.Goals as goal

pub returns : goal.returns
returns c =
    let m = c.args.layer.now in
    omega (arith, length-append (flat_map coefficients_of m.rounds) m.last, rounds_length m.rounds, ap length c.as_slice.ensures, ap length c.as_slice-2.ensures)
