use Rattle.std.proofs.Common.{sym, arith}
use Rattle.case_text.proofs.HexReading.{all_there, fails, too_few}
use Rattle.case_text.proofs.case.reading.hex_bytes.Goals as goal

pub returns-then-bytes-needed : goal.returns-then-bytes-needed
returns-then-bytes-needed c = rw c.digits_stop.ensures (too_few c.args.count c.args.bytes.now (omega (arith, c.if-bytes-needed.true)))

pub returns-in-Ok : goal.returns-in-Ok
returns-in-Ok c =
    let there = all_there c.args.count c.args.bytes.now (omega (arith, c.if-bytes-needed.false)) in
    rw (sym c.split_at.ensures.front, c.in-Ok.ensures.ok, sym c.split_at.ensures.back) at there

pub returns-in-Err : goal.returns-in-Err
returns-in-Err c =
    rw c.hex_stop.ensures
    (fails c.in-Err.refused c.args.count c.args.bytes.now (omega (arith, c.if-bytes-needed.false)) (rw (c.split_at.ensures.front) at c.in-Err.ensures.err))
