use Rattle.std.proofs.Common.{◌^◌, ◌≤◌, arith, sym}
use Rattle.batch_core.proofs.api.CopyExponent.{exponent_is}
use Rattle.batch_core.proofs.copies.copy_exponent.Goals as goal

pub returns-then-count-exponent-clause-value : goal.returns-then-count-exponent-clause-value
returns-then-count-exponent-clause-value c =
    let enough : c.args.count ≤ 2 ^ c.loop-exponent.exponent = omega (arith, c.if-count-exponent.true) in
    sym (exponent_is c.args.count c.loop-exponent.exponent enough c.loop-exponent.invariant)

pub returns-clause-value : goal.returns-clause-value
returns-clause-value c = sym (exponent_is c.args.count 16 c.requires (λ i u. c.loop-exponent.invariant i (omega (arith, u, c.loop-exponent-test.false))))
