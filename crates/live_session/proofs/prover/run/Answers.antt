-- All challenges are gone through
use Rattle.std.proofs.Common.{List, subst, arith}
use Rattle.std.proofs.lemmas.List.{take_all}
use Rattle.field_ext.specs.Field.{K}
use Rattle.live_session.specs.ProverState.{IsAt}
use Rattle.live_session.proofs.prover.run.Goals as goal

pub returns : goal.returns
returns g c inputs tables =
    subst (λ (ws : List K). IsAt c.args.circuit.now.parts inputs ws c.loop-u.course) (take_all c.loop-u.u c.args.words.now (omega (arith, c.loop-u-test.false))) (c.loop-u.invariant inputs tables)
