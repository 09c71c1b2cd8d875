-- The prover has taken so many more of the first bytes.
use Rattle.std.proofs.Common.{◌∙◌, ap, take}
use Rattle.session_prove.proofs.Steps.{prover_next}
use Rattle.session_prove.proofs.exchange.feed_prover.Goals as goal

pub returns-in-Ok : goal.returns-in-Ok
returns-in-Ok g c =
    prover_next c.args.prover c.in-Ok.prover c.args.sent.now _ c.args.taken c.args.count c.requires.taken
    (c.split_at-2.ensures.front ∙ ap (take c.args.count) c.split_at.ensures.back) c.in-Ok.ensures.goes
