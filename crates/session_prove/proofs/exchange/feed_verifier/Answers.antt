-- The verifier has taken so many more of the first bytes.
use Rattle.std.proofs.Common.{◌∙◌, ap, take}
use Rattle.session_prove.proofs.Steps.{verifier_next}
use Rattle.session_prove.proofs.exchange.feed_verifier.Goals as goal

pub returns : goal.returns
returns c =
    verifier_next c.args.verifier.now c.feed-progress.new.self c.args.sent.now _ c.args.taken c.args.count c.requires.few c.requires.taken
    (c.split_at-2.ensures.front ∙ ap (take c.args.count) c.split_at.ensures.back) c.feed-progress.ensures.state
