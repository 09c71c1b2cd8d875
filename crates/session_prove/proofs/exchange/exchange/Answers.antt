-- Each end takes what the other has sent, and at the end both have all.
use Rattle.std.proofs.Common.{◌≡◌, ◌≤◌, ◌+◌, ◌-◌, ℕ, min, List, length, true, false, sym, ◌∙◌, ap, arith}
use Rattle.gkr_layers.specs.Layers.{challenges_of}
use Rattle.live_session.specs.Proving.{verdict_known}
use Rattle.session_prove.proofs.Ends.{ends}
use Rattle.session_prove.proofs.Standings.{all_over, come_begun, left_falls, prover_faultless, prover_took, prover_turn, replied, tells, verifier_few, verifier_took, verifier_turn, verifier_waits}
use Rattle.session_prove.proofs.exchange.exchange.Goals as goal

fits : (had most piece count : ℕ) → had ≤ most → count ≡ min piece (most - had) → had + count ≤ most
fits had most piece count u e = omega (arith, u, e)

pub loop-alloc-init : goal.loop-alloc-init
loop-alloc-init g c = come_begun c.args.circuit.now c.args.verifier c.args.prover c.requires.circuit c.requires.begun

pub feed_prover-requires-clause-taken : goal.feed_prover-requires-clause-taken
feed_prover-requires-clause-taken g c κs within = prover_took c.args.circuit.now c.args.verifier c.args.prover c.requires.circuit c.requires.begun c.loop-alloc.verifier c.loop-alloc.prover c.loop-alloc.to_prover c.loop-alloc.to_verifier c.loop-alloc.invariant c.sent-sent.result.now c.sent-sent.ensures

pub feed_prover-requires-clause-faultless : goal.feed_prover-requires-clause-faultless
feed_prover-requires-clause-faultless g c κs within = prover_faultless c.args.circuit.now c.args.verifier c.args.prover c.requires.circuit c.requires.begun c.loop-alloc.verifier c.loop-alloc.prover c.loop-alloc.to_prover c.loop-alloc.to_verifier c.loop-alloc.invariant c.sent-sent.result.now c.sent-sent.ensures

pub overflow_sub-sent-in-loop-alloc : goal.overflow_sub-sent-in-loop-alloc
overflow_sub-sent-in-loop-alloc g c =
    let turn = prover_turn c.args.circuit.now c.args.verifier c.args.prover c.requires.circuit c.requires.begun c.loop-alloc.verifier c.loop-alloc.prover c.in_ok-prover.prover c.loop-alloc.to_prover c.loop-alloc.to_verifier c.args.piece c.min-count.result c.sent-sent.result.now c.sent-sent-in-loop-alloc.result.now c.loop-alloc.invariant c.sent-sent.ensures c.min-count.ensures c.in_ok-prover.ensures c.sent-sent-in-loop-alloc.ensures in
    verifier_waits c.args.circuit.now c.args.verifier c.args.prover c.requires.circuit c.requires.begun c.loop-alloc.verifier c.in_ok-prover.prover (c.loop-alloc.to_prover + c.min-count.result) c.loop-alloc.to_verifier c.sent-sent-in-loop-alloc.result.now turn

pub feed_verifier-requires-clause-there : goal.feed_verifier-requires-clause-there
feed_verifier-requires-clause-there g c =
    let turn = prover_turn c.args.circuit.now c.args.verifier c.args.prover c.requires.circuit c.requires.begun c.loop-alloc.verifier c.loop-alloc.prover c.in_ok-prover.prover c.loop-alloc.to_prover c.loop-alloc.to_verifier c.args.piece c.min-count.result c.sent-sent.result.now c.sent-sent-in-loop-alloc.result.now c.loop-alloc.invariant c.sent-sent.ensures c.min-count.ensures c.in_ok-prover.ensures c.sent-sent-in-loop-alloc.ensures in
    let within : c.loop-alloc.to_verifier ≤ length c.sent-sent-in-loop-alloc.result.now = verifier_waits c.args.circuit.now c.args.verifier c.args.prover c.requires.circuit c.requires.begun c.loop-alloc.verifier c.in_ok-prover.prover (c.loop-alloc.to_prover + c.min-count.result) c.loop-alloc.to_verifier c.sent-sent-in-loop-alloc.result.now turn in
    let count : c.min-count-in-loop-alloc.result ≡ min c.args.piece (length c.sent-sent-in-loop-alloc.result.now - c.loop-alloc.to_verifier) = c.min-count-in-loop-alloc.ensures in
    fits _ _ c.args.piece _ within count

pub feed_verifier-requires-clause-taken : goal.feed_verifier-requires-clause-taken
feed_verifier-requires-clause-taken g c =
    let turn = prover_turn c.args.circuit.now c.args.verifier c.args.prover c.requires.circuit c.requires.begun c.loop-alloc.verifier c.loop-alloc.prover c.in_ok-prover.prover c.loop-alloc.to_prover c.loop-alloc.to_verifier c.args.piece c.min-count.result c.sent-sent.result.now c.sent-sent-in-loop-alloc.result.now c.loop-alloc.invariant c.sent-sent.ensures c.min-count.ensures c.in_ok-prover.ensures c.sent-sent-in-loop-alloc.ensures in
    verifier_took c.args.circuit.now c.args.verifier c.args.prover c.requires.circuit c.requires.begun c.loop-alloc.verifier c.in_ok-prover.prover (c.loop-alloc.to_prover + c.min-count.result) c.loop-alloc.to_verifier turn.0 c.sent-sent-in-loop-alloc.result.now turn.1

pub feed_verifier-requires-clause-few : goal.feed_verifier-requires-clause-few
feed_verifier-requires-clause-few g c =
    let turn = prover_turn c.args.circuit.now c.args.verifier c.args.prover c.requires.circuit c.requires.begun c.loop-alloc.verifier c.loop-alloc.prover c.in_ok-prover.prover c.loop-alloc.to_prover c.loop-alloc.to_verifier c.args.piece c.min-count.result c.sent-sent.result.now c.sent-sent-in-loop-alloc.result.now c.loop-alloc.invariant c.sent-sent.ensures c.min-count.ensures c.in_ok-prover.ensures c.sent-sent-in-loop-alloc.ensures in
    verifier_few c.args.circuit.now c.args.verifier c.args.prover c.requires.circuit c.requires.begun c.loop-alloc.verifier c.in_ok-prover.prover (c.loop-alloc.to_prover + c.min-count.result) c.loop-alloc.to_verifier turn.0 c.sent-sent-in-loop-alloc.result.now turn.1

pub loop-alloc-preserved : goal.loop-alloc-preserved
loop-alloc-preserved g c =
    let turn = prover_turn c.args.circuit.now c.args.verifier c.args.prover c.requires.circuit c.requires.begun c.loop-alloc.verifier c.loop-alloc.prover c.in_ok-prover.prover c.loop-alloc.to_prover c.loop-alloc.to_verifier c.args.piece c.min-count.result c.sent-sent.result.now c.sent-sent-in-loop-alloc.result.now c.loop-alloc.invariant c.sent-sent.ensures c.min-count.ensures c.in_ok-prover.ensures c.sent-sent-in-loop-alloc.ensures in
    verifier_turn c.args.circuit.now c.args.verifier c.args.prover c.requires.circuit c.requires.begun c.loop-alloc.verifier c.feed_verifier.new.verifier c.in_ok-prover.prover (c.loop-alloc.to_prover + c.min-count.result) c.loop-alloc.to_verifier c.args.piece c.min-count-in-loop-alloc.result c.sent-sent-in-loop-alloc.result.now turn c.min-count-in-loop-alloc.ensures c.feed_verifier.ensures

pub loop-alloc-smaller : goal.loop-alloc-smaller
loop-alloc-smaller g c =
    let turn = prover_turn c.args.circuit.now c.args.verifier c.args.prover c.requires.circuit c.requires.begun c.loop-alloc.verifier c.loop-alloc.prover c.in_ok-prover.prover c.loop-alloc.to_prover c.loop-alloc.to_verifier c.args.piece c.min-count.result c.sent-sent.result.now c.sent-sent-in-loop-alloc.result.now c.loop-alloc.invariant c.sent-sent.ensures c.min-count.ensures c.in_ok-prover.ensures c.sent-sent-in-loop-alloc.ensures in
    let waits = tells (verdict_known (challenges_of c.loop-alloc.prover.parts) c.loop-alloc.prover.bytes) c.verdict.result c.is_none.result true c.verdict.ensures c.is_none.ensures c.loop-alloc-test.true in
    let replies = c.sent-sent.ensures ∙ replied c.args.circuit.now c.args.verifier c.args.prover c.requires.circuit c.requires.begun c.loop-alloc.verifier c.loop-alloc.prover c.loop-alloc.to_prover c.loop-alloc.to_verifier c.loop-alloc.invariant in
    left_falls c.args.circuit.now c.args.verifier c.args.prover c.requires.circuit c.requires.begun c.loop-alloc.verifier c.loop-alloc.prover c.loop-alloc.to_prover c.loop-alloc.to_verifier c.loop-alloc.invariant c.args.piece c.min-count.result c.min-count-in-loop-alloc.result c.requires.piece waits
    (c.min-count.ensures ∙ ap (λ (xs : List ℕ). min c.args.piece (length xs - c.loop-alloc.to_prover)) replies)
    (c.min-count-in-loop-alloc.ensures ∙ ap (λ (xs : List ℕ). min c.args.piece (length xs - c.loop-alloc.to_verifier)) turn.1)

pub returns-clause-ended : goal.returns-clause-ended
returns-clause-ended g c = ends c.args.circuit.now c.args.verifier c.requires.circuit c.requires.begun.as_many c.requires.begun.outputs c.requires.begun.words

pub returns-clause-sizes : goal.returns-clause-sizes
returns-clause-sizes g c =
    let ended = tells (verdict_known (challenges_of c.loop-alloc.prover.parts) c.loop-alloc.prover.bytes) c.verdict.result c.is_none.result false c.verdict.ensures c.is_none.ensures c.loop-alloc-test.false in
    let over = all_over c.args.circuit.now c.args.verifier c.args.prover c.requires.circuit c.requires.begun c.loop-alloc.verifier c.loop-alloc.prover c.loop-alloc.to_prover c.loop-alloc.to_verifier c.loop-alloc.invariant ended in
    let challenges = c.challenge_count.ensures ∙ sym (c.requires.begun.words ∙ ap challenges_of c.requires.circuit) in
    λ i. record { challenges = challenges i; to_prover = over.0 i; to_verifier = over.1 i }
