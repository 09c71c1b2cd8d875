use Rattle.std.proofs.lemmas.Grind.{common_steps}
use Rattle.std.proofs.Common.{◌≡◌, ◌+◌, List, arith, ◌∙◌, ap, sym, subst, IsTrue, rules}
use Rattle.std.proofs.lemmas.List.{length-map}
use Rattle.std.proofs.lemmas.Result.{err_from_is_err_and}
use Rattle.gkr_layers.specs.declared.verdict.Verdict.TheVariants.{Sum}
use Rattle.field_ext.specs.Field.{K, k_ops}
use Rattle.field_ext.specs.Polynomial.{value_at}
use Rattle.transcript_fs.specs.Source.{Source}
use Rattle.sumcheck_verify.specs.Sumcheck.{counted}
use Rattle.proof_wire.specs.Spelling.{coefficients_of}
use Rattle.proof_wire.specs.Lists.{round_messages}
use Rattle.gkr_verify.proofs.RoundSteps.{has_now, stepped, failed, message_read}
use Rattle.gkr_verify.proofs.rounds.check_rounds.Goals as goal

pub challenge-challenge-requires : goal.challenge-challenge-requires
challenge-challenge-requires g c =
    let source : Source = g.C.Challenges.source in
    let q : List K = c.coefficients-coefficients.result in
    let is = message_read c.args.messages.now c.loop-j.j c.index-messages-j.result q c.loop-j-test.true c.index-messages-j.is c.coefficients-coefficients.ensures in
    subst (λ s. IsTrue (source.has s 1)) (sym c.absorb.ensures)
    (has_now source (g.C.Challenges.state c.args.challenges.now) c.args.claim (round_messages c.args.messages.now) c.loop-j.j (g.C.Challenges.state c.loop-j.challenges) c.loop-j.rounds.claim c.loop-j.drawn c.loop-j.invariant.progress
    q is.0 is.1)

pub loop-j-preserved : goal.loop-j-preserved
loop-j-preserved g c =
    let source : Source = g.C.Challenges.source in
    let before = c.loop-j.invariant in
    let q : List K = c.coefficients-coefficients.result in
    let is = message_read c.args.messages.now c.loop-j.j c.index-messages-j.result q c.loop-j-test.true c.index-messages-j.is c.coefficients-coefficients.ensures in
    let size = length-map c.args.messages.now coefficients_of in
    record {
      ready = c.bind.ensures.waiting;
      taken = let few = c.requires.few in omega (arith, few, c.loop-j-test.true, c.bind.ensures.taken, c.in_ok-take.ensures.taken, before.taken);
      progress = stepped source (g.C.Challenges.state c.args.challenges.now) c.args.claim (round_messages c.args.messages.now) c.loop-j.j (g.C.Challenges.state c.loop-j.challenges) c.loop-j.rounds.claim c.loop-j.drawn before.progress
          q is.0 is.1 (omega (arith, size, c.loop-j.auto.drawn, c.requires.capacity)) c.in_ok-take.ensures.holds _ c.challenge-challenge.result _
          (c.challenge-challenge.ensures.value ∙ ap source.draw c.absorb.ensures)
          (c.challenge-challenge.ensures.state ∙ ap source.after c.absorb.ensures)
          (c.bind.ensures.claim ∙ ap (λ (q : List K). value_at k_ops q c.challenge-challenge.result) c.in_ok-take.ensures.message);
    }

pub returns-in_err-take-clause-fails : goal.returns-in_err-take-clause-fails
returns-in_err-take-clause-fails g c =
    let source : Source = g.C.Challenges.source in
    let before = c.loop-j.invariant in
    let q : List K = c.coefficients-coefficients.result in
    let is = message_read c.args.messages.now c.loop-j.j c.index-messages-j.result q c.loop-j-test.true c.index-messages-j.is c.coefficients-coefficients.ensures in
    let e = c.in_err-take.ensures in
    let p = err_from_is_err_and c.from_residual.result c.from_residual.ensures.1 in
    let few = c.requires.few in
    let count : counted c.loop-j.rounds.taken ≡ c.loop-j.j + 1 = omega (arith, few, c.loop-j-test.true, before.taken) in
    rw (p.1, p.2) (λ number rest more.
    failed source (g.C.Challenges.state c.args.challenges.now) c.args.claim (round_messages c.args.messages.now) c.loop-j.j (g.C.Challenges.state c.loop-j.challenges) c.loop-j.rounds.claim c.loop-j.drawn before.progress
    q is.0 is.1 e.fails number rest more
    ∙ (λ i. record { verdict = Sum number (sym (e.round ∙ count) i) (sym e.had i) (sym e.claim i); state = g.C.Challenges.state c.loop-j.challenges }))

pub loop-j-init : goal.loop-j-init
loop-j-init g c = grind (arith, common_steps)

pub offset_bounds-messages-j : goal.offset_bounds-messages-j
offset_bounds-messages-j g c = search rules

pub bounds-messages-j : goal.bounds-messages-j
bounds-messages-j g c = search rules

pub take-requires : goal.take-requires
take-requires g c = search rules

pub returns-in_err-take-clause-holds : goal.returns-in_err-take-clause-holds
returns-in_err-take-clause-holds g c = search rules

pub returns-in_err-take-clause-claim : goal.returns-in_err-take-clause-claim
returns-in_err-take-clause-claim g c = search rules

pub returns-in_err-take-clause-drawn : goal.returns-in_err-take-clause-drawn
returns-in_err-take-clause-drawn g c = search rules

pub returns-in_err-take-clause-state : goal.returns-in_err-take-clause-state
returns-in_err-take-clause-state g c = search rules

pub shared_whole_as_slice-absorb : goal.shared_whole_as_slice-absorb
shared_whole_as_slice-absorb g c = search rules

pub bind-requires : goal.bind-requires
bind-requires g c = search rules

pub offset_bounds-drawn-j : goal.offset_bounds-drawn-j
offset_bounds-drawn-j g c = search rules

pub bounds-drawn-j : goal.bounds-drawn-j
bounds-drawn-j g c = search rules

pub returns-clause-holds : goal.returns-clause-holds
returns-clause-holds g c = grind (arith, common_steps)

pub returns-clause-claim : goal.returns-clause-claim
returns-clause-claim g c = grind (arith, common_steps)

pub returns-clause-drawn : goal.returns-clause-drawn
returns-clause-drawn g c = grind (arith, common_steps)

pub returns-clause-state : goal.returns-clause-state
returns-clause-state g c = grind (arith, common_steps)

pub returns-clause-fails : goal.returns-clause-fails
returns-clause-fails g c = search rules
