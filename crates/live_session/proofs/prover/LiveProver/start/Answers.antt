-- No challenge was fed
use Rattle.std.proofs.Common.{◌≡◌, ◌+◌, ◌*◌, [], ℕ, ap, ◌∙◌, arith}
use Rattle.live_session.specs.Intake.{Fed}
use Rattle.live_session.proofs.api.ProverSteps.{few_words, nothing_stops}
use Rattle.live_session.proofs.prover.LiveProver.start.Goals as goal

pub new-requires-clause-elements : goal.new-requires-clause-elements
new-requires-clause-elements c = omega (arith, few_words c.args.circuit.now, c.challenge_count.ensures)

pub invariant_of-result : goal.invariant_of-result
invariant_of-result c =
    let none : c.in_ok-intake.intake.bytes ≡ [] = ap (λ (f : Fed). f.bytes) c.in_ok-intake.ensures in
    let start = nothing_stops c.args.circuit.now c.in_ok-intake.intake.bytes none in
    record {
      inputs = c.requires.0;
      tables = c.requires.1;
      most = ap (λ (f : Fed). f.most) c.in_ok-intake.ensures ∙ c.challenge_count.ensures;
      capacity = ap (λ (f : Fed). f.capacity) c.in_ok-intake.ensures ∙ ap (λ (n : ℕ). 8 * n + 2) c.challenge_count.ensures;
      faultless = start.0;
      at_stage = λ inputs tables. record { few = start.1; nothing = c.new-2.ensures.items };
    }
