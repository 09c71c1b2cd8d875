-- Nothing was fed
use Rattle.std.proofs.Common.{◌≡◌, ◌+◌, ◌*◌, [], ℕ, take, ap, refl, sym, ◌∙◌}
use Rattle.live_session.specs.Intake.{Fed}
use Rattle.live_session.specs.Verifying.{Session}
use Rattle.live_session.proofs.api.VerifierSteps.{not_done}
use Rattle.live_session.proofs.verifier.LiveVerifier.start.Goals as goal

pub invariant_of-result : goal.invariant_of-result
invariant_of-result c =
    let p = c.args.circuit.now.parts in
    let none : c.in_ok-intake.intake.bytes ≡ [] = ap (λ (f : Fed). f.bytes) c.in_ok-intake.ensures in
    let s : Session = record { parts = p; inputs = c.args.inputs.now; outputs = c.args.outputs.now; words = c.args.words.now; bytes = c.in_ok-intake.intake.bytes } in
    record {
      inputs = c.requires.inputs;
      outputs = c.requires.outputs;
      words = c.requires.words;
      taken = c.in_ok-intake.ensures ∙ (λ i. record { most = c.elements_due.ensures.value i; capacity = 8 * c.elements_due.ensures.value i + 1; bytes = sym none i });
      ready = c.in_ok-ending.ensures.ready;
      unused = λ e. c.in_ok-ending.ensures.challenges;
      reply_length = c.in_ok-reply.ensures.size ∙ ap (λ (n : ℕ). 8 * n + 1) c.requires.words;
      reply_words = ap (λ (n : ℕ). take (8 * n) c.in_ok-reply.reply.items) (sym c.requires.words) ∙ c.in_ok-reply.ensures.words;
      concluded = not_done c.args.circuit.now s refl none;
    }
