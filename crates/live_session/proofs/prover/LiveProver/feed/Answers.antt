-- More challenges, or a fault
use Rattle.std.proofs.Common.{◌≡◌, ◌+◌, ◌*◌, ◌++◌, List, ℕ, length, take, Option, None, ap, sym, ◌∙◌, subst, arith}
use Rattle.field_ext.specs.Field.{K}
use Rattle.gkr_layers.specs.Layers.{challenges_of}
use Rattle.live_session.specs.Elements.{leading}
use Rattle.live_session.specs.Intake.{Fed}
use Rattle.live_session.specs.Proving.{Proving, fed_more, stop_of}
use Rattle.live_session.specs.ProverState.{IsAt}
use Rattle.live_session.specs.Stops.{IsStopFor}
use Rattle.live_session.specs.declared.progress.LiveFault.{LiveFault}
use Rattle.live_session.proofs.api.ProverSteps.{all_kept, few_words, stop_kept, words_before}
use Rattle.live_session.proofs.prover.LiveProver.feed.Goals as goal

-- what the intake has, where its buffer is that of the challenges and two bytes
fed_is : (due : ℕ) (intake new : Fed) (more : List ℕ) → intake.most ≡ due → intake.capacity ≡ 8 * due + 2 → new ≡ record intake { bytes = take intake.capacity (intake.bytes ++ more) } →
    new ≡ record { most = due; capacity = 8 * due + 2; bytes = take (8 * due + 2) (intake.bytes ++ more) }
fed_is due intake new more m r e = e ∙ (λ j. record { most = m j; capacity = r j; bytes = take (r j) (intake.bytes ++ more) })

pub stop_at-requires-clause-small : goal.stop_at-requires-clause-small
stop_at-requires-clause-small g c = omega (arith, few_words c.self.inside.circuit.now, c.challenge_count.ensures)

pub returns-in-Some-clause-stops : goal.returns-in-Some-clause-stops
returns-in-Some-clause-stops g c =
    let due : ℕ = challenges_of c.self.inside.circuit.now.parts in
    let bytes : List ℕ = c.self.inside.intake.bytes in
    let more : List ℕ = c.args.bytes.now in
    let fed = fed_is due c.self.inside.intake c.feed.new.self more c.self.invariant.most c.self.invariant.capacity c.feed.ensures in
    let stop = c.stop_at.ensures ∙ (λ j. stop_of (c.challenge_count.ensures j) (fed j).bytes) ∙ stop_kept due (bytes ++ more)
    ∙ ap (λ (s : Proving). stop_of (challenges_of s.parts) (s.bytes ++ more)) c.self.view_is in
    subst (λ (o : Option LiveFault). IsStopFor o c.into.result) (sym c.in-Some.is ∙ stop) c.into.ensures

pub run-requires-clause-used : goal.run-requires-clause-used
run-requires-clause-used g c =
    let due : ℕ = challenges_of c.self.inside.circuit.now.parts in
    let bytes : List ℕ = c.self.inside.intake.bytes in
    let more : List ℕ = c.args.bytes.now in
    let fed = fed_is due c.self.inside.intake c.feed.new.self more c.self.invariant.most c.self.invariant.capacity c.feed.ensures in
    let used = ap length (c.elements-used.ensures ∙ ap (λ (m : ℕ). leading m bytes) c.self.invariant.most) in
    let now = ap length (c.elements.ensures ∙ ap (λ (f : Fed). leading f.most f.bytes) fed) in
    omega (arith, used, now, (words_before due bytes more).1)

pub run-requires-clause-at_stage : goal.run-requires-clause-at_stage
run-requires-clause-at_stage g c κs within =
    let p = c.self.inside.circuit.now.parts in
    let due : ℕ = challenges_of c.self.inside.circuit.now.parts in
    let bytes : List ℕ = c.self.inside.intake.bytes in
    let more : List ℕ = c.args.bytes.now in
    let fed = fed_is due c.self.inside.intake c.feed.new.self more c.self.invariant.most c.self.invariant.capacity c.feed.ensures in
    let used = c.elements-used.ensures ∙ ap (λ (m : ℕ). leading m bytes) c.self.invariant.most in
    let now = c.elements.ensures ∙ ap (λ (f : Fed). leading f.most f.bytes) fed in
    let same : take (length c.elements-used.result.now) c.elements.result.now ≡ leading due bytes = (λ j. take (length (used j)) (now j)) ∙ (words_before due bytes more).0 in
    λ inputs tables. subst (λ (ws : List K). IsAt p inputs ws c.self.inside.course) (sym same) (c.self.invariant.at_stage inputs tables)

pub invariant_of-result : goal.invariant_of-result
invariant_of-result g c =
    let p = c.self.inside.circuit.now.parts in
    let due : ℕ = challenges_of c.self.inside.circuit.now.parts in
    let bytes : List ℕ = c.self.inside.intake.bytes in
    let more : List ℕ = c.args.bytes.now in
    let fed = fed_is due c.self.inside.intake c.feed.new.self more c.self.invariant.most c.self.invariant.capacity c.feed.ensures in
    let most : c.feed.new.self.most ≡ due = ap (λ (f : Fed). f.most) fed in
    record {
      inputs = c.self.invariant.inputs;
      tables = c.self.invariant.tables;
      most = most;
      capacity = ap (λ (f : Fed). f.capacity) fed;
      faultless = sym (c.stop_at.ensures ∙ ap (λ (n : ℕ). stop_of n c.feed.new.self.bytes) c.challenge_count.ensures) ∙ c.in_default.is;
      at_stage = λ inputs tables. subst (λ (ws : List K). IsAt p inputs ws c.in_ok-course.course) (c.elements.ensures ∙ ap (λ (m : ℕ). leading m c.feed.new.self.bytes) most) (c.in_ok-course.ensures inputs tables);
    }

pub returns-clause-goes : goal.returns-clause-goes
returns-clause-goes g c =
    let p = c.self.inside.circuit.now.parts in
    let due : ℕ = challenges_of c.self.inside.circuit.now.parts in
    let bytes : List ℕ = c.self.inside.intake.bytes in
    let more : List ℕ = c.args.bytes.now in
    let fed = fed_is due c.self.inside.intake c.feed.new.self more c.self.invariant.most c.self.invariant.capacity c.feed.ensures in
    let none : stop_of due (take (8 * due + 2) (bytes ++ more)) ≡ None = sym (c.stop_at.ensures ∙ (λ j. stop_of (c.challenge_count.ensures j) (fed j).bytes)) ∙ c.in_default.is in
    let all : c.feed.new.self.bytes ≡ bytes ++ more = ap (λ (f : Fed). f.bytes) fed ∙ (all_kept due (bytes ++ more) none).1 in
    (λ j. record { parts = p; values = c.self.inside.values.now; bytes = all j })
    ∙ ap (λ (s : Proving). fed_more s more) c.self.view_is

pub returns-clause-faultless : goal.returns-clause-faultless
returns-clause-faultless g c =
    let due : ℕ = challenges_of c.self.inside.circuit.now.parts in
    let bytes : List ℕ = c.self.inside.intake.bytes in
    let more : List ℕ = c.args.bytes.now in
    let fed = fed_is due c.self.inside.intake c.feed.new.self more c.self.invariant.most c.self.invariant.capacity c.feed.ensures in
    let none : stop_of due (take (8 * due + 2) (bytes ++ more)) ≡ None = sym (c.stop_at.ensures ∙ (λ j. stop_of (c.challenge_count.ensures j) (fed j).bytes)) ∙ c.in_default.is in
    sym (ap (λ (s : Proving). stop_of (challenges_of s.parts) (s.bytes ++ more)) c.self.view_is) ∙ (all_kept due (bytes ++ more) none).0
