-- More bytes, as far as they are kept
use Rattle.std.proofs.Common.{◌≡◌, ◌+◌, ◌*◌, ◌<◌, ◌++◌, List, ℕ, length, take, drop, ap, refl, sym, ◌∙◌, subst, arith}
use Rattle.std.specs.Prelude.{IfOk}
use Rattle.std.proofs.lemmas.List.{with_items_is}
use Rattle.field_ext.specs.Field.{K}
use Rattle.gkr_layers.specs.Acceptance.{claim_of, verdict_of}
use Rattle.gkr_layers.specs.Layers.{challenges_of}
use Rattle.gkr_layers.specs.Soundness.{IsFalse, LetsPass}
use Rattle.gkr_layers.specs.declared.verdict.Verdict.TheVariants.{Accepted}
use Rattle.live_session.specs.Elements.{leading}
use Rattle.live_session.specs.Ending.{EndsWith}
use Rattle.live_session.specs.Intake.{Fed}
use Rattle.live_session.specs.Layout.{messages_in}
use Rattle.live_session.specs.Verifying.{Session, element_count, elements_in, joined, kept, lower, progress_in, spelled}
use Rattle.live_session.specs.VerifierState.{IsKept, intake_of}
use Rattle.live_session.specs.declared.progress.Progress.TheVariants.{Ended}
use Rattle.live_session.proofs.api.ElementSteps.{leading-most}
use Rattle.live_session.proofs.api.VerifierSteps.{kept_on, progress_kept, sound_session}
use Rattle.live_session.proofs.verifier.LiveVerifier.feed.Goals as goal

pub conclude-self-inside-requires-clause-elements : goal.conclude-self-inside-requires-clause-elements
conclude-self-inside-requires-clause-elements c =
    let most : c.feed.new.self.most ≡ element_count c.self.inside.circuit.now.parts = ap (λ (f : Fed). f.most) (c.feed.ensures ∙ ap (λ (f : Fed). record { most = f.most; capacity = f.capacity; bytes = take f.capacity (f.bytes ++ c.args.bytes.now) }) c.self.invariant.taken) in
    omega (arith, ap length c.elements.ensures, leading-most c.feed.new.self.most c.feed.new.self.bytes, most)

pub invariant_of-self : goal.invariant_of-self
invariant_of-self c =
    let a = c.self.inside in
    let p = c.self.inside.circuit.now.parts in
    let more : List ℕ = c.args.bytes.now in
    let s : Session = record { parts = p; inputs = a.inputs.now; outputs = a.outputs.now; words = a.words.now; bytes = a.intake.bytes } in
    let before : IsKept s (intake_of p c.self.inside.intake.bytes) a.ending a.reply.items a.verdict = subst (λ (f : Fed). IsKept s f a.ending a.reply.items a.verdict) c.self.invariant.taken c.self.invariant in
    let fed : c.feed.new.self ≡ intake_of p (take (8 * element_count p + 1) (a.intake.bytes ++ more)) =
    c.feed.ensures ∙ ap (λ (f : Fed). record { most = f.most; capacity = f.capacity; bytes = take f.capacity (f.bytes ++ more) }) c.self.invariant.taken in
    let es : c.elements.result.now ≡ elements_in (kept (joined s more)) = c.elements.ensures ∙ ap (λ (f : Fed). leading f.most f.bytes) fed in
    let done = c.conclude-self-inside.ensures in
    let value : c.deref_mut.result.now ≡ c.self.inside.reply.items = c.deref_mut.ensures.value in
    let size : length c.conclude-self-inside.new.reply ≡ length c.self.inside.reply.items = c.conclude-self-inside.auto.reply ∙ ap length value in
    let back : c.conclude-self-inside.new.reply ≡ take c.self.inside.reply.len (c.conclude-self-inside.new.reply ++ drop (length c.conclude-self-inside.new.reply) c.self.inside.reply.items) =
    sym (with_items_is a.reply c.conclude-self-inside.new.reply (c.conclude-self-inside.auto.reply ∙ c.deref_mut.ensures.len)) in
    let after = kept_on s more a.ending c.conclude-self-inside.new.ending a.reply.items c.conclude-self-inside.new.reply a.verdict c.conclude-self-inside.result before done.ready size
    (λ h. let w = done.stays h in (w.0, w.1 ∙ value))
    (λ e u. let w = done.waits e (subst (λ (xs : List K). length xs < element_count p) (sym es) u) in (w.0, w.1 ∙ value, w.2))
    (λ e u. coe 0 1 (j. EndsWith (verdict_of (claim_of p a.inputs.now a.outputs.now) (messages_in (lower p) (es j)) a.ending.challenges) (8 * challenges_of p) (value j) c.conclude-self-inside.new.reply c.conclude-self-inside.result)
    (done.ends e (subst (λ (xs : List K). length xs ≡ element_count p) (sym es) u))) in
    coe 0 1 (j. IsKept (record { parts = p; inputs = a.inputs.now; outputs = a.outputs.now; words = a.words.now; bytes = (sym fed j).bytes }) (sym fed j) c.conclude-self-inside.new.ending (back j) c.conclude-self-inside.result) after

pub returns-clause-progress : goal.returns-clause-progress
returns-clause-progress c =
    let a = c.self.inside in
    let p = c.self.inside.circuit.now.parts in
    let more : List ℕ = c.args.bytes.now in
    let s : Session = record { parts = p; inputs = a.inputs.now; outputs = a.outputs.now; words = a.words.now; bytes = a.intake.bytes } in
    let fed : c.feed.new.self ≡ intake_of p (take (8 * element_count p + 1) (a.intake.bytes ++ more)) =
    c.feed.ensures ∙ ap (λ (f : Fed). record { most = f.most; capacity = f.capacity; bytes = take f.capacity (f.bytes ++ more) }) c.self.invariant.taken in
    c.progress.ensures
    ∙ ap (λ (f : Fed). progress_in (record { parts = p; inputs = a.inputs.now; outputs = a.outputs.now; words = a.words.now; bytes = f.bytes })) fed
    ∙ progress_kept (joined s more)
    ∙ ap (λ (t : Session). progress_in (joined t more)) c.self.view_is

pub returns-clause-sound : goal.returns-clause-sound
returns-clause-sound c =
    let a = c.self.inside in
    let p = c.self.inside.circuit.now.parts in
    let more : List ℕ = c.args.bytes.now in
    let s : Session = record { parts = p; inputs = a.inputs.now; outputs = a.outputs.now; words = a.words.now; bytes = a.intake.bytes } in
    let fed : c.feed.new.self ≡ intake_of p (take (8 * element_count p + 1) (a.intake.bytes ++ more)) =
    c.feed.ensures ∙ ap (λ (f : Fed). record { most = f.most; capacity = f.capacity; bytes = take f.capacity (f.bytes ++ more) }) c.self.invariant.taken in
    let is : c.progress.result ≡ progress_in (joined s more) =
    c.progress.ensures
    ∙ ap (λ (f : Fed). progress_in (record { parts = p; inputs = a.inputs.now; outputs = a.outputs.now; words = a.words.now; bytes = f.bytes })) fed
    ∙ progress_kept (joined s more) in
    subst (λ (t : Session). IfOk c.progress.result (λ progress. progress ≡ Ended Accepted → IsFalse t.parts t.inputs t.outputs → (n : ℕ) × LetsPass (claim_of t.parts t.inputs t.outputs) (spelled (joined t more)) t.words n)) c.self.view_is
    (sound_session c.self.inside.circuit.now (joined s more) c.progress.result refl c.self.invariant.outputs c.self.invariant.words is)
