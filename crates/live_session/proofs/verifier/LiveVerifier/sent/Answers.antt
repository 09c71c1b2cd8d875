-- The words as far as messages were whole, and the last byte
use Rattle.std.proofs.Common.{◌≡◌, ◌+◌, ◌*◌, List, ℕ, take, Option, Some, None, true, false, ap, sym, ◌∙◌, arith, length-take}
use Rattle.std.specs.Option.{is_some}
use Rattle.circuit_core.specs.Sound.{exponent_at}
use Rattle.gkr_layers.specs.declared.verdict.Verdict.{Verdict}
use Rattle.live_session.specs.Intake.{Fed}
use Rattle.live_session.specs.Verifying.{Session, messages_whole, verifier_sent}
use Rattle.live_session.specs.VerifierState.{IsKept}
use Rattle.live_session.specs.declared.ending.Ending.{Ending}
use Rattle.live_session.proofs.api.VerifierSteps.{reply_holds, sent_ended, sent_waiting}
use Rattle.live_session.proofs.verifier.LiveVerifier.sent.Goals as goal

by_verdict : (s : Session) (intake : Fed) (ending : Ending) (reply : List ℕ) (n : ℕ) (verdict : Option Verdict) → n ≡ exponent_at s.parts 0 + messages_whole s → IsKept s intake ending reply verdict →
    (is_some verdict ≡ true → take (8 * n + 1) reply ≡ verifier_sent s) × (is_some verdict ≡ false → take (8 * n) reply ≡ verifier_sent s)
by_verdict s intake ending reply n None e is = (λ h. absurd (let f : false ≡ true = h in cc), λ h. sent_waiting s intake ending reply n e is)
by_verdict s intake ending reply n (Some v) e is = (λ h. sent_ended s intake ending reply n e v is, λ h. absurd (let f : true ≡ false = h in cc))

pub overflow_add-words : goal.overflow_add-words
overflow_add-words c =
    let a = c.self.inside in
    omega (arith, a.reply.ok.0, a.reply.ok.1, a.reply.small, (reply_holds _ a.intake a.ending a.reply.items a.verdict c.coordinates.result c.whole_messages-whole.result c.elements.result.now c.self.invariant c.coordinates.ensures.value c.whole_messages-whole.ensures c.elements.ensures).1)

pub overflow_mul-result : goal.overflow_mul-result
overflow_mul-result c =
    let a = c.self.inside in
    omega (arith, a.reply.ok.0, a.reply.ok.1, a.reply.small, (reply_holds _ a.intake a.ending a.reply.items a.verdict c.coordinates.result c.whole_messages-whole.result c.elements.result.now c.self.invariant c.coordinates.ensures.value c.whole_messages-whole.ensures c.elements.ensures).1)

pub overflow_add-result : goal.overflow_add-result
overflow_add-result c =
    let a = c.self.inside in
    omega (arith, a.reply.ok.0, a.reply.ok.1, a.reply.small, (reply_holds _ a.intake a.ending a.reply.items a.verdict c.coordinates.result c.whole_messages-whole.result c.elements.result.now c.self.invariant c.coordinates.ensures.value c.whole_messages-whole.ensures c.elements.ensures).1)

pub overflow_mul-result-else-is_some : goal.overflow_mul-result-else-is_some
overflow_mul-result-else-is_some c =
    let a = c.self.inside in
    omega (arith, a.reply.ok.0, a.reply.ok.1, a.reply.small, (reply_holds _ a.intake a.ending a.reply.items a.verdict c.coordinates.result c.whole_messages-whole.result c.elements.result.now c.self.invariant c.coordinates.ensures.value c.whole_messages-whole.ensures c.elements.ensures).1)

pub slice_bounds-result-end : goal.slice_bounds-result-end
slice_bounds-result-end c =
    let a = c.self.inside in
    omega (arith, c.deref.ensures.len, a.reply.ok.0, length-take (8 * (c.coordinates.result + c.whole_messages-whole.result) + 1) c.deref.result.now, (reply_holds _ a.intake a.ending a.reply.items a.verdict c.coordinates.result c.whole_messages-whole.result c.elements.result.now c.self.invariant c.coordinates.ensures.value c.whole_messages-whole.ensures c.elements.ensures).1)

pub slice_bounds-result-end-else-is_some : goal.slice_bounds-result-end-else-is_some
slice_bounds-result-end-else-is_some c =
    let a = c.self.inside in
    omega (arith, c.deref-else-is_some.ensures.len, a.reply.ok.0, length-take (8 * (c.coordinates.result + c.whole_messages-whole.result)) c.deref-else-is_some.result.now, (reply_holds _ a.intake a.ending a.reply.items a.verdict c.coordinates.result c.whole_messages-whole.result c.elements.result.now c.self.invariant c.coordinates.ensures.value c.whole_messages-whole.ensures c.elements.ensures).1)

pub returns-then-is_some : goal.returns-then-is_some
returns-then-is_some c =
    let a = c.self.inside in
    let s : Session = record { parts = a.circuit.now.parts; inputs = a.inputs.now; outputs = a.outputs.now; words = a.words.now; bytes = a.intake.bytes } in
    let n = reply_holds s a.intake a.ending a.reply.items a.verdict c.coordinates.result c.whole_messages-whole.result c.elements.result.now c.self.invariant c.coordinates.ensures.value c.whole_messages-whole.ensures c.elements.ensures in
    ap (take (8 * (c.coordinates.result + c.whole_messages-whole.result) + 1)) c.deref.ensures.value
    ∙ (by_verdict s a.intake a.ending a.reply.items (c.coordinates.result + c.whole_messages-whole.result) a.verdict n.0 c.self.invariant).0 (sym c.is_some.ensures ∙ c.if-is_some.true)
    ∙ ap verifier_sent c.self.view_is

pub returns-else-is_some : goal.returns-else-is_some
returns-else-is_some c =
    let a = c.self.inside in
    let s : Session = record { parts = a.circuit.now.parts; inputs = a.inputs.now; outputs = a.outputs.now; words = a.words.now; bytes = a.intake.bytes } in
    let n = reply_holds s a.intake a.ending a.reply.items a.verdict c.coordinates.result c.whole_messages-whole.result c.elements.result.now c.self.invariant c.coordinates.ensures.value c.whole_messages-whole.ensures c.elements.ensures in
    ap (take (8 * (c.coordinates.result + c.whole_messages-whole.result))) c.deref-else-is_some.ensures.value
    ∙ (by_verdict s a.intake a.ending a.reply.items (c.coordinates.result + c.whole_messages-whole.result) a.verdict n.0 c.self.invariant).1 (sym c.is_some.ensures ∙ c.if-is_some.false)
    ∙ ap verifier_sent c.self.view_is
