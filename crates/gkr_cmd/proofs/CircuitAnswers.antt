-- A case has at most one answer of `circuit`, and that to a case whose program has a circuit is its sizes.
use Rattle.std.proofs.Common.{◌≡◌, ℕ, List, length, refl, sym, ap, ◌∙◌}
use Rattle.arr_ast.specs.declared.lang.Lang.{Lang}
use Rattle.circuit_core.specs.Parts.{Parts}
use Rattle.arr_compile.specs.declared.refused.BadProgram.{BadProgram}
use Rattle.arr_compile.specs.declared.refused.BadProgram.TheVariants.{At, Deep, Wide}
use Rattle.arr_compile.specs.Circuits.{IsCompiled, IsCircuitRefusal}
use Rattle.case_text.specs.Content.{Content}
use Rattle.case_text.specs.Sizes.{Sizes}
use Rattle.case_text.specs.declared.reply.Reply.{Reply}
use Rattle.case_text.specs.declared.reply.Reply.TheVariants as replies
use Rattle.case_prove.specs.Circuits.{IsLaidOut, IsCircuitMiscounted, RefusesCircuit, sizes_of}
use Rattle.case_prove.specs.declared.refused.Refused.{Refused}
use Rattle.case_prove.specs.declared.refused.Refused.TheVariants as refusals
use Rattle.gkr_cmd.specs.declared.status.Status.TheVariants.{Done}
use Rattle.gkr_cmd.specs.Replies.{IsCircuitAnswer, status_of}
use Rattle.gkr_cmd.specs.Runs.{HasCircuit}
use Rattle.gkr_cmd.proofs.OneReply.{OneAnswer}

-- a text has one circuit, one refusal, and not both
pub record IsOne : Type 0 where
  pub circuit : (lang : Lang) (text : List ℕ) (a b : Parts) → IsCompiled lang text a → IsCompiled lang text b → a ≡ b
  pub refusal : (lang : Lang) (text : List ℕ) (a b : BadProgram) → IsCircuitRefusal lang text a → IsCircuitRefusal lang text b → a ≡ b
  pub either : (lang : Lang) (text : List ℕ) (parts : Parts) (bad : BadProgram) → IsCompiled lang text parts → ¬ IsCircuitRefusal lang text bad

abbrev pub reply_to : BadProgram → Reply
reply_to (At at kind) = replies.Program kind at
reply_to (Deep levels) = replies.Deep levels
reply_to (Wide height width) = replies.Wide height width

-- what is said of a case
data Answer (c : Content) : Reply → Type 0 where
  refused : (bad : BadProgram) → IsCircuitRefusal c.lang c.program bad → Answer c (reply_to bad)
  miscounted : (have need : ℕ) → IsCircuitMiscounted c have need → Answer c (replies.InputCount have need)
  laid_out : (sizes : Sizes) → IsLaidOut c sizes → Answer c (replies.Circuit sizes)

answer : (c : Content) (reply : Reply) → IsCircuitAnswer c reply → Answer c reply
answer c replies.Usage is = absurd is
answer c (replies.TooLong limit) is = absurd is
answer c (replies.Case bad) is = absurd is
answer c (replies.Program kind at) is = refused (At at kind) is
answer c (replies.Deep levels) is = refused (Deep levels) is
answer c (replies.Wide height width) is = refused (Wide height width) is
answer c (replies.InputCount have need) is = miscounted have need is
answer c (replies.Outputs outputs) is = absurd is
answer c (replies.Circuit sizes) is = laid_out sizes is
answer c (replies.Proved proved) is = absurd is
answer c (replies.Demo summary) is = absurd is
answer c (replies.Served jobs) is = absurd is
answer c (replies.History history) is = absurd is
answer c (replies.OutputCount have need) is = absurd is
answer c (replies.Proof bad) is = absurd is
answer c (replies.Verdict line) is = absurd is
answer c (replies.Audit lines) is = absurd is
answer c (replies.WordCount have need) is = absurd is
answer c (replies.Session sizes) is = absurd is

pub same_counts : IsOne → (c : Content) (have have' need need' : ℕ) → IsCircuitMiscounted c have need → IsCircuitMiscounted c have' need' → replies.InputCount have need ≡ replies.InputCount have' need'
same_counts one c have have' need need' is is' =
    let same = one.circuit c.lang c.program is.parts is'.parts is.compiled is'.compiled in
    let same_have : have ≡ have' = is.case_has ∙ sym is'.case_has in
    let same_need : need ≡ need' = is.program_needs ∙ ap (λ (p : Parts). p.inputs) same ∙ sym is'.program_needs in
    rw (same_have, same_need) refl

same_sizes : IsOne → (c : Content) (a b : Sizes) → IsLaidOut c a → IsLaidOut c b → a ≡ b
same_sizes one c a b is is' = is.sizes_are ∙ ap sizes_of (one.circuit c.lang c.program is.parts is'.parts is.compiled is'.compiled) ∙ sym is'.sizes_are

pub counted_or_not : IsOne → (c : Content) (have need : ℕ) (parts : Parts) → IsCompiled c.lang c.program parts → length c.inputs ≡ parts.inputs → IsCircuitMiscounted c have need → ⊥
counted_or_not one c have need parts compiled counted is =
    let same = one.circuit c.lang c.program is.parts parts is.compiled compiled in
    is.differ (is.case_has ∙ counted ∙ ap (λ (p : Parts). p.inputs) (sym same) ∙ sym is.program_needs)

one_answer : IsOne → (c : Content) {a b : Reply} → Answer c a → Answer c b → a ≡ b
one_answer one c (refused bad is) (refused bad' is') = ap reply_to (one.refusal c.lang c.program bad bad' is is')
one_answer one c (refused bad is) (miscounted have need is') = absurd (one.either c.lang c.program is'.parts bad is'.compiled is)
one_answer one c (refused bad is) (laid_out sizes is') = absurd (one.either c.lang c.program is'.parts bad is'.compiled is)
one_answer one c (miscounted have need is) (refused bad is') = absurd (one.either c.lang c.program is.parts bad is.compiled is')
one_answer one c (miscounted have need is) (miscounted have' need' is') = same_counts one c have have' need need' is is'
one_answer one c (miscounted have need is) (laid_out sizes is') = absurd (counted_or_not one c have need is'.parts is'.compiled is'.counted is)
one_answer one c (laid_out sizes is) (refused bad is') = absurd (one.either c.lang c.program is.parts bad is.compiled is')
one_answer one c (laid_out sizes is) (miscounted have need is') = absurd (counted_or_not one c have need is.parts is.compiled is.counted is')
one_answer one c (laid_out sizes is) (laid_out sizes' is') = ap replies.Circuit (same_sizes one c sizes sizes' is is')

pub one_circuit : IsOne → OneAnswer IsCircuitAnswer
one_circuit one c a b is is' = one_answer one c (answer c a is) (answer c b is')

answer_done : IsOne → (c : Content) {reply : Reply} → HasCircuit c → Answer c reply → status_of reply ≡ Done
answer_done one c is (refused bad refusal) = absurd (one.either c.lang c.program is.parts bad is.compiled refusal)
answer_done one c is (miscounted have need counts) = absurd (counted_or_not one c have need is.parts is.compiled is.counted counts)
answer_done one c is (laid_out sizes value) = refl

pub circuit_done : IsOne → (c : Content) (reply : Reply) → HasCircuit c → IsCircuitAnswer c reply → status_of reply ≡ Done
circuit_done one c reply is found = answer_done one c is (answer c reply found)

-- a case whose program has a circuit with as many inputs is refused only where memory runs out
pub memory_alone : IsOne → (c : Content) (refused : Refused) → HasCircuit c → RefusesCircuit c refused → refused ≡ refusals.Memory
memory_alone one c (refusals.Program bad) has is = absurd (one.either c.lang c.program has.parts bad has.compiled is)
memory_alone one c (refusals.Input have need) has is = absurd (counted_or_not one c have need has.parts has.compiled has.counted is)
memory_alone one c (refusals.Output have need) has is = absurd is
memory_alone one c (refusals.Proof bad) has is = absurd is
memory_alone one c refusals.Memory has is = refl
