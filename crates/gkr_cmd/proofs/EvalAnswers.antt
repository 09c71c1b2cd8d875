-- A case has at most one answer of `eval`, and that to a case which can be evaluated is its outputs.
use Rattle.std.proofs.Common.{◌≡◌, ℕ, List, length, Option, Some, refl, sym, ap, ◌∙◌}
use Rattle.arr_ast.specs.declared.lang.Lang.{Lang}
use Rattle.field_ext.specs.Field.{F}
use Rattle.arr_ast.specs.ProgramTree.{ProgramTree}
use Rattle.arr_ast.specs.declared.refusal.ProgramKind.{ProgramKind}
use Rattle.arr_run.specs.Program.{input_count}
use Rattle.arr_compile.specs.declared.refused.BadProgram.{BadProgram}
use Rattle.arr_compile.specs.declared.refused.BadProgram.TheVariants.{At}
use Rattle.arr_compile.specs.Programs.{IsRead, IsAccepted, IsRefusal, IsRefusedAs}
use Rattle.arr_eval.specs.Meaning.{meaning}
use Rattle.case_text.specs.Content.{Content}
use Rattle.case_text.specs.declared.reply.Reply.{Reply}
use Rattle.case_text.specs.declared.reply.Reply.TheVariants as replies
use Rattle.case_prove.specs.Evaluated.{IsEvaluated, IsMiscounted}
use Rattle.gkr_cmd.specs.declared.status.Status.TheVariants.{Done}
use Rattle.gkr_cmd.specs.Replies.{IsEvalAnswer, status_of}
use Rattle.gkr_cmd.specs.Runs.{IsEvaluable}
use Rattle.gkr_cmd.proofs.OneReply.{OneAnswer}

-- a text has one tree, one refusal, and not both
pub record IsOne : Type 0 where
  pub tree : (lang : Lang) (text : List ℕ) (a b : ProgramTree) → IsRead lang text a → IsRead lang text b → a ≡ b
  pub refusal : (lang : Lang) (text : List ℕ) (a b : BadProgram) → IsRefusal lang text a → IsRefusal lang text b → a ≡ b
  pub either : (lang : Lang) (text : List ℕ) (tree : ProgramTree) (bad : BadProgram) → IsAccepted lang text tree → ¬ IsRefusal lang text bad

-- what is said of a case
data Answer (c : Content) : Reply → Type 0 where
  refused : (kind : ProgramKind) (at : ℕ) → IsRefusedAs c.lang c.program at kind → Answer c (replies.Program kind at)
  miscounted : (have need : ℕ) → IsMiscounted c have need → Answer c (replies.InputCount have need)
  evaluated : (outputs : List F) → IsEvaluated c outputs → Answer c (replies.Outputs outputs)

answer : (c : Content) (reply : Reply) → IsEvalAnswer c reply → Answer c reply
answer c replies.Usage is = absurd is
answer c (replies.TooLong limit) is = absurd is
answer c (replies.Case bad) is = absurd is
answer c (replies.Program kind at) is = refused kind at is
answer c (replies.Deep levels) is = absurd is
answer c (replies.Wide height width) is = absurd is
answer c (replies.InputCount have need) is = miscounted have need is
answer c (replies.Outputs outputs) is = evaluated outputs is
answer c (replies.Circuit sizes) is = absurd is
answer c (replies.Proved proved) is = absurd is
answer c (replies.Demo summary) is = absurd is
answer c (replies.Served jobs) is = absurd is
answer c (replies.History history) is = absurd is
answer c (replies.OutputCount have need) is = absurd is
answer c (replies.Proof bad) is = absurd is
answer c (replies.Verdict line) is = absurd is
answer c (replies.Audit lines) is = absurd is
answer c (replies.WordCount have need) is = absurd is
answer c (replies.Session sizes) is = absurd is

same_refusal : IsOne → (lang : Lang) (text : List ℕ) (kind kind' : ProgramKind) (at at' : ℕ) → IsRefusedAs lang text at kind → IsRefusedAs lang text at' kind' → replies.Program kind at ≡ replies.Program kind' at'
same_refusal one lang text kind kind' at at' is is' =
    let e = one.refusal lang text (At at kind) (At at' kind') is is' in
    let same_kind : kind ≡ kind' = cc in
    let same_place : at ≡ at' = cc in
    rw (same_kind, same_place) refl

same_counts : IsOne → (c : Content) (have have' need need' : ℕ) → IsMiscounted c have need → IsMiscounted c have' need' → replies.InputCount have need ≡ replies.InputCount have' need'
same_counts one c have have' need need' is is' =
    let same = one.tree c.lang c.program is.tree is'.tree is.accepted.read is'.accepted.read in
    let same_have : have ≡ have' = is.case_has ∙ sym is'.case_has in
    let same_need : need ≡ need' = is.program_needs ∙ ap (λ (t : ProgramTree). input_count t.inputs) same ∙ sym is'.program_needs in
    rw (same_have, same_need) refl

one_value : (o : Option (List F)) (a b : List F) → o ≡ Some a → o ≡ Some b → a ≡ b
one_value o a b is is' = cc

same_outputs : IsOne → (c : Content) (a b : List F) → IsEvaluated c a → IsEvaluated c b → a ≡ b
same_outputs one c a b is is' =
    let same = one.tree c.lang c.program is.tree is'.tree is.accepted.read is'.accepted.read in
    one_value (meaning c.lang is.tree c.inputs) a b is.meaning_is (ap (λ (t : ProgramTree). meaning c.lang t c.inputs) same ∙ is'.meaning_is)

-- counts that differ are no counts that agree
counted_or_not : IsOne → (c : Content) (have need : ℕ) (tree : ProgramTree) → IsAccepted c.lang c.program tree → length c.inputs ≡ input_count tree.inputs → IsMiscounted c have need → ⊥
counted_or_not one c have need tree accepted counted is =
    let same = one.tree c.lang c.program is.tree tree is.accepted.read accepted.read in
    is.differ (is.case_has ∙ counted ∙ ap (λ (t : ProgramTree). input_count t.inputs) (sym same) ∙ sym is.program_needs)

one_answer : IsOne → (c : Content) {a b : Reply} → Answer c a → Answer c b → a ≡ b
one_answer one c (refused kind at is) (refused kind' at' is') = same_refusal one c.lang c.program kind kind' at at' is is'
one_answer one c (refused kind at is) (miscounted have need is') = absurd (one.either c.lang c.program is'.tree (At at kind) is'.accepted is)
one_answer one c (refused kind at is) (evaluated outputs is') = absurd (one.either c.lang c.program is'.tree (At at kind) is'.accepted is)
one_answer one c (miscounted have need is) (refused kind at is') = absurd (one.either c.lang c.program is.tree (At at kind) is.accepted is')
one_answer one c (miscounted have need is) (miscounted have' need' is') = same_counts one c have have' need need' is is'
one_answer one c (miscounted have need is) (evaluated outputs is') = absurd (counted_or_not one c have need is'.tree is'.accepted is'.counted is)
one_answer one c (evaluated outputs is) (refused kind at is') = absurd (one.either c.lang c.program is.tree (At at kind) is.accepted is')
one_answer one c (evaluated outputs is) (miscounted have need is') = absurd (counted_or_not one c have need is.tree is.accepted is.counted is')
one_answer one c (evaluated outputs is) (evaluated outputs' is') = ap replies.Outputs (same_outputs one c outputs outputs' is is')

pub one_eval : IsOne → OneAnswer IsEvalAnswer
one_eval one c a b is is' = one_answer one c (answer c a is) (answer c b is')

answer_done : IsOne → (c : Content) {reply : Reply} → IsEvaluable c → Answer c reply → status_of reply ≡ Done
answer_done one c is (refused kind at refusal) = absurd (one.either c.lang c.program is.tree (At at kind) is.accepted refusal)
answer_done one c is (miscounted have need counts) = absurd (counted_or_not one c have need is.tree is.accepted is.counted counts)
answer_done one c is (evaluated outputs value) = refl

pub eval_done : IsOne → (c : Content) (reply : Reply) → IsEvaluable c → IsEvalAnswer c reply → status_of reply ≡ Done
eval_done one c reply is found = answer_done one c is (answer c reply found)
