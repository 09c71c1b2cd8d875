-- A case has at most one answer of `prove`, and that to a case whose program has a circuit is its proof.
use Rattle.std.proofs.Common.{◌≡◌, ℕ, List, length, refl, sym, ap, ◌∙◌}
use Rattle.arr_ast.specs.declared.lang.Lang.{Lang}
use Rattle.circuit_core.specs.Parts.{Parts}
use Rattle.arr_ast.specs.ProgramTree.{ProgramTree}
use Rattle.arr_run.specs.Program.{input_count}
use Rattle.arr_compile.specs.Programs.{IsRead}
use Rattle.arr_compile.specs.declared.refused.BadProgram.{BadProgram}
use Rattle.arr_compile.specs.declared.refused.BadProgram.TheVariants.{At, Deep, Wide}
use Rattle.arr_compile.specs.Circuits.{IsCompiled, IsCircuitRefusal}
use Rattle.proof_two.specs.declared.kind.ProofKind.{ProofKind}
use Rattle.case_text.specs.Content.{Content}
use Rattle.case_text.specs.declared.reply.Reply.{Reply}
use Rattle.case_text.specs.declared.reply.Reply.TheVariants as replies
use Rattle.case_prove.specs.Circuits.{IsCircuitMiscounted}
use Rattle.case_prove.specs.Proved.{IsProved}
use Rattle.gkr_cmd.specs.declared.status.Status.TheVariants.{Done}
use Rattle.gkr_cmd.specs.Replies.{status_of}
use Rattle.case_prove.specs.Answers.{IsProveAnswer}
use Rattle.gkr_cmd.specs.Runs.{HasCircuit}
use Rattle.gkr_cmd.proofs.CircuitAnswers.{IsOne, reply_to, same_counts, counted_or_not}
use Rattle.gkr_cmd.proofs.OneReply.{OneAnswer}

-- a text has one tree, whose inputs are its circuit's, and a case is proved as one other alone
pub record IsOneProved : Type 0 where
  pub tree : (lang : Lang) (text : List ℕ) (a b : ProgramTree) → IsRead lang text a → IsRead lang text b → a ≡ b
  pub inputs : (lang : Lang) (text : List ℕ) (parts : Parts) (is : IsCompiled lang text parts) → parts.inputs ≡ input_count is.tree.inputs
  pub proved : (kind : ProofKind) (c a b : Content) → IsProved kind c a → IsProved kind c b → a ≡ b

-- what is said of a case
pub data Answer (kind : ProofKind) (c : Content) : Reply → Type 0 where
  refused : (bad : BadProgram) → IsCircuitRefusal c.lang c.program bad → Answer kind c (reply_to bad)
  miscounted : (have need : ℕ) → IsCircuitMiscounted c have need → Answer kind c (replies.InputCount have need)
  proved : (p : Content) → IsProved kind c p → Answer kind c (replies.Proved p)

pub answer : (kind : ProofKind) (c : Content) (reply : Reply) → IsProveAnswer kind c reply → Answer kind c reply
answer kind c replies.Usage is = absurd is
answer kind c (replies.TooLong limit) is = absurd is
answer kind c (replies.Case bad) is = absurd is
answer kind c (replies.Program why at) is = refused (At at why) is
answer kind c (replies.Deep levels) is = refused (Deep levels) is
answer kind c (replies.Wide height width) is = refused (Wide height width) is
answer kind c (replies.InputCount have need) is = miscounted have need is
answer kind c (replies.Outputs outputs) is = absurd is
answer kind c (replies.Circuit sizes) is = absurd is
answer kind c (replies.Proved p) is = proved p is
answer kind c (replies.Demo summary) is = absurd is
answer kind c (replies.Served jobs) is = absurd is
answer kind c (replies.History history) is = absurd is
answer kind c (replies.OutputCount have need) is = absurd is
answer kind c (replies.Proof bad) is = absurd is
answer kind c (replies.Verdict line) is = absurd is
answer kind c (replies.Audit lines) is = absurd is
answer kind c (replies.WordCount have need) is = absurd is
answer kind c (replies.Session sizes) is = absurd is

-- the inputs of a case that is proved are counted
not_miscounted : (kind : ProofKind) → IsOne → IsOneProved → (c p : Content) (have need : ℕ) → IsProved kind c p → IsCircuitMiscounted c have need → ⊥
not_miscounted kind one proofs c p have need is counts =
    let tree = is.evaluated.tree in
    let same = proofs.tree c.lang c.program is.compiled.tree tree is.compiled.lowered.accepted.read is.evaluated.accepted.read in
    let counted : length c.inputs ≡ is.parts.inputs =
    is.evaluated.counted ∙ ap (λ (t : ProgramTree). input_count t.inputs) (sym same) ∙ sym (proofs.inputs c.lang c.program is.parts is.compiled) in
    counted_or_not one c have need is.parts is.compiled counted counts

one_answer : (kind : ProofKind) → IsOne → IsOneProved → (c : Content) {a b : Reply} → Answer kind c a → Answer kind c b → a ≡ b
one_answer kind one proofs c (refused bad is) (refused bad' is') = ap reply_to (one.refusal c.lang c.program bad bad' is is')
one_answer kind one proofs c (refused bad is) (miscounted have need is') = absurd (one.either c.lang c.program is'.parts bad is'.compiled is)
one_answer kind one proofs c (refused bad is) (proved p is') = absurd (one.either c.lang c.program is'.parts bad is'.compiled is)
one_answer kind one proofs c (miscounted have need is) (refused bad is') = absurd (one.either c.lang c.program is.parts bad is.compiled is')
one_answer kind one proofs c (miscounted have need is) (miscounted have' need' is') = same_counts one c have have' need need' is is'
one_answer kind one proofs c (miscounted have need is) (proved p is') = absurd (not_miscounted kind one proofs c p have need is' is)
one_answer kind one proofs c (proved p is) (refused bad is') = absurd (one.either c.lang c.program is.parts bad is.compiled is')
one_answer kind one proofs c (proved p is) (miscounted have need is') = absurd (not_miscounted kind one proofs c p have need is is')
one_answer kind one proofs c (proved p is) (proved q is') = ap replies.Proved (proofs.proved kind c p q is is')

pub one_prove : IsOne → IsOneProved → (kind : ProofKind) → OneAnswer (IsProveAnswer kind)
one_prove one proofs kind c a b is is' = one_answer kind one proofs c (answer kind c a is) (answer kind c b is')

answer_done : (kind : ProofKind) → IsOne → (c : Content) {reply : Reply} → HasCircuit c → Answer kind c reply → status_of reply ≡ Done
answer_done kind one c is (refused bad refusal) = absurd (one.either c.lang c.program is.parts bad is.compiled refusal)
answer_done kind one c is (miscounted have need counts) = absurd (counted_or_not one c have need is.parts is.compiled is.counted counts)
answer_done kind one c is (proved p value) = refl

pub prove_done : IsOne → (kind : ProofKind) (c : Content) (reply : Reply) → HasCircuit c → IsProveAnswer kind c reply → status_of reply ≡ Done
prove_done one kind c reply is found = answer_done kind one c is (answer kind c reply found)
