-- A number has at most one answer of `demo`.
use Rattle.std.proofs.Common.{◌≡◌, ℕ, List, ◌∷◌, length, subst, Some, refl, sym, ap, ◌∙◌}
use Rattle.field_ext.specs.Field.{F}
use Rattle.sha2.specs.Sha256.{sha256}
use Rattle.circuit_core.specs.Parts.{height}
use Rattle.arr_ast.specs.declared.lang.Lang.TheVariants as langs
use Rattle.case_text.specs.Content.{Content}
use Rattle.case_text.specs.declared.reply.demo.DemoSummary.{DemoSummary}
use Rattle.case_text.specs.declared.reply.Reply.{Reply}
use Rattle.case_text.specs.declared.reply.Reply.TheVariants as replies
use Rattle.gkr_cmd.specs.Demo.{IsDemo, demo_case}
use Rattle.gkr_cmd.specs.Replies.{IsDemoAnswer, status_of}
use Rattle.gkr_cmd.specs.declared.status.Status.TheVariants.{Done}
use Rattle.gkr_cmd.proofs.CircuitAnswers.{IsOne}
use Rattle.proof_two.specs.declared.kind.ProofKind.TheVariants.{ByLines}
use Rattle.proof_two.specs.declared.kind.ProofVersion.TheVariants.{One}
use Rattle.gkr_cmd.proofs.ProveAnswers.{IsOneProved}
use Rattle.case_prove.proofs.api.ReadProofs.{one_value as same_some}

head_is : {A : Type 0} (x y : A) (xs ys : List A) → x ∷ xs ≡ y ∷ ys → x ≡ y
head_is x y xs ys e = cc

summary_of : ℕ → ℕ → F → ℕ → ℕ → List ℕ → DemoSummary
summary_of number size output layers proof digest = record { number = number; size = size; output = output; layers = layers; proof = proof; digest = digest }

same_summary : IsOne → IsOneProved → (number : ℕ) (a b : DemoSummary) → IsDemo number a → IsDemo number b → a ≡ b
unfolding summary_of
same_summary one proofs number a b is is' =
    let same = proofs.proved (ByLines One) (demo_case number) is.proved is'.proved is.is_proved is'.is_proved in
    let outputs = same_some is'.proved.outputs (a.output ∷ is.output_is.others) (b.output ∷ is'.output_is.others)
    (subst (λ (p : Content). p.outputs ≡ Some (a.output ∷ is.output_is.others)) same is.output_is.outputs_are) is'.output_is.outputs_are in
    let proof = same_some is'.proved.proof is.proof is'.proof (subst (λ (p : Content). p.proof ≡ Some is.proof) same is.proof_is) is'.proof_is in
    let parts = one.circuit langs.One (demo_case number).program is.parts is'.parts is.compiled is'.compiled in
    let same_number : a.number ≡ b.number = is.number_is ∙ sym is'.number_is in
    let same_size : a.size ≡ b.size = is.size_is ∙ sym is'.size_is in
    let same_output : a.output ≡ b.output = head_is a.output b.output is.output_is.others is'.output_is.others outputs in
    let same_layers : a.layers ≡ b.layers = is.layers_are ∙ ap height parts ∙ sym is'.layers_are in
    let same_length : a.proof ≡ b.proof = is.length_is ∙ ap length proof ∙ sym is'.length_is in
    let same_digest : a.digest ≡ b.digest = is.digest_is ∙ ap sha256 proof ∙ sym is'.digest_is in
    let whole : summary_of a.number a.size a.output a.layers a.proof a.digest ≡ summary_of b.number b.size b.output b.layers b.proof b.digest =
    ap (λ n. summary_of n a.size a.output a.layers a.proof a.digest) same_number
    ∙ ap (λ n. summary_of b.number n a.output a.layers a.proof a.digest) same_size
    ∙ ap (λ y. summary_of b.number b.size y a.layers a.proof a.digest) same_output
    ∙ ap (λ n. summary_of b.number b.size b.output n a.proof a.digest) same_layers
    ∙ ap (λ n. summary_of b.number b.size b.output b.layers n a.digest) same_length
    ∙ ap (λ d. summary_of b.number b.size b.output b.layers b.proof d) same_digest in
    whole

-- what is said of a number
data Answer (number : ℕ) : Reply → Type 0 where
  told : (summary : DemoSummary) → IsDemo number summary → Answer number (replies.Demo summary)

answer : (number : ℕ) (reply : Reply) → IsDemoAnswer number reply → Answer number reply
answer number (replies.Demo summary) is = told summary is
answer number replies.Usage is = absurd is
answer number (replies.TooLong limit) is = absurd is
answer number (replies.Case bad) is = absurd is
answer number (replies.Program kind at) is = absurd is
answer number (replies.Deep levels) is = absurd is
answer number (replies.Wide height width) is = absurd is
answer number (replies.InputCount have need) is = absurd is
answer number (replies.Outputs outputs) is = absurd is
answer number (replies.Circuit sizes) is = absurd is
answer number (replies.Proved proved) is = absurd is
answer number (replies.Served jobs) is = absurd is
answer number (replies.History history) is = absurd is
answer number (replies.OutputCount have need) is = absurd is
answer number (replies.Proof bad) is = absurd is
answer number (replies.Verdict line) is = absurd is
answer number (replies.Audit lines) is = absurd is
answer number (replies.WordCount have need) is = absurd is
answer number (replies.Session sizes) is = absurd is

one_answer : IsOne → IsOneProved → (number : ℕ) {a b : Reply} → Answer number a → Answer number b → a ≡ b
one_answer one proofs number (told s is) (told t is') = ap replies.Demo (same_summary one proofs number s t is is')

pub one_demo : IsOne → IsOneProved → (number : ℕ) (a b : Reply) → IsDemoAnswer number a → IsDemoAnswer number b → a ≡ b
one_demo one proofs number a b is is' = one_answer one proofs number (answer number a is) (answer number b is')

answer_done : (number : ℕ) {reply : Reply} → Answer number reply → status_of reply ≡ Done
answer_done number (told summary is) = refl

-- the answer to a number is a success
pub demo_done : (number : ℕ) (reply : Reply) → IsDemoAnswer number reply → status_of reply ≡ Done
demo_done number reply is = answer_done number (answer number reply is)
