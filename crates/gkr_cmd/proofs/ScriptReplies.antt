-- An input has at most one reply of `serve`, and a script is answered.
use Rattle.std.proofs.Common.{◌≡◌, ◌≤◌, ℕ, suc, List, [], ◌∷◌, length, Result, Ok, Err, Some, ap, ap₂, refl, sym, subst, ◌∙◌, arith}
use Rattle.std.specs.List.{slice_get}
use Rattle.proof_two.specs.declared.kind.ProofKind.TheVariants.{ByLines}
use Rattle.proof_two.specs.declared.kind.ProofVersion.TheVariants.{One}
use Rattle.case_prove.specs.Answers.{IsProveAnswer, is_proved_case}
use Rattle.case_text.specs.Content.{Content}
use Rattle.case_text.specs.Replies.{reply_text}
use Rattle.case_text.specs.Served.{Served}
use Rattle.case_text.specs.declared.case.refusal.BadCase.{BadCase}
use Rattle.case_text.specs.declared.reply.Reply.{Reply}
use Rattle.case_text.specs.declared.reply.Reply.TheVariants as replies
use Rattle.script_text.specs.declared.script.ScriptJob.{ScriptJob}
use Rattle.script_text.specs.Scripts.{script_reading}
use Rattle.script_prove.specs.Served.{AreServed, IsServed}
use Rattle.gkr_cmd.specs.declared.status.Status.TheVariants.{Done}
use Rattle.gkr_words.specs.Commands.{script_limit}
use Rattle.gkr_cmd.specs.Replies.{IsNoScript, IsScriptReply, IsServedScript, IsTooLong, status_of}

-- what is said of an input
pub data Found (input : List ℕ) : Reply → Type 0 where
  long : (limit : ℕ) → IsTooLong script_limit input limit → Found input (replies.TooLong limit)
  no_script : (bad : BadCase) → IsNoScript input bad → Found input (replies.Case bad)
  served : (jobs : List Served) → IsServedScript input jobs → Found input (replies.Served jobs)

pub found : (input : List ℕ) (reply : Reply) → IsScriptReply input reply → Found input reply
found input (replies.TooLong limit) is = long limit is
found input (replies.Case bad) is = no_script bad is
found input (replies.Served jobs) is = served jobs is
found input (replies.History history) is = absurd is
found input replies.Usage is = absurd is
found input (replies.Outputs values) is = absurd is
found input (replies.Program kind at) is = absurd is
found input (replies.Deep levels) is = absurd is
found input (replies.Wide height width) is = absurd is
found input (replies.InputCount have need) is = absurd is
found input (replies.Circuit sizes) is = absurd is
found input (replies.Proved proved) is = absurd is
found input (replies.Demo summary) is = absurd is
found input (replies.OutputCount have need) is = absurd is
found input (replies.Proof bad) is = absurd is
found input (replies.Verdict line) is = absurd is
found input (replies.Audit lines) is = absurd is
found input (replies.WordCount have need) is = absurd is
found input (replies.Session sizes) is = absurd is

same_script : (r : Result (List ScriptJob) BadCase) (a b : List ScriptJob) → r ≡ Ok a → r ≡ Ok b → a ≡ b
same_script r a b is is' = cc

same_stop : (r : Result (List ScriptJob) BadCase) (a b : BadCase) → r ≡ Err a → r ≡ Err b → a ≡ b
same_stop r a b is is' = cc

script_or_not : (r : Result (List ScriptJob) BadCase) (a : List ScriptJob) (bad : BadCase) → r ≡ Ok a → r ≡ Err bad → ⊥
script_or_not r a bad is is' = cc

pub long_or_not : (input : List ℕ) (limit : ℕ) → IsTooLong script_limit input limit → length input ≤ script_limit → ⊥
long_or_not input limit is within = let longer = is.longer in omega arith

-- a job has one reply, where each case has one
one_reply : ((c : Content) (a b : Reply) → IsProveAnswer (ByLines One) c a → IsProveAnswer (ByLines One) c b → a ≡ b) → (job : ScriptJob) (x y : Served) → IsServed job x → IsServed job y → x ≡ y
one_reply one job x y is is' =
    let same = one job.case is.answered.reply is'.answered.reply is.answered.is_answer is'.answered.is_answer in
    let client : x.client ≡ y.client = is.client ∙ sym is'.client in
    let proved : x.proved ≡ y.proved = is.answered.says ∙ ap is_proved_case same ∙ sym is'.answered.says in
    let text : x.text ≡ y.text = is.answered.is_text ∙ ap reply_text same ∙ sym is'.answered.is_text in
    λ k. record { client = client k; proved = proved k; text = text k }

abbrev Each : List ScriptJob → List Served → Type 0
Each script xs = (k : ℕ) (job : ScriptJob) (reply : Served) → slice_get script k ≡ Some job → slice_get xs k ≡ Some reply → IsServed job reply

one_served : ((c : Content) (a b : Reply) → IsProveAnswer (ByLines One) c a → IsProveAnswer (ByLines One) c b → a ≡ b) → (script : List ScriptJob) (xs ys : List Served) → length xs ≡ length script → length ys ≡ length script
    → Each script xs → Each script ys → xs ≡ ys
one_served one [] [] [] m n f g = refl
one_served one [] (x ∷ xs) ys m n f g = absurd (omega arith)
one_served one [] [] (y ∷ ys) m n f g = absurd (omega arith)
one_served one (job ∷ script) [] ys m n f g = absurd (omega arith)
one_served one (job ∷ script) (x ∷ xs) [] m n f g = absurd (omega arith)
one_served one (job ∷ script) (x ∷ xs) (y ∷ ys) m n f g =
    ap₂ (λ (h : Served) (t : List Served). h ∷ t) (one_reply one job x y (f 0 job x refl refl) (g 0 job y refl refl))
    (one_served one script xs ys (omega arith) (omega arith) (λ k j s a b. f (suc k) j s a b) (λ k j s a b. g (suc k) j s a b))

one_found : ((c : Content) (a b : Reply) → IsProveAnswer (ByLines One) c a → IsProveAnswer (ByLines One) c b → a ≡ b) → (input : List ℕ) {a b : Reply} → Found input a → Found input b → a ≡ b
one_found one input (long limit is) (long limit' is') = ap replies.TooLong (is.limit_is ∙ sym is'.limit_is)
one_found one input (long limit is) (no_script bad is') = absurd (long_or_not input limit is is'.within)
one_found one input (long limit is) (served jobs is') = absurd (long_or_not input limit is is'.within)
one_found one input (no_script bad is) (long limit is') = absurd (long_or_not input limit is' is.within)
one_found one input (no_script bad is) (no_script bad' is') = ap replies.Case (same_stop (script_reading input) bad bad' is.read is'.read)
one_found one input (no_script bad is) (served jobs is') = absurd (script_or_not (script_reading input) is'.script bad is'.read is.read)
one_found one input (served jobs is) (long limit is') = absurd (long_or_not input limit is' is.within)
one_found one input (served jobs is) (no_script bad is') = absurd (script_or_not (script_reading input) is.script bad is.read is'.read)
one_found one input (served jobs is) (served jobs' is') =
    let same = same_script (script_reading input) is'.script is.script is'.read is.read in
    let other : AreServed is.script jobs' = subst (λ script. AreServed script jobs') same is'.replies in
    ap replies.Served (one_served one is.script jobs jobs' is.replies.as_many other.as_many is.replies.each other.each)

pub one_script : ((c : Content) (a b : Reply) → IsProveAnswer (ByLines One) c a → IsProveAnswer (ByLines One) c b → a ≡ b) → (input : List ℕ) (a b : Reply) → IsScriptReply input a → IsScriptReply input b → a ≡ b
one_script one input a b is is' = one_found one input (found input a is) (found input b is')

-- a script is answered
pub record Serves (script : List ScriptJob) (reply : Reply) : Type 0 where
  pub jobs : List Served
  pub replies_are : AreServed script jobs
  pub reply_is : reply ≡ replies.Served jobs
  pub done : status_of reply ≡ Done

found_serves : (input : List ℕ) {reply : Reply} → Found input reply → (script : List ScriptJob) → script_reading input ≡ Ok script → length input ≤ script_limit → Serves script reply
found_serves input (long limit is) script read within = absurd (long_or_not input limit is within)
found_serves input (no_script bad is) script read within = absurd (script_or_not (script_reading input) script bad read is.read)
found_serves input (served jobs is) script read within =
    record { jobs = jobs; replies_are = subst (λ s. AreServed s jobs) (same_script (script_reading input) is.script script is.read read) is.replies; reply_is = refl; done = refl }

pub serves : (input : List ℕ) (reply : Reply) → IsScriptReply input reply → (script : List ScriptJob) → script_reading input ≡ Ok script → length input ≤ script_limit → Serves script reply
serves input reply is script read within = found_serves input (found input reply is) script read within
