-- A script whose jobs may be withdrawn is answered with a history.
use Rattle.std.proofs.Common.{◌≡◌, ◌≤◌, ℕ, List, length, Result, Ok, Err, refl, subst}
use Rattle.case_text.specs.Histories.{History}
use Rattle.case_text.specs.declared.case.refusal.BadCase.{BadCase}
use Rattle.case_text.specs.declared.reply.Reply.{Reply}
use Rattle.case_text.specs.declared.reply.Reply.TheVariants as replies
use Rattle.script_text.specs.declared.script.MarkedJob.{MarkedJob}
use Rattle.script_text.specs.Scripts.{history_script_reading}
use Rattle.script_prove.specs.Served.{IsServedHistory}
use Rattle.gkr_cmd.specs.declared.status.Status.TheVariants.{Done}
use Rattle.gkr_words.specs.Commands.{script_limit}
use Rattle.gkr_cmd.specs.Replies.{IsHistoryReply, status_of}
use Rattle.gkr_cmd.proofs.ScriptReplies.{long_or_not}

-- the reply reports such a history
pub record Tells (script : List MarkedJob) (reply : Reply) : Type 0 where
  pub history : History
  pub reported : IsServedHistory script history.jobs history.lines
  pub reply_is : reply ≡ replies.History history
  pub done : status_of reply ≡ Done

same_script : (r : Result (List MarkedJob) BadCase) (a b : List MarkedJob) → r ≡ Ok a → r ≡ Ok b → a ≡ b
same_script r a b is is' = cc

script_or_not : (r : Result (List MarkedJob) BadCase) (a : List MarkedJob) (bad : BadCase) → r ≡ Ok a → r ≡ Err bad → ⊥
script_or_not r a bad is is' = cc

pub tells : (input : List ℕ) (reply : Reply) → IsHistoryReply input reply → (script : List MarkedJob) → history_script_reading input ≡ Ok script → length input ≤ script_limit → Tells script reply
tells input (replies.TooLong limit) is script read within = absurd (long_or_not input limit is within)
tells input (replies.Case bad) is script read within = absurd (script_or_not (history_script_reading input) script bad read is.read)
tells input (replies.History history) is script read within =
    record { history = history; reported = subst (λ s. IsServedHistory s history.jobs history.lines) (same_script (history_script_reading input) is.script script is.read read) is.reported; reply_is = refl; done = refl }
tells input (replies.Served jobs) is script read within = absurd is
tells input replies.Usage is script read within = absurd is
tells input (replies.Outputs values) is script read within = absurd is
tells input (replies.Program kind at) is script read within = absurd is
tells input (replies.Deep levels) is script read within = absurd is
tells input (replies.Wide height width) is script read within = absurd is
tells input (replies.InputCount have need) is script read within = absurd is
tells input (replies.Circuit sizes) is script read within = absurd is
tells input (replies.Proved proved) is script read within = absurd is
tells input (replies.Demo summary) is script read within = absurd is
tells input (replies.OutputCount have need) is script read within = absurd is
tells input (replies.Proof bad) is script read within = absurd is
tells input (replies.Verdict line) is script read within = absurd is
tells input (replies.Audit lines) is script read within = absurd is
tells input (replies.WordCount have need) is script read within = absurd is
tells input (replies.Session sizes) is script read within = absurd is
