-- The reply of `session` to the bytes that were read is the reply to the input.
use Rattle.std.proofs.Common.{◌≡◌, ◌≢◌, ◌<◌, ◌≤◌, ◌+◌, ℕ, List, length, Option, Some, Result, Ok, subst, sym}
use Rattle.std.specs.Prelude.{IfOk}
use Rattle.std.proofs.lemmas.Result.{IfOk-weaker}
use Rattle.arr_compile.specs.declared.refused.BadProgram.TheVariants.{At, Deep, Wide}
use Rattle.case_prove.specs.Circuits.{RefusesCircuit}
use Rattle.case_prove.specs.declared.refused.Refused.{Refused}
use Rattle.case_prove.specs.declared.refused.Refused.TheVariants as refusals
use Rattle.case_text.specs.declared.reply.Reply.{Reply}
use Rattle.case_text.specs.declared.reply.Reply.TheVariants as replies
use Rattle.session_text.specs.Sessions.{SessionContent, session_reading}
use Rattle.gkr_cmd.specs.declared.reply_error.ReplyError.{ReplyError}
use Rattle.gkr_cmd.specs.declared.status.Status.TheVariants as statuses
use Rattle.gkr_words.specs.declared.words.Command.{Command}
use Rattle.gkr_words.specs.declared.words.Command.TheVariants.{Session}
use Rattle.gkr_words.specs.Commands.{case_limit}
use Rattle.gkr_cmd.specs.Reached.{ReadsUpTo}
use Rattle.gkr_cmd.specs.Replies.{IsCommandReply, IsOfSession, IsSessionAnswer, IsSessionReply, IsWithinLimit, status_of}
use Rattle.gkr_cmd.specs.Runs.{IsInput}
use Rattle.gkr_cmd.specs.Reported.{refused_reply}
use Rattle.gkr_cmd.proofs.Replied.{longer, replied_whole}

pub session_too_long : (piece workers : ℕ) (left new : Option (List ℕ)) (bytes : List ℕ) → ReadsUpTo (case_limit + 1) left new bytes → case_limit < length bytes → (input : List ℕ) → left ≡ Some input → IsCommandReply (Some (Session piece workers)) input (replies.TooLong case_limit)
session_too_long piece workers left new bytes h long input e = longer case_limit left new bytes h long input e

pub session_replied : (piece workers : ℕ) (left new : Option (List ℕ)) (bytes : List ℕ) (result : Result Reply ReplyError) → ReadsUpTo (case_limit + 1) left new bytes → length bytes ≤ case_limit
    → IfOk result (λ reply. IsSessionReply bytes reply) → IfOk result (λ reply. (input : List ℕ) → left ≡ Some input → IsCommandReply (Some (Session piece workers)) input reply)
session_replied piece workers left new bytes result h short replied = replied_whole case_limit IsSessionReply left new bytes result h short replied

-- it doesn't refuse the words
named : (input : List ℕ) (reply : Reply) → IsSessionReply input reply → status_of reply ≢ statuses.Usage
named input replies.Usage is = absurd is
named input (replies.TooLong limit) is = λ e. cc
named input (replies.Case bad) is = λ e. cc
named input (replies.Program kind at) is = λ e. cc
named input (replies.Deep levels) is = λ e. cc
named input (replies.Wide height width) is = λ e. cc
named input (replies.InputCount have need) is = λ e. cc
named input (replies.WordCount have need) is = λ e. cc
named input (replies.Session sizes) is = λ e. cc
named input (replies.Outputs values) is = absurd is.holds
named input (replies.Circuit sizes) is = absurd is.holds
named input (replies.Proved proved) is = absurd is.holds
named input (replies.Demo summary) is = absurd is.holds
named input (replies.Served jobs) is = absurd is.holds
named input (replies.History history) is = absurd is.holds
named input (replies.OutputCount have need) is = absurd is.holds
named input (replies.Proof bad) is = absurd is.holds
named input (replies.Verdict line) is = absurd is.holds
named input (replies.Audit lines) is = absurd is.holds

pub session_named : (input : List ℕ) (result : Result Reply ReplyError) → IfOk result (λ reply. IsSessionReply input reply) → IfOk result (λ reply. status_of reply ≢ statuses.Usage)
session_named input result replied = IfOk-weaker result _ _ (λ reply is. named input reply is) replied

-- the reply is one to the input that is known
pub session_reply_of : (piece workers : ℕ) (command : Option Command) (left : Option (List ℕ)) (reply : Reply) → command ≡ Some (Session piece workers)
    → ((input : List ℕ) → IsInput command left input → IsCommandReply command input reply) → (input : List ℕ) → left ≡ Some input → IsSessionReply input reply
session_reply_of piece workers command left reply is replied input told =
    subst (λ c. IsCommandReply c input reply) is (replied input (subst (λ c. IsInput c left input) (sym is) told))

-- what is made of a refusal is the answer of `session`
pub session_refused : (refused : Refused) (s : SessionContent) → RefusesCircuit s.case refused → IfOk (refused_reply refused) (λ reply. IsSessionAnswer s reply)
session_refused (refusals.Program (At at kind)) s is = is
session_refused (refusals.Program (Deep levels)) s is = is
session_refused (refusals.Program (Wide height width)) s is = is
session_refused (refusals.Input have need) s is = is
session_refused (refusals.Output have need) s is = absurd is
session_refused (refusals.Proof bad) s is = absurd is
session_refused refusals.Memory s is = tt

of_session : (input : List ℕ) (s : SessionContent) (reply : Reply) → IsSessionAnswer s reply → IsOfSession input (λ t. IsSessionAnswer t reply) → IsSessionReply input reply
of_session input s replies.Usage is of = absurd is
of_session input s (replies.TooLong limit) is of = absurd is
of_session input s (replies.Case bad) is of = absurd is
of_session input s (replies.Program kind at) is of = of
of_session input s (replies.Deep levels) is of = of
of_session input s (replies.Wide height width) is of = of
of_session input s (replies.InputCount have need) is of = of
of_session input s (replies.WordCount have need) is of = of
of_session input s (replies.Session sizes) is of = of
of_session input s (replies.Outputs values) is of = absurd is
of_session input s (replies.Circuit sizes) is of = absurd is
of_session input s (replies.Proved proved) is of = absurd is
of_session input s (replies.Demo summary) is of = absurd is
of_session input s (replies.Served jobs) is of = absurd is
of_session input s (replies.History history) is of = absurd is
of_session input s (replies.OutputCount have need) is of = absurd is
of_session input s (replies.Proof bad) is of = absurd is
of_session input s (replies.Verdict line) is of = absurd is
of_session input s (replies.Audit lines) is of = absurd is

-- what `session` says of the case and the words that the input spells is its reply to the input
pub session_answered : (input : List ℕ) (s : SessionContent) (result : Result Reply ReplyError) → IsWithinLimit input → session_reading input ≡ Ok s
    → IfOk result (λ reply. IsSessionAnswer s reply) → IfOk result (λ reply. IsSessionReply input reply)
session_answered input s result within read said =
    IfOk-weaker result _ _ (λ reply is. of_session input s reply is (record { within = within; content = s; read = read; holds = is })) said
