-- The reply to the bytes that were read is the reply to the input.
use Rattle.std.proofs.Common.{◌≡◌, ◌≢◌, ℕ, [], ◌+◌, ◌≤◌, ◌<◌, List, length, take, subst, Option, Some, None, Result, Ok, refl, sym, ap, ◌∙◌, arith}
use Rattle.std.specs.Prelude.{IfOk, IsSome}
use Rattle.std.proofs.lemmas.List.{append-nil, length-take, take_all}
use Rattle.std.proofs.lemmas.Result.{IfOk-weaker}
use Rattle.arr_compile.specs.declared.refused.BadProgram.TheVariants.{At, Deep, Wide}
use Rattle.case_prove.specs.declared.refused.Refused.{Refused}
use Rattle.case_prove.specs.declared.refused.Refused.TheVariants as refusals
use Rattle.case_prove.specs.Circuits.{RefusesCircuit}
use Rattle.case_prove.specs.Evaluated.{Refuses}
use Rattle.audit_core.specs.declared.report.Audit.{Audit as AuditFound}
use Rattle.case_prove.specs.Audited.{IsAudited, RefusesAudit}
use Rattle.case_prove.specs.Converted.{FailsSum, RefusesConvert}
use Rattle.gkr_verify.specs.declared.sums.LayerSum.{LayerSum}
use Rattle.proof_two.specs.declared.kind.ProofVersion.{ProofVersion}
use Rattle.proof_two.specs.declared.kind.ProofVersion.TheVariants.{Two}
use Rattle.case_prove.specs.Verified.{IsVerdictOn, RefusesVerify}
use Rattle.case_text.specs.Forms.{Allows}
use Rattle.gkr_layers.specs.declared.verdict.Verdict.{Verdict}
use Rattle.case_text.specs.declared.reply.verdict.AuditLines.{AuditLines}
use Rattle.case_text.specs.declared.reply.verdict.VerdictLine.{VerdictLine}
use Rattle.case_text.specs.declared.reply.verdict.VerdictLine.TheVariants as reported
use Rattle.proof_two.specs.declared.kind.ProofKind.{ProofKind}
use Rattle.case_text.specs.Content.{Content}
use Rattle.case_text.specs.Reading.{reading}
use Rattle.case_text.specs.declared.case.form.Form.{Form}
use Rattle.case_text.specs.declared.case.form.Form.TheVariants.{Full}
use Rattle.case_text.specs.declared.reply.Reply.{Reply}
use Rattle.case_text.specs.declared.reply.Reply.TheVariants as replies
use Rattle.gkr_cmd.specs.declared.reply_error.ReplyError.{ReplyError}
use Rattle.gkr_cmd.specs.declared.status.Status.{Status}
use Rattle.gkr_cmd.specs.declared.status.Status.TheVariants as statuses
use Rattle.gkr_words.specs.declared.words.Command.{Command}
use Rattle.gkr_words.specs.declared.words.Command.TheVariants.{OfCase, Demo, Serve, ServeHistory, Session}
use Rattle.gkr_words.specs.declared.words.CaseCommand.{CaseCommand}
use Rattle.gkr_words.specs.declared.words.CaseCommand.TheVariants.{Eval, Circuit, Prove, Verify, Audit, Convert}
use Rattle.io_edge.specs.Written.{Grows}
use Rattle.gkr_cmd.specs.Reached.{ReadsUpTo, WritesPrefix}
use Rattle.gkr_cmd.specs.Replies.{IsWithinLimit, IsTooLong, IsCommandReply, IsHistoryReply, IsScriptReply, IsCaseReply, IsAnswer, IsAuditAnswer, IsCircuitAnswer, IsConvertAnswer, IsDemoAnswer, IsEvalAnswer, IsVerifyAnswer, IsOfCase, form_of, status_of}
use Rattle.gkr_cmd.specs.Reported.{audit_lines, refused_reply, sum_line, verdict_line}
use Rattle.gkr_words.specs.Commands.{IsService, case_limit, input_limit, script_limit}
use Rattle.case_prove.specs.Answers.{IsProveAnswer}
use Rattle.gkr_cmd.specs.Runs.{IsInput, IsReplied, WritesNoMore, WritesReplyPrefix}

front_of : (most : ℕ) (left new : Option (List ℕ)) (bytes input : List ℕ) → ReadsUpTo most left new bytes → left ≡ Some input → bytes ≡ take most input
front_of most None new bytes input h e = absurd cc
front_of most (Some told) new bytes input h e = let same : told ≡ input = cc in h.0 ∙ ap (take most) same

pub longer : (most : ℕ) (left new : Option (List ℕ)) (bytes : List ℕ) → ReadsUpTo (most + 1) left new bytes → most < length bytes → (input : List ℕ) → left ≡ Some input → IsTooLong most input most
longer most left new bytes h long input e =
    let prefix = front_of (most + 1) left new bytes input h e in
    record { limit_is = refl; longer = omega (arith, ap length prefix, length-take (most + 1) input) }

pub too_long : (command : CaseCommand) (left new : Option (List ℕ)) (bytes : List ℕ) → ReadsUpTo (case_limit + 1) left new bytes → case_limit < length bytes → (input : List ℕ) → left ≡ Some input → IsCommandReply (Some (OfCase command)) input (replies.TooLong case_limit)
too_long command left new bytes h long input e = longer case_limit left new bytes h long input e

-- the input of a service is known from its source
service_told : (command : Option Command) (left : Option (List ℕ)) (input : List ℕ) → IsService command → IsInput command left input → left ≡ Some input
service_told (Some (Serve workers provers clients)) left input service told = told
service_told (Some (ServeHistory workers provers clients)) left input service told = told
service_told (Some (OfCase command)) left input service told = absurd service
service_told (Some (Demo number workers)) left input service told = absurd service
service_told (Some (Session piece workers)) left input service told = absurd service
service_told None left input service told = absurd service

pub service_too_long : (command : Option Command) (left new : Option (List ℕ)) (bytes : List ℕ) → IsService command → ReadsUpTo (script_limit + 1) left new bytes → script_limit < length bytes → (input : List ℕ) → IsInput command left input → IsCommandReply command input (replies.TooLong script_limit)
service_too_long (Some (Serve workers provers clients)) left new bytes service h long input told = longer script_limit left new bytes h long input told
service_too_long (Some (ServeHistory workers provers clients)) left new bytes service h long input told = longer script_limit left new bytes h long input told
service_too_long (Some (OfCase command)) left new bytes service h long input told = absurd service
service_too_long (Some (Demo number workers)) left new bytes service h long input told = absurd service
service_too_long (Some (Session piece workers)) left new bytes service h long input told = absurd service
service_too_long None left new bytes service h long input told = absurd service

whole : (most : ℕ) (left new : Option (List ℕ)) (bytes : List ℕ) → ReadsUpTo (most + 1) left new bytes → length bytes ≤ most → (input : List ℕ) → left ≡ Some input → bytes ≡ input
whole most left new bytes h short input e =
    let prefix = front_of (most + 1) left new bytes input h e in
    let within : length input ≤ most = omega (arith, ap length prefix, length-take (most + 1) input) in
    prefix ∙ take_all (most + 1) input (omega arith)

-- the reply to what was read is the reply to the input
pub replied_whole : (most : ℕ) (P : List ℕ → Reply → Type 0) (left new : Option (List ℕ)) (bytes : List ℕ) (result : Result Reply ReplyError) → ReadsUpTo (most + 1) left new bytes → length bytes ≤ most
    → IfOk result (λ reply. P bytes reply) → IfOk result (λ reply. (input : List ℕ) → left ≡ Some input → P input reply)
replied_whole most P left new bytes result h short replied =
    IfOk-weaker result _ _ (λ reply is input told. subst (λ read. P read reply) (whole most left new bytes h short input told) is) replied

pub command_replied : (command : CaseCommand) (left new : Option (List ℕ)) (bytes : List ℕ) (result : Result Reply ReplyError) → ReadsUpTo (case_limit + 1) left new bytes → length bytes ≤ case_limit
    → IfOk result (λ reply. IsCommandReply (Some (OfCase command)) bytes reply) → IfOk result (λ reply. (input : List ℕ) → left ≡ Some input → IsCommandReply (Some (OfCase command)) input reply)
command_replied command left new bytes result h short replied =
    replied_whole case_limit (λ read reply. IsCommandReply (Some (OfCase command)) read reply) left new bytes result h short replied

pub service_replied : (command : Option Command) (left new : Option (List ℕ)) (bytes : List ℕ) (result : Result Reply ReplyError) → IsService command → ReadsUpTo (script_limit + 1) left new bytes → length bytes ≤ script_limit
    → IfOk result (λ reply. IsCommandReply command bytes reply) → IfOk result (λ reply. (input : List ℕ) → IsInput command left input → IsCommandReply command input reply)
service_replied command left new bytes result service h short replied =
    IfOk-weaker result _ _ (λ reply is input told. is input (service_told command left input service told))
    (replied_whole script_limit (λ read reply. IsCommandReply command read reply) left new bytes result h short replied)

-- the reply of `serve` doesn't refuse the words
script_named : (input : List ℕ) (reply : Reply) → IsScriptReply input reply → status_of reply ≢ statuses.Usage
script_named input (replies.Outputs values) is = absurd is
script_named input replies.Usage is = absurd is
script_named input (replies.TooLong limit) is = λ e. cc
script_named input (replies.Case bad) is = λ e. cc
script_named input (replies.Program kind at) is = absurd is
script_named input (replies.Deep levels) is = absurd is
script_named input (replies.Wide height width) is = absurd is
script_named input (replies.InputCount have need) is = absurd is
script_named input (replies.Circuit sizes) is = absurd is
script_named input (replies.Proved proved) is = absurd is
script_named input (replies.Demo summary) is = absurd is
script_named input (replies.Served served) is = λ e. cc
script_named input (replies.History history) is = absurd is
script_named input (replies.OutputCount have need) is = absurd is
script_named input (replies.Proof bad) is = absurd is
script_named input (replies.Verdict line) is = absurd is
script_named input (replies.Audit lines) is = absurd is
script_named input (replies.WordCount have need) is = absurd is
script_named input (replies.Session sizes) is = absurd is

-- the reply of `serve --history` doesn't refuse the words
history_named : (input : List ℕ) (reply : Reply) → IsHistoryReply input reply → status_of reply ≢ statuses.Usage
history_named input (replies.Outputs values) is = absurd is
history_named input replies.Usage is = absurd is
history_named input (replies.TooLong limit) is = λ e. cc
history_named input (replies.Case bad) is = λ e. cc
history_named input (replies.Program kind at) is = absurd is
history_named input (replies.Deep levels) is = absurd is
history_named input (replies.Wide height width) is = absurd is
history_named input (replies.InputCount have need) is = absurd is
history_named input (replies.Circuit sizes) is = absurd is
history_named input (replies.Proved proved) is = absurd is
history_named input (replies.Demo summary) is = absurd is
history_named input (replies.Served served) is = absurd is
history_named input (replies.History history) is = λ e. cc
history_named input (replies.OutputCount have need) is = absurd is
history_named input (replies.Proof bad) is = absurd is
history_named input (replies.Verdict line) is = absurd is
history_named input (replies.Audit lines) is = absurd is
history_named input (replies.WordCount have need) is = absurd is
history_named input (replies.Session sizes) is = absurd is

-- nor does that of either
pub service_named : (command : Option Command) (input : List ℕ) (result : Result Reply ReplyError) → IsService command → IfOk result (λ reply. IsCommandReply command input reply) → IfOk result (λ reply. status_of reply ≢ statuses.Usage)
service_named (Some (Serve workers provers clients)) input result service replied = IfOk-weaker result _ _ (λ reply is. script_named input reply is) replied
service_named (Some (ServeHistory workers provers clients)) input result service replied = IfOk-weaker result _ _ (λ reply is. history_named input reply is) replied
service_named (Some (OfCase command)) input result service replied = absurd service
service_named (Some (Demo number workers)) input result service replied = absurd service
service_named (Some (Session piece workers)) input result service replied = absurd service
service_named None input result service replied = absurd service

-- a service reads a script
pub service_limit : (command : Option Command) → IsService command → input_limit command ≡ script_limit
service_limit (Some (Serve workers provers clients)) service = refl
service_limit (Some (ServeHistory workers provers clients)) service = refl
service_limit (Some (OfCase command)) service = absurd service
service_limit (Some (Demo number workers)) service = absurd service
service_limit (Some (Session piece workers)) service = absurd service
service_limit None service = absurd service

-- a named command's input is known from its source
pub input_of : (named : CaseCommand) (command : Option Command) (left : Option (List ℕ)) (input : List ℕ) → command ≡ Some (OfCase named) → left ≡ Some input → IsInput command left input
input_of named (Some (Demo number workers)) left input is told = absurd cc
input_of named (Some (Serve workers provers clients)) left input is told = absurd cc
input_of named (Some (ServeHistory workers provers clients)) left input is told = absurd cc
input_of named (Some (Session piece workers)) left input is told = absurd cc
input_of named None left input is told = absurd cc
input_of named (Some (OfCase command)) left input is told = told

-- the law on the replies of a command, where the words name it
pub done_of : (form : Form) (named : CaseCommand) (P : Content → Type 0) → ((input : List ℕ) (reply : Reply) → IsCommandReply (Some (OfCase named)) input reply → IsOfCase form input P → status_of reply ≡ statuses.Done)
    → (command : Option Command) (input : List ℕ) (reply : Reply) → command ≡ Some (OfCase named) → IsCommandReply command input reply → IsOfCase form input P → status_of reply ≡ statuses.Done
done_of form named P law command input reply is replied case = law input reply (subst (λ c. IsCommandReply c input reply) is replied) case

-- the same for `demo`, whose reply is one to any input
pub demo_done_of : (number workers : ℕ) → ((reply : Reply) → IsDemoAnswer number reply → status_of reply ≡ statuses.Done)
    → (command : Option Command) (left : Option (List ℕ)) (reply : Reply) → command ≡ Some (Demo number workers) → ((input : List ℕ) → IsInput command left input → IsCommandReply command input reply)
    → status_of reply ≡ statuses.Done
demo_done_of number workers law command left reply is replied =
    law reply (subst (λ c. IsCommandReply c [] reply) is (replied [] (subst (λ c. IsInput c left []) (sym is) tt)))

-- the reply of `serve` is one to the script that is known
pub script_reply_of : (workers provers clients : ℕ) (command : Option Command) (left : Option (List ℕ)) (reply : Reply) → command ≡ Some (Serve workers provers clients)
    → ((input : List ℕ) → IsInput command left input → IsCommandReply command input reply) → (input : List ℕ) → left ≡ Some input → IsScriptReply input reply
script_reply_of workers provers clients command left reply is replied input told =
    subst (λ c. IsCommandReply c input reply) is (replied input (subst (λ c. IsInput c left input) (sym is) told))

-- the reply of `serve --history` is one to the script that is known
pub history_reply_of : (workers provers clients : ℕ) (command : Option Command) (left : Option (List ℕ)) (reply : Reply) → command ≡ Some (ServeHistory workers provers clients)
    → ((input : List ℕ) → IsInput command left input → IsCommandReply command input reply) → (input : List ℕ) → left ≡ Some input → IsHistoryReply input reply
history_reply_of workers provers clients command left reply is replied input told =
    subst (λ c. IsCommandReply c input reply) is (replied input (subst (λ c. IsInput c left input) (sym is) told))

-- the status of a reply is none of a run that wrote none
pub replied : (reply : Reply) → IsReplied (status_of reply)
replied (replies.Outputs values) = tt
replied replies.Usage = tt
replied (replies.TooLong limit) = tt
replied (replies.Case bad) = tt
replied (replies.Program kind at) = tt
replied (replies.Deep levels) = tt
replied (replies.Wide height width) = tt
replied (replies.InputCount have need) = tt
replied (replies.Circuit sizes) = tt
replied (replies.Proved proved) = tt
replied (replies.Demo summary) = tt
replied (replies.Served jobs) = tt
replied (replies.History history) = tt
replied (replies.OutputCount have need) = tt
replied (replies.Proof bad) = tt
replied (replies.Verdict reported.Accepted) = tt
replied (replies.Verdict (reported.Sum layer round had claim)) = tt
replied (replies.Verdict (reported.End layer had want)) = tt
replied (replies.Verdict (reported.Input had want)) = tt
replied (replies.Audit lines) = tt
replied (replies.WordCount have need) = tt
replied (replies.Session sizes) = tt

-- a reply to an input doesn't refuse the words
pub named : (form : Form) (answers : Content → Reply → Type 0) (input : List ℕ) (reply : Reply) → IsCaseReply form answers input reply → status_of reply ≢ statuses.Usage
named form answers input (replies.Outputs values) is = λ e. cc
named form answers input replies.Usage is = absurd is
named form answers input (replies.TooLong limit) is = λ e. cc
named form answers input (replies.Case bad) is = λ e. cc
named form answers input (replies.Program kind at) is = λ e. cc
named form answers input (replies.Deep levels) is = λ e. cc
named form answers input (replies.Wide height width) is = λ e. cc
named form answers input (replies.InputCount have need) is = λ e. cc
named form answers input (replies.Circuit sizes) is = λ e. cc
named form answers input (replies.Proved proved) is = λ e. cc
named form answers input (replies.Demo summary) is = λ e. cc
named form answers input (replies.Served jobs) is = λ e. cc
named form answers input (replies.History history) is = λ e. cc
named form answers input (replies.OutputCount have need) is = λ e. cc
named form answers input (replies.Proof bad) is = λ e. cc
named form answers input (replies.Verdict reported.Accepted) is = λ e. cc
named form answers input (replies.Verdict (reported.Sum layer round had claim)) is = λ e. cc
named form answers input (replies.Verdict (reported.End layer had want)) is = λ e. cc
named form answers input (replies.Verdict (reported.Input had want)) is = λ e. cc
named form answers input (replies.Audit lines) is = λ e. cc
named form answers input (replies.WordCount have need) is = λ e. cc
named form answers input (replies.Session sizes) is = λ e. cc

-- what is made of a refusal of `eval` is its answer
pub eval_refused : (refused : Refused) (c : Content) → Refuses c refused → IfOk (refused_reply refused) (λ reply. IsEvalAnswer c reply)
eval_refused (refusals.Program (At at kind)) c is = is
eval_refused (refusals.Program (Deep levels)) c is = absurd is
eval_refused (refusals.Program (Wide height width)) c is = absurd is
eval_refused (refusals.Input have need) c is = is
eval_refused (refusals.Output have need) c is = absurd is
eval_refused (refusals.Proof bad) c is = absurd is
eval_refused refusals.Memory c is = tt

-- what is made of a refusal of `circuit` is its answer
pub circuit_refused : (refused : Refused) (c : Content) → RefusesCircuit c refused → IfOk (refused_reply refused) (λ reply. IsCircuitAnswer c reply)
circuit_refused (refusals.Program (At at kind)) c is = is
circuit_refused (refusals.Program (Deep levels)) c is = is
circuit_refused (refusals.Program (Wide height width)) c is = is
circuit_refused (refusals.Input have need) c is = is
circuit_refused (refusals.Output have need) c is = absurd is
circuit_refused (refusals.Proof bad) c is = absurd is
circuit_refused refusals.Memory c is = tt

-- what is made of a refusal of `prove` is its answer
pub prove_refused : (kind : ProofKind) (refused : Refused) (c : Content) → RefusesCircuit c refused → IfOk (refused_reply refused) (λ reply. IsProveAnswer kind c reply)
prove_refused kind (refusals.Program (At at why)) c is = is
prove_refused kind (refusals.Program (Deep levels)) c is = is
prove_refused kind (refusals.Program (Wide height width)) c is = is
prove_refused kind (refusals.Input have need) c is = is
prove_refused kind (refusals.Output have need) c is = absurd is
prove_refused kind (refusals.Proof bad) c is = absurd is
prove_refused kind refusals.Memory c is = tt

-- the answer of `demo` doesn't refuse the words
pub demo_named : (number : ℕ) (reply : Reply) → IsDemoAnswer number reply → status_of reply ≢ statuses.Usage
demo_named number (replies.Outputs values) is = absurd is
demo_named number replies.Usage is = absurd is
demo_named number (replies.TooLong limit) is = absurd is
demo_named number (replies.Case bad) is = absurd is
demo_named number (replies.Program kind at) is = absurd is
demo_named number (replies.Deep levels) is = absurd is
demo_named number (replies.Wide height width) is = absurd is
demo_named number (replies.InputCount have need) is = absurd is
demo_named number (replies.Circuit sizes) is = absurd is
demo_named number (replies.Proved proved) is = absurd is
demo_named number (replies.Demo summary) is = λ e. cc
demo_named number (replies.Served jobs) is = absurd is
demo_named number (replies.History history) is = absurd is
demo_named number (replies.OutputCount have need) is = absurd is
demo_named number (replies.Proof bad) is = absurd is
demo_named number (replies.Verdict line) is = absurd is
demo_named number (replies.Audit lines) is = absurd is
demo_named number (replies.WordCount have need) is = absurd is
demo_named number (replies.Session sizes) is = absurd is

-- what is made of a refusal of `verify` is its answer
pub verify_refused : (refused : Refused) (c : Content) → RefusesVerify c refused → IfOk (refused_reply refused) (λ reply. IsVerifyAnswer c reply)
verify_refused (refusals.Program (At at kind)) c is = is
verify_refused (refusals.Program (Deep levels)) c is = is
verify_refused (refusals.Program (Wide height width)) c is = is
verify_refused (refusals.Input have need) c is = is
verify_refused (refusals.Output have need) c is = is
verify_refused (refusals.Proof bad) c is = is
verify_refused refusals.Memory c is = tt

-- what is made of a verdict is the answer of `verify`
pub verdict_replied : (verdict : Verdict) (line : VerdictLine) (c : Content) → IsVerdictOn c verdict → line ≡ verdict_line verdict → IsVerifyAnswer c (replies.Verdict line)
verdict_replied verdict line c is same = (verdict, is, same)

-- what is made of a refusal of `convert` is its answer
pub convert_refused : (version : ProofVersion) (refused : Refused) (c : Content) → RefusesConvert c refused → IfOk (refused_reply refused) (λ reply. IsConvertAnswer version c reply)
convert_refused version (refusals.Program (At at kind)) c is = is
convert_refused version (refusals.Program (Deep levels)) c is = is
convert_refused version (refusals.Program (Wide height width)) c is = is
convert_refused version (refusals.Input have need) c is = is
convert_refused version (refusals.Output have need) c is = is
convert_refused version (refusals.Proof bad) c is = is
convert_refused version refusals.Memory c is = tt

-- what is made of a sum that fails is the answer of `convert`
pub sum_replied : (version : ProofVersion) (fault : LayerSum) (line : VerdictLine) (c : Content) → (version ≡ Two) × FailsSum c fault → line ≡ sum_line fault → IsConvertAnswer version c (replies.Verdict line)
sum_replied version fault line c is same = (fault, is.0, is.1, same)

-- what is made of a refusal of `audit` is its answer
pub audit_refused : (refused : Refused) (c : Content) → RefusesAudit c refused → IfOk (refused_reply refused) (λ reply. IsAuditAnswer c reply)
audit_refused (refusals.Program (At at kind)) c is = is
audit_refused (refusals.Program (Deep levels)) c is = is
audit_refused (refusals.Program (Wide height width)) c is = is
audit_refused (refusals.Input have need) c is = is
audit_refused (refusals.Output have need) c is = is
audit_refused (refusals.Proof bad) c is = is
audit_refused refusals.Memory c is = tt

-- what is made of an audit is the answer of `audit`
pub audit_replied : (audit : AuditFound) (lines : AuditLines) (c : Content) → IsAudited c audit → lines ≡ audit_lines audit → IsAuditAnswer c (replies.Audit lines)
audit_replied audit lines c is same = (audit, is, same)

-- no command says of a case what is said of words or of an input
abbrev IsOfACase : Reply → Type 0
IsOfACase replies.Usage = ⊥
IsOfACase (replies.TooLong limit) = ⊥
IsOfACase (replies.Case bad) = ⊥
IsOfACase reply = Unit {0}

answers_a_case : (command : CaseCommand) (c : Content) (reply : Reply) → IsAnswer command c reply → IsOfACase reply
answers_a_case command c (replies.Outputs values) is = tt
answers_a_case Eval c replies.Usage is = absurd is
answers_a_case Circuit c replies.Usage is = absurd is
answers_a_case (Prove workers kind) c replies.Usage is = absurd is
answers_a_case Verify c replies.Usage is = absurd is
answers_a_case Audit c replies.Usage is = absurd is
answers_a_case (Convert version) c replies.Usage is = absurd is
answers_a_case Eval c (replies.TooLong limit) is = absurd is
answers_a_case Circuit c (replies.TooLong limit) is = absurd is
answers_a_case (Prove workers kind) c (replies.TooLong limit) is = absurd is
answers_a_case Verify c (replies.TooLong limit) is = absurd is
answers_a_case Audit c (replies.TooLong limit) is = absurd is
answers_a_case (Convert version) c (replies.TooLong limit) is = absurd is
answers_a_case Eval c (replies.Case bad) is = absurd is
answers_a_case Circuit c (replies.Case bad) is = absurd is
answers_a_case (Prove workers kind) c (replies.Case bad) is = absurd is
answers_a_case Verify c (replies.Case bad) is = absurd is
answers_a_case Audit c (replies.Case bad) is = absurd is
answers_a_case (Convert version) c (replies.Case bad) is = absurd is
answers_a_case command c (replies.Program kind at) is = tt
answers_a_case command c (replies.Deep levels) is = tt
answers_a_case command c (replies.Wide height width) is = tt
answers_a_case command c (replies.InputCount have need) is = tt
answers_a_case command c (replies.Circuit sizes) is = tt
answers_a_case command c (replies.Proved proved) is = tt
answers_a_case command c (replies.Demo summary) is = tt
answers_a_case command c (replies.Served jobs) is = tt
answers_a_case command c (replies.History history) is = tt
answers_a_case command c (replies.OutputCount have need) is = tt
answers_a_case command c (replies.Proof bad) is = tt
answers_a_case command c (replies.Verdict line) is = tt
answers_a_case command c (replies.Audit lines) is = tt
answers_a_case command c (replies.WordCount have need) is = tt
answers_a_case command c (replies.Session sizes) is = tt

of_case : (form : Form) (answers : Content → Reply → Type 0) (input : List ℕ) (reply : Reply) → IsOfACase reply → IsOfCase form input (λ c. answers c reply) → IsCaseReply form answers input reply
of_case form answers input (replies.Outputs values) of is = is
of_case form answers input replies.Usage of is = absurd of
of_case form answers input (replies.TooLong limit) of is = absurd of
of_case form answers input (replies.Case bad) of is = absurd of
of_case form answers input (replies.Program kind at) of is = is
of_case form answers input (replies.Deep levels) of is = is
of_case form answers input (replies.Wide height width) of is = is
of_case form answers input (replies.InputCount have need) of is = is
of_case form answers input (replies.Circuit sizes) of is = is
of_case form answers input (replies.Proved proved) of is = is
of_case form answers input (replies.Demo summary) of is = is
of_case form answers input (replies.Served jobs) of is = is
of_case form answers input (replies.History history) of is = is
of_case form answers input (replies.OutputCount have need) of is = is
of_case form answers input (replies.Proof bad) of is = is
of_case form answers input (replies.Verdict line) of is = is
of_case form answers input (replies.Audit lines) of is = is
of_case form answers input (replies.WordCount have need) of is = is
of_case form answers input (replies.Session sizes) of is = is

-- what a command says of the case that the input spells is its reply to the input
pub answered : (command : CaseCommand) (input : List ℕ) (c : Content) (result : Result Reply ReplyError) → IsWithinLimit input → reading (form_of command) input ≡ Ok c
    → IfOk result (λ reply. IsAnswer command c reply) → IfOk result (λ reply. IsCaseReply (form_of command) (IsAnswer command) input reply)
answered command input c result within read said =
    IfOk-weaker result _ _ (λ reply is.
    of_case (form_of command) (IsAnswer command) input reply (answers_a_case command c reply is) (record { within = within; content = c; read = read; holds = is })) said

-- a line that the full form has
pub full_has : {A : Type 0} (o : Option A) → Allows Full o → IsSome o
full_has None is = absurd is
full_has (Some x) is = refl

-- what a run wrote is a prefix of its reply, or nothing
pub no_more : (status : Status) (words : List (List ℕ)) (input : List ℕ) (before after : Option (List ℕ)) → (status ≡ statuses.ReadFault → Grows before after []) → (status ≡ statuses.Memory → Grows before after [])
    → (status ≡ statuses.WriteFault → WritesReplyPrefix words input before after) → (IsReplied status → WritesReplyPrefix words input before after) → WritesNoMore status words input before after
no_more statuses.Done words input before after fault memory cut whole = whole tt
no_more statuses.Rejected words input before after fault memory cut whole = whole tt
no_more statuses.Usage words input before after fault memory cut whole = whole tt
no_more statuses.BadCase words input before after fault memory cut whole = whole tt
no_more statuses.BadProgram words input before after fault memory cut whole = whole tt
no_more statuses.BadCount words input before after fault memory cut whole = whole tt
no_more statuses.BadProof words input before after fault memory cut whole = whole tt
no_more statuses.ReadFault words input before after fault memory cut whole = fault refl
no_more statuses.WriteFault words input before after fault memory cut whole = cut refl
no_more statuses.Memory words input before after fault memory cut whole = memory refl
no_more statuses.TooLong words input before after fault memory cut whole = whole tt

-- a text that was written whole
pub whole_front : (old new : Option (List ℕ)) (text : List ℕ) → Grows old new text → WritesPrefix old new text
whole_front old new text grows = ([], record { prefix = text; parts = sym (append-nil text); written = grows })
