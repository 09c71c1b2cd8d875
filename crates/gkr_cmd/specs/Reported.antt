-- What is reported of a proof and of a refusal.
use Rattle.std.specs.Prelude.{ℕ, Option, Some, None, Result, Ok, Err, option_map}
use Rattle.arr_compile.specs.declared.refused.BadProgram.TheVariants.{At, Deep, Wide}
use Rattle.audit_core.specs.declared.place.Place.{Place}
use Rattle.audit_core.specs.declared.report.Audit.{Audit}
use Rattle.case_prove.specs.declared.refused.Refused.{Refused}
use Rattle.case_prove.specs.declared.refused.Refused.TheVariants as refusals
use Rattle.case_text.specs.declared.reply.Reply.{Reply}
use Rattle.case_text.specs.declared.reply.Reply.TheVariants as replies
use Rattle.case_text.specs.declared.reply.verdict.AuditLines.{AuditLines}
use Rattle.case_text.specs.declared.reply.verdict.MessagePlace.{MessagePlace}
use Rattle.case_text.specs.declared.reply.verdict.MessagePlace.TheVariants.{Round, Line}
use Rattle.case_text.specs.declared.reply.verdict.VerdictLine.{VerdictLine}
use Rattle.case_text.specs.declared.reply.verdict.VerdictLine.TheVariants as reported
use Rattle.gkr_layers.specs.declared.verdict.Verdict.{Verdict}
use Rattle.gkr_verify.specs.declared.sums.LayerSum.{LayerSum}
use Rattle.gkr_layers.specs.declared.verdict.Verdict.TheVariants as verdicts
use Rattle.gkr_cmd.specs.declared.reply_error.ReplyError.{ReplyError}
use Rattle.gkr_cmd.specs.declared.reply_error.ReplyError.TheVariants as errors

-- the line on a proof with this verdict
abbrev pub verdict_line : Verdict → VerdictLine
verdict_line verdicts.Accepted = reported.Accepted
verdict_line (verdicts.Sum layer round had claim) = reported.Sum layer round had claim
verdict_line (verdicts.End layer had want) = reported.End layer had want
verdict_line (verdicts.Input had want) = reported.Input had want

-- the line on a round that does not add to its claim
abbrev pub sum_line : LayerSum → VerdictLine
sum_line fault = reported.Sum fault.layer fault.round fault.had fault.claim

-- the message of a layer's round, or its last where there is none; and the message in a place
abbrev pub message_in : ℕ → Option ℕ → MessagePlace
message_in layer None = Line layer
message_in layer (Some round) = Round layer round

abbrev pub message_place : Place → MessagePlace
message_place place = message_in place.layer place.round

-- the lines of an audit
abbrev pub audit_lines : Audit → AuditLines
audit_lines audit = record {
  verdict = verdict_line audit.verdict;
  same = audit.same;
  message = option_map message_place audit.message;
  challenge = audit.challenge;
}

-- the reply to a case that is refused, where memory didn't run out
abbrev pub refused_reply : Refused → Result Reply ReplyError
refused_reply (refusals.Program (At at kind)) = Ok (replies.Program kind at)
refused_reply (refusals.Program (Deep levels)) = Ok (replies.Deep levels)
refused_reply (refusals.Program (Wide height width)) = Ok (replies.Wide height width)
refused_reply (refusals.Input have need) = Ok (replies.InputCount have need)
refused_reply (refusals.Output have need) = Ok (replies.OutputCount have need)
refused_reply (refusals.Proof bad) = Ok (replies.Proof bad)
refused_reply refusals.Memory = Err errors.Memory
