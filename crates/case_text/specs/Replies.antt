-- The lines of each reply.
use Rattle.std.specs.Prelude.{ℕ, ◌+◌, ◌-◌, Bool, true, false, List, [], ◌∷◌, ◌++◌, Option, Some, None, length, codes}
use Rattle.std.specs.List.{concat}
use Rattle.arr_ast.specs.declared.refusal.ProgramKind.{ProgramKind}
use Rattle.arr_ast.specs.declared.refusal.ProgramKind.TheVariants as programs
use Rattle.field_ext.specs.Field.{K}
use Rattle.proof_wire.specs.declared.refused.BadProof.{BadProof}
use Rattle.proof_wire.specs.declared.refused.BadProof.TheVariants as proofs
use Rattle.text_parts.specs.declared.due.DueKind.{DueKind}
use Rattle.text_parts.specs.declared.due.DueKind.TheVariants as kinds
use Rattle.text_parts.specs.Bytes.{comma, newline, space}
use Rattle.case_text.specs.declared.reply.demo.DemoSummary.{DemoSummary}
use Rattle.case_text.specs.declared.reply.session.SessionSizes.{SessionSizes}
use Rattle.case_text.specs.declared.reply.sizes.LayerSize.{LayerSize}
use Rattle.case_text.specs.declared.reply.verdict.VerdictLine.{VerdictLine}
use Rattle.case_text.specs.declared.reply.verdict.VerdictLine.TheVariants as verdicts
use Rattle.case_text.specs.declared.reply.verdict.MessagePlace.{MessagePlace}
use Rattle.case_text.specs.declared.reply.verdict.MessagePlace.TheVariants.{Round, Line}
use Rattle.case_text.specs.declared.reply.verdict.AuditLines.{AuditLines}
use Rattle.case_text.specs.Sizes.{Sizes}
use Rattle.case_text.specs.Served.{Served, proved_count}
use Rattle.case_text.specs.Histories.{History, withdrawn_count}
use Rattle.case_text.specs.declared.reply.history.HistoryLine.{HistoryLine}
use Rattle.case_text.specs.declared.reply.history.HistoryLine.TheVariants.{Submit, Take, Finish, Withdraw}
use Rattle.case_text.specs.declared.reply.Reply.{Reply}
use Rattle.case_text.specs.declared.reply.Reply.TheVariants as replies
use Rattle.case_text.specs.Spelling.{number, counted_text, lower_case_text}
use Rattle.hex.specs.Hex.{encode_lower}

abbrev pub kind_name : DueKind → List ℕ
kind_name kinds.Header = codes "header"
kind_name kinds.Section = codes "section"
kind_name kinds.Number = codes "number"
kind_name kinds.Range = codes "range"
kind_name kinds.Length = codes "length"
kind_name kinds.Hex = codes "hex"
kind_name kinds.End = codes "end"
kind_name kinds.Rest = codes "rest"

abbrev pub program_kind_name : ProgramKind → List ℕ
program_kind_name programs.Lex = codes "lex"
program_kind_name programs.Syntax = codes "syntax"
program_kind_name programs.Nesting = codes "nesting"
program_kind_name programs.Unknown = codes "unknown"
program_kind_name programs.Taken = codes "taken"
program_kind_name programs.Shape = codes "shape"
program_kind_name programs.Index = codes "index"
program_kind_name programs.IndexSize = codes "indexsize"
program_kind_name programs.Bounds = codes "bounds"
program_kind_name programs.Steps = codes "steps"
program_kind_name programs.Nodes = codes "nodes"
program_kind_name programs.Defs = codes "defs"
program_kind_name programs.Dims = codes "dims"
program_kind_name programs.Outputs = codes "outputs"
program_kind_name programs.NoOutput = codes "nooutput"

-- the lines of layers that are numbered from one on
abbrev pub layer_lines : ℕ → List LayerSize → List ℕ
layer_lines i [] = []
layer_lines i (layer ∷ layers) =
    concat (codes "layer " ∷ number i space ∷ number layer.positions space
    ∷ number layer.products newline ∷ []) ++ layer_lines (i + 1) layers

-- a word and a number on a line
unfoldable pub line_text : List ℕ → ℕ → List ℕ
line_text word n = word ++ number n newline

-- a word and two numbers on a line
unfoldable pub pair_text : List ℕ → ℕ → ℕ → List ℕ
pair_text word first second = concat (word ∷ number first space ∷ number second newline ∷ [])

-- what a proof takes
abbrev pub totals_text : Sizes → List ℕ
totals_text s = concat (line_text (codes "proof ") s.proof ∷ line_text (codes "challenges ")
    s.challenges ∷ line_text (codes "bound ") s.bound ∷ [])

-- the layers above the input are one fewer than all
abbrev pub sizes_text : Sizes → List ℕ
sizes_text s = concat (line_text (codes "circuit ") (length s.layers - 1) ∷ layer_lines 0 s.layers
    ∷ totals_text s ∷ [])

-- two elements, each by its real and its imaginary part
unfoldable pub sides_text : K → K → List ℕ
sides_text had want = concat (number had.re.value comma ∷ number had.im.value space
    ∷ number want.re.value comma ∷ number want.im.value newline ∷ [])

unfoldable pub failed_text : List ℕ → K → K → List ℕ
failed_text word had want = word ++ sides_text had want

unfoldable pub failed_layer_text : List ℕ → ℕ → K → K → List ℕ
failed_layer_text word layer had want =
    concat (word ∷ number layer space ∷ sides_text had want ∷ [])

unfoldable pub failed_round_text : List ℕ → ℕ → ℕ → K → K → List ℕ
failed_round_text word layer round had want =
    concat (word ∷ number layer space ∷ number round space ∷ sides_text had want ∷ [])

abbrev pub bad_proof_text : BadProof → List ℕ
bad_proof_text (proofs.Magic at) = line_text (codes "refused proof magic ") at
bad_proof_text (proofs.Short at need) = pair_text (codes "refused proof short ") at need
bad_proof_text (proofs.Range at) = line_text (codes "refused proof range ") at
bad_proof_text (proofs.Long extra) = line_text (codes "refused proof long ") extra

-- the digits of a digest in lower case
abbrev pub digest_text : List ℕ → List ℕ
digest_text digest = concat (codes "digest " ∷ encode_lower digest ∷ (newline ∷ []) ∷ [])

-- the lines of a demo on the case that was generated, and on its proof
abbrev pub generated_text : DemoSummary → List ℕ
generated_text s = concat (line_text (codes "demo ") s.number ∷ line_text (codes "size ") s.size
    ∷ line_text (codes "output ") s.output.value ∷ [])

abbrev pub proved_text : DemoSummary → List ℕ
proved_text s = concat (line_text (codes "layers ") s.layers ∷ line_text (codes "proof ") s.proof
    ∷ digest_text s.digest ∷ [])

abbrev pub demo_text : DemoSummary → List ℕ
demo_text s = concat (generated_text s ∷ proved_text s ∷ codes "accepted" ∷ (newline ∷ []) ∷ [])

-- the lines of a script's jobs: for each its client, and the reply to its case
abbrev pub served_lines : List Served → List ℕ
served_lines [] = []
served_lines (job ∷ jobs) =
    line_text (codes "client ") job.client ++ (job.text ++ served_lines jobs)

-- how many jobs there are, how many of them were proved, and how many weren't
abbrev pub summary_text : ℕ → ℕ → List ℕ
summary_text jobs proved =
    concat (codes "jobs " ∷ number jobs space ∷ codes "proved " ∷ number proved space ∷ line_text
    (codes "refused ") (jobs - proved) ∷ [])

abbrev pub served_text : List Served → List ℕ
served_text jobs = served_lines jobs ++ summary_text (length jobs) (proved_count jobs)

abbrev pub history_line_text : HistoryLine → List ℕ
history_line_text (Submit job place) = pair_text (codes "submit ") job place
history_line_text (Take job) = line_text (codes "take ") job
history_line_text (Finish job) = line_text (codes "finish ") job
history_line_text (Withdraw job) = line_text (codes "withdraw ") job

abbrev pub history_lines : List HistoryLine → List ℕ
history_lines [] = []
history_lines (line ∷ lines) = history_line_text line ++ history_lines lines

-- how many jobs there are, and how many of them were proved, refused and withdrawn
abbrev pub history_summary_text : ℕ → ℕ → ℕ → List ℕ
history_summary_text jobs proved withdrawn =
    concat (codes "jobs " ∷ number jobs space ∷ codes "proved " ∷ number proved space
    ∷ codes "refused " ∷ number (jobs - proved - withdrawn) space ∷ line_text (codes "withdrawn ") withdrawn ∷ [])

-- the replies, a line on all of them, how long the history is, and its lines
abbrev pub history_text : History → List ℕ
history_text h =
    concat (served_lines h.jobs
    ∷ history_summary_text (length h.jobs) (proved_count h.jobs) (withdrawn_count h.lines)
    ∷ line_text (codes "history ") (length h.lines) ∷ history_lines h.lines ∷ [])

-- the line on a proof
abbrev pub verdict_text : VerdictLine → List ℕ
verdict_text verdicts.Accepted = codes "accepted" ++ newline ∷ []
verdict_text (verdicts.Sum layer round had claim) =
    failed_round_text (codes "rejected sum ") layer round had claim
verdict_text (verdicts.End layer had want) =
    failed_layer_text (codes "rejected end ") layer had want
verdict_text (verdicts.Input had want) = failed_text (codes "rejected input ") had want

-- whether the outputs are those that the program means
abbrev pub meaning_text : Bool → List ℕ
meaning_text true = codes "meaning same" ++ newline ∷ []
meaning_text false = codes "meaning differs" ++ newline ∷ []

-- the first message that isn't the true one, by its layer and its round, or as the layer's last, on its line
abbrev pub message_text : Option MessagePlace → List ℕ
message_text None = codes "message none" ++ newline ∷ []
message_text (Some (Round layer round)) = pair_text (codes "message ") layer round
message_text (Some (Line layer)) =
    concat (codes "message " ∷ number layer space ∷ codes "line" ∷ (newline ∷ []) ∷ [])

-- the first exceptional challenge, by its number and its value
abbrev pub challenge_text : Option (ℕ × K) → List ℕ
challenge_text None = codes "challenge none" ++ newline ∷ []
challenge_text (Some named) =
    concat (codes "challenge " ∷ number named.0 space ∷ number named.1.re.value comma ∷ number
    named.1.im.value newline ∷ [])

-- the four lines of an audit
abbrev pub audit_text : AuditLines → List ℕ
audit_text a = concat (verdict_text a.verdict ∷ meaning_text a.same ∷ message_text a.message
    ∷ challenge_text a.challenge ∷ [])

-- the lines of a session that ended with a proof that is accepted
abbrev pub session_text : SessionSizes → List ℕ
session_text s = concat (line_text (codes "session ") s.challenges
    ∷ line_text (codes "to prover ") s.to_prover ∷ line_text (codes "to verifier ") s.to_verifier
    ∷ codes "accepted" ∷ (newline ∷ []) ∷ [])

abbrev pub reply_text : Reply → List ℕ
reply_text (replies.Outputs values) = codes "output " ++ counted_text values
reply_text replies.Usage = codes "refused usage" ++ newline ∷ []
reply_text (replies.TooLong limit) = codes "refused long " ++ number limit newline
reply_text (replies.Case bad) =
    concat (codes "refused case " ∷ kind_name bad.kind ∷ (space ∷ []) ∷ number bad.at newline ∷ [])
reply_text (replies.Program kind at) =
    concat (codes "refused program " ∷ program_kind_name kind ∷ (space ∷ [])
    ∷ number at newline ∷ [])
reply_text (replies.Deep levels) = line_text (codes "refused program deep ") levels
reply_text (replies.Wide height width) = pair_text (codes "refused program wide ") height width
reply_text (replies.InputCount have need) = pair_text (codes "refused count input ") have need
reply_text (replies.Circuit sizes) = sizes_text sizes
reply_text (replies.OutputCount have need) = pair_text (codes "refused count output ") have need
reply_text (replies.WordCount have need) = pair_text (codes "refused count words ") have need
reply_text (replies.Proof bad) = bad_proof_text bad
reply_text (replies.Proved c) = lower_case_text c
reply_text (replies.Demo summary) = demo_text summary
reply_text (replies.Served jobs) = served_text jobs
reply_text (replies.History history) = history_text history
reply_text (replies.Verdict verdict) = verdict_text verdict
reply_text (replies.Audit audit) = audit_text audit
reply_text (replies.Session sizes) = session_text sizes
