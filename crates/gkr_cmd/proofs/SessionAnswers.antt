-- A text has at most one answer of `session`, and that to a case that has a circuit, with two words for each challenge, is the session's
-- sizes.
use Rattle.std.proofs.Common.{◌≡◌, ◌*◌, ℕ, List, Option, Result, Ok, Err, refl, sym, ap, subst, ◌∙◌}
use Rattle.field_ext.specs.Field.{F}
use Rattle.circuit_core.specs.Parts.{Parts}
use Rattle.gkr_layers.specs.Layers.{challenges_of}
use Rattle.io_edge.specs.Written.{Grows}
use Rattle.arr_compile.specs.declared.refused.BadProgram.{BadProgram}
use Rattle.arr_compile.specs.declared.refused.BadProgram.TheVariants.{At, Deep, Wide}
use Rattle.arr_compile.specs.Circuits.{IsCircuitRefusal}
use Rattle.case_text.specs.Content.{Content}
use Rattle.case_text.specs.Replies.{reply_text}
use Rattle.case_text.specs.declared.case.refusal.BadCase.{BadCase}
use Rattle.case_text.specs.declared.reply.Reply.{Reply}
use Rattle.case_text.specs.declared.reply.Reply.TheVariants as replies
use Rattle.case_text.specs.declared.reply.session.SessionSizes.{SessionSizes}
use Rattle.case_prove.specs.Circuits.{IsCircuitMiscounted}
use Rattle.session_text.specs.Sessions.{SessionContent, session_reading}
use Rattle.session_prove.specs.Sessions.{IsPaired, IsSession, IsWordMiscounted}
use Rattle.gkr_words.specs.Commands.{case_limit}
use Rattle.gkr_cmd.specs.declared.status.Status.TheVariants.{Done}
use Rattle.gkr_cmd.specs.Replies.{IsNoSession, IsOfSession, IsSessionReply, IsTooLong, IsWithinLimit, status_of}
use Rattle.gkr_cmd.specs.Runs.{HasWords, WritesSession}
use Rattle.gkr_cmd.proofs.CircuitAnswers.{IsOne, counted_or_not, reply_to, same_counts}
use Rattle.gkr_cmd.proofs.OneReply.{long_or_not}

abbrev pub OneSession : Type 0
OneSession = (c : Content) (words : List F) (some others : SessionSizes) → IsSession c words some → IsSession c words others → some ≡ others

-- what is said of a case and its words
data Answer (s : SessionContent) : Reply → Type 0 where
  refused : (bad : BadProgram) → IsCircuitRefusal s.case.lang s.case.program bad → Answer s (reply_to bad)
  miscounted : (have need : ℕ) → IsCircuitMiscounted s.case have need → Answer s (replies.InputCount have need)
  unpaired : (have need : ℕ) → IsWordMiscounted s.case s.words have need → Answer s (replies.WordCount have need)
  ended : (sizes : SessionSizes) → IsSession s.case s.words sizes → Answer s (replies.Session sizes)

-- what is said of an input
data Found (input : List ℕ) : Reply → Type 0 where
  long : (limit : ℕ) → IsTooLong case_limit input limit → Found input (replies.TooLong limit)
  no_session : (bad : BadCase) → IsNoSession input bad → Found input (replies.Case bad)
  of_session : {reply : Reply} (s : SessionContent) → IsWithinLimit input → session_reading input ≡ Ok s → Answer s reply → Found input reply

found : (input : List ℕ) (reply : Reply) → IsSessionReply input reply → Found input reply
found input replies.Usage is = absurd is
found input (replies.TooLong limit) is = long limit is
found input (replies.Case bad) is = no_session bad is
found input (replies.Program kind at) is = of_session is.content is.within is.read (refused (At at kind) is.holds)
found input (replies.Deep levels) is = of_session is.content is.within is.read (refused (Deep levels) is.holds)
found input (replies.Wide height width) is = of_session is.content is.within is.read (refused (Wide height width) is.holds)
found input (replies.InputCount have need) is = of_session is.content is.within is.read (miscounted have need is.holds)
found input (replies.WordCount have need) is = of_session is.content is.within is.read (unpaired have need is.holds)
found input (replies.Session sizes) is = of_session is.content is.within is.read (ended sizes is.holds)
found input (replies.Outputs values) is = absurd is.holds
found input (replies.Circuit sizes) is = absurd is.holds
found input (replies.Proved proved) is = absurd is.holds
found input (replies.Demo summary) is = absurd is.holds
found input (replies.Served jobs) is = absurd is.holds
found input (replies.History history) is = absurd is.holds
found input (replies.OutputCount have need) is = absurd is.holds
found input (replies.Proof bad) is = absurd is.holds
found input (replies.Verdict line) is = absurd is.holds
found input (replies.Audit lines) is = absurd is.holds

same_words : IsOne → (c : Content) (words : List F) (have have' need need' : ℕ) → IsWordMiscounted c words have need → IsWordMiscounted c words have' need' → replies.WordCount have need ≡ replies.WordCount have' need'
same_words one c words have have' need need' is is' =
    let same = one.circuit c.lang c.program is.parts is'.parts is.compiled is'.compiled in
    let same_have : have ≡ have' = is.session_has ∙ sym is'.session_has in
    let same_need : need ≡ need' = is.circuit_needs ∙ ap (λ (p : Parts). 2 * challenges_of p) same ∙ sym is'.circuit_needs in
    rw (same_have, same_need) refl

paired_or_not : IsOne → (c : Content) (words : List F) (have need : ℕ) (p : Parts) → IsPaired c words p → IsWordMiscounted c words have need → ⊥
paired_or_not one c words have need p paired is =
    let same = one.circuit c.lang c.program p is.parts paired.compiled is.compiled in
    is.differ (is.session_has ∙ paired.paired ∙ ap (λ (q : Parts). 2 * challenges_of q) same ∙ sym is.circuit_needs)

one_answer : IsOne → OneSession → (s : SessionContent) {a b : Reply} → Answer s a → Answer s b → a ≡ b
one_answer one sizes s (refused bad is) (refused bad' is') = ap reply_to (one.refusal s.case.lang s.case.program bad bad' is is')
one_answer one sizes s (refused bad is) (miscounted have need is') = absurd (one.either s.case.lang s.case.program is'.parts bad is'.compiled is)
one_answer one sizes s (refused bad is) (unpaired have need is') = absurd (one.either s.case.lang s.case.program is'.parts bad is'.compiled is)
one_answer one sizes s (refused bad is) (ended size is') = absurd (one.either s.case.lang s.case.program is'.parts bad is'.paired.compiled is)
one_answer one sizes s (miscounted have need is) (refused bad is') = absurd (one.either s.case.lang s.case.program is.parts bad is.compiled is')
one_answer one sizes s (miscounted have need is) (miscounted have' need' is') = same_counts one s.case have have' need need' is is'
one_answer one sizes s (miscounted have need is) (unpaired have' need' is') = absurd (counted_or_not one s.case have need is'.parts is'.compiled is'.counted is)
one_answer one sizes s (miscounted have need is) (ended size is') = absurd (counted_or_not one s.case have need is'.parts is'.paired.compiled is'.paired.counted is)
one_answer one sizes s (unpaired have need is) (refused bad is') = absurd (one.either s.case.lang s.case.program is.parts bad is.compiled is')
one_answer one sizes s (unpaired have need is) (miscounted have' need' is') = absurd (counted_or_not one s.case have' need' is.parts is.compiled is.counted is')
one_answer one sizes s (unpaired have need is) (unpaired have' need' is') = same_words one s.case s.words have have' need need' is is'
one_answer one sizes s (unpaired have need is) (ended size is') = absurd (paired_or_not one s.case s.words have need is'.parts is'.paired is)
one_answer one sizes s (ended size is) (refused bad is') = absurd (one.either s.case.lang s.case.program is.parts bad is.paired.compiled is')
one_answer one sizes s (ended size is) (miscounted have need is') = absurd (counted_or_not one s.case have need is.parts is.paired.compiled is.paired.counted is')
one_answer one sizes s (ended size is) (unpaired have need is') = absurd (paired_or_not one s.case s.words have need is.parts is.paired is')
one_answer one sizes s (ended size is) (ended size' is') = ap replies.Session (sizes s.case s.words size size' is is')

same_session : (r : Result SessionContent BadCase) (s t : SessionContent) → r ≡ Ok s → r ≡ Ok t → s ≡ t
same_session r s t is is' = cc

same_stop : (r : Result SessionContent BadCase) (a b : BadCase) → r ≡ Err a → r ≡ Err b → a ≡ b
same_stop r a b is is' = cc

session_or_not : (r : Result SessionContent BadCase) (s : SessionContent) (bad : BadCase) → r ≡ Ok s → r ≡ Err bad → ⊥
session_or_not r s bad is is' = cc

one_found : IsOne → OneSession → (input : List ℕ) {a b : Reply} → Found input a → Found input b → a ≡ b
one_found one sizes input (long limit is) (long limit' is') = ap replies.TooLong (is.limit_is ∙ sym is'.limit_is)
one_found one sizes input (long limit is) (no_session bad is') = absurd (long_or_not input limit is is'.within)
one_found one sizes input (long limit is) (of_session s within read said) = absurd (long_or_not input limit is within)
one_found one sizes input (no_session bad is) (long limit is') = absurd (long_or_not input limit is' is.within)
one_found one sizes input (no_session bad is) (no_session bad' is') = ap replies.Case (same_stop (session_reading input) bad bad' is.read is'.read)
one_found one sizes input (no_session bad is) (of_session s within read said) = absurd (session_or_not (session_reading input) s bad read is.read)
one_found one sizes input (of_session s within read said) (long limit is) = absurd (long_or_not input limit is within)
one_found one sizes input (of_session s within read said) (no_session bad is) = absurd (session_or_not (session_reading input) s bad read is.read)
one_found one sizes input {a} {b} (of_session s within read said) (of_session t within' read' said') =
    let same = same_session (session_reading input) t s read' read in
    one_answer one sizes s said (subst (λ u. Answer u b) same said')

pub one_session : IsOne → OneSession → (input : List ℕ) (a b : Reply) → IsSessionReply input a → IsSessionReply input b → a ≡ b
one_session one sizes input a b is is' = one_found one sizes input (found input a is) (found input b is')

-- ---- the reply to a case that has a circuit, with two words for each challenge

answer_done : IsOne → (s : SessionContent) {reply : Reply} → HasWords s → Answer s reply → status_of reply ≡ Done
answer_done one s has (refused bad is) = absurd (one.either s.case.lang s.case.program has.parts bad has.paired.compiled is)
answer_done one s has (miscounted have need is) = absurd (counted_or_not one s.case have need has.parts has.paired.compiled has.paired.counted is)
answer_done one s has (unpaired have need is) = absurd (paired_or_not one s.case s.words have need has.parts has.paired is)
answer_done one s has (ended sizes is) = refl

found_done : IsOne → (input : List ℕ) {reply : Reply} → Found input reply → IsOfSession input HasWords → status_of reply ≡ Done
found_done one input (long limit is) has = absurd (long_or_not input limit is has.within)
found_done one input (no_session bad is) has = absurd (session_or_not (session_reading input) has.content bad has.read is.read)
found_done one input (of_session s within read said) has =
    answer_done one s (subst HasWords (same_session (session_reading input) has.content s has.read read) has.holds) said

pub session_done : IsOne → (input : List ℕ) (reply : Reply) → IsSessionReply input reply → IsOfSession input HasWords → status_of reply ≡ Done
session_done one input reply is has = found_done one input (found input reply is) has

-- ---- the reply with status 0

-- the session whose sizes a reply is
pub record TellsSession (s : SessionContent) (reply : Reply) : Type 0 where
  pub sizes : SessionSizes
  pub is_session : IsSession s.case s.words sizes
  pub reply_is : reply ≡ replies.Session sizes

undone : (bad : BadProgram) → status_of (reply_to bad) ≡ Done → ⊥
undone (At at kind) e = cc
undone (Deep levels) e = cc
undone (Wide height width) e = cc

by_answer : (s : SessionContent) {reply : Reply} → Answer s reply → status_of reply ≡ Done → TellsSession s reply
by_answer s (refused bad is) e = absurd (undone bad e)
by_answer s (miscounted have need is) e = absurd cc
by_answer s (unpaired have need is) e = absurd cc
by_answer s (ended sizes is) e = record { sizes = sizes; is_session = is; reply_is = refl }

by_input : (input : List ℕ) {reply : Reply} → Found input reply → status_of reply ≡ Done → IsOfSession input (λ s. TellsSession s reply)
by_input input (long limit is) e = absurd cc
by_input input (no_session bad is) e = absurd cc
by_input input {reply} (of_session s within read said) e = record { within = within; content = s; read = read; holds = by_answer s said e }

pub session_told : (input : List ℕ) (reply : Reply) → IsSessionReply input reply → status_of reply ≡ Done → IsOfSession input (λ s. TellsSession s reply)
session_told input reply is done = by_input input (found input reply is) done

-- there are two words for each challenge
pub words_of : (input : List ℕ) (reply : Reply) → IsOfSession input (λ s. TellsSession s reply) → IsOfSession input HasWords
words_of input reply told = record { within = told.within; content = told.content; read = told.read; holds = record { parts = told.holds.is_session.parts; paired = told.holds.is_session.paired } }

-- what is written are the sizes of the session that the input spells
pub writes_session : (input : List ℕ) (content : SessionContent) (reply : Reply) (before after : Option (List ℕ)) → IsOfSession input (λ s. TellsSession s reply) → session_reading input ≡ Ok content → Grows before after (reply_text reply) → WritesSession content before after
writes_session input content reply before after told read written =
    let tells = subst (λ s. TellsSession s reply) (same_session (session_reading input) told.content content told.read read) told.holds in
    record { sizes = tells.sizes; is_session = tells.is_session; written = subst (λ r. Grows before after (reply_text r)) tells.reply_is written }
