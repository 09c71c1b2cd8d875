use Rattle.std.proofs.Common.{arith, rules}
use Rattle.gkr_cmd.proofs.SessionReplies.{session_named, session_replied, session_too_long}
use Rattle.gkr_cmd.proofs.session.run_session.Goals as goal

pub returns-then-len-clause-reply : goal.returns-then-len-clause-reply
returns-then-len-clause-reply g c =
    session_too_long c.args.piece c.args.workers (g.S.Source.left c.args.source.now) (g.S.Source.left c.read_input.new.source) c.in_ok-input.input.items
    c.in_ok-input.ensures.bytes (omega arith)

pub returns-clause-reply : goal.returns-clause-reply
returns-clause-reply g c =
    session_replied c.args.piece c.args.workers (g.S.Source.left c.args.source.now) (g.S.Source.left c.read_input.new.source) c.in_ok-input.input.items c.answer_session.result
    c.in_ok-input.ensures.bytes (omega arith) (rw c.deref.ensures.value at c.answer_session.ensures.reply)

pub returns-clause-named : goal.returns-clause-named
returns-clause-named g c = session_named _ c.answer_session.result c.answer_session.ensures.reply

pub overflow_cast-read_input : goal.overflow_cast-read_input
overflow_cast-read_input g c = search rules

pub read_input-requires : goal.read_input-requires
read_input-requires g c = search rules

pub returns-in_err-input-clause-reply : goal.returns-in_err-input-clause-reply
returns-in_err-input-clause-reply g c = search rules

pub returns-in_err-input-clause-named : goal.returns-in_err-input-clause-named
returns-in_err-input-clause-named g c = search rules

pub returns-in_err-input-clause-read : goal.returns-in_err-input-clause-read
returns-in_err-input-clause-read g c = search rules

pub returns-in_err-input-clause-within : goal.returns-in_err-input-clause-within
returns-in_err-input-clause-within g c = search rules

pub returns-in_err-input-clause-fault : goal.returns-in_err-input-clause-fault
returns-in_err-input-clause-fault g c = search rules

pub returns-in_err-input-clause-no_fault : goal.returns-in_err-input-clause-no_fault
returns-in_err-input-clause-no_fault g c = search rules

pub overflow_cast-t-16 : goal.overflow_cast-t-16
overflow_cast-t-16 g c = search rules

pub returns-then-len-clause-named : goal.returns-then-len-clause-named
returns-then-len-clause-named g c = search rules

pub returns-then-len-clause-read : goal.returns-then-len-clause-read
returns-then-len-clause-read g c = search rules

pub returns-then-len-clause-within : goal.returns-then-len-clause-within
returns-then-len-clause-within g c = search rules

pub returns-then-len-clause-fault : goal.returns-then-len-clause-fault
returns-then-len-clause-fault g c = search rules

pub returns-then-len-clause-no_fault : goal.returns-then-len-clause-no_fault
returns-then-len-clause-no_fault g c = search rules

pub answer_session-requires-clause-piece : goal.answer_session-requires-clause-piece
answer_session-requires-clause-piece g c = search rules

pub answer_session-requires-clause-workers : goal.answer_session-requires-clause-workers
answer_session-requires-clause-workers g c = search rules

pub answer_session-requires-clause-limit : goal.answer_session-requires-clause-limit
answer_session-requires-clause-limit g c = search rules

pub returns-clause-read : goal.returns-clause-read
returns-clause-read g c = search rules

pub returns-clause-within : goal.returns-clause-within
returns-clause-within g c = search rules

pub returns-clause-fault : goal.returns-clause-fault
returns-clause-fault g c = search rules

pub returns-clause-no_fault : goal.returns-clause-no_fault
returns-clause-no_fault g c = search rules
