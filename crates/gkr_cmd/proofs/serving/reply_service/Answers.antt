use Rattle.std.proofs.Common.{arith, rules}
use Rattle.gkr_cmd.proofs.Replied.{service_named, service_replied, service_too_long}
use Rattle.gkr_cmd.proofs.serving.reply_service.Goals as goal

pub returns-then-len-clause-reply : goal.returns-then-len-clause-reply
returns-then-len-clause-reply g c =
    service_too_long c.args.command (g.S.Source.left c.args.source.now) (g.S.Source.left c.read_input.new.source) c.in_ok-input.input.items
    c.requires.service c.in_ok-input.ensures.bytes (omega arith)

pub returns-clause-reply : goal.returns-clause-reply
returns-clause-reply g c =
    service_replied c.args.command (g.S.Source.left c.args.source.now) (g.S.Source.left c.read_input.new.source) c.in_ok-input.input.items c.answer_service.result
    c.requires.service c.in_ok-input.ensures.bytes (omega arith) (rw c.deref.ensures.value at c.answer_service.ensures.reply)

pub returns-clause-named : goal.returns-clause-named
returns-clause-named g c = service_named c.args.command _ c.answer_service.result c.requires.service c.answer_service.ensures.reply

pub overflow_cast-read_input : goal.overflow_cast-read_input
overflow_cast-read_input g c = search rules

pub read_input-requires : goal.read_input-requires
read_input-requires g c = search rules

pub returns-in_err-input-clause-reply : goal.returns-in_err-input-clause-reply
returns-in_err-input-clause-reply g c = search rules

pub returns-in_err-input-clause-named : goal.returns-in_err-input-clause-named
returns-in_err-input-clause-named g c = search rules

pub returns-in_err-input-clause-read : goal.returns-in_err-input-clause-read
returns-in_err-input-clause-read g c = search rules

pub returns-in_err-input-clause-within : goal.returns-in_err-input-clause-within
returns-in_err-input-clause-within g c = search rules

pub returns-in_err-input-clause-fault : goal.returns-in_err-input-clause-fault
returns-in_err-input-clause-fault g c = search rules

pub returns-in_err-input-clause-no_fault : goal.returns-in_err-input-clause-no_fault
returns-in_err-input-clause-no_fault g c = search rules

pub overflow_cast-t-15 : goal.overflow_cast-t-15
overflow_cast-t-15 g c = search rules

pub returns-then-len-clause-named : goal.returns-then-len-clause-named
returns-then-len-clause-named g c = search rules

pub returns-then-len-clause-read : goal.returns-then-len-clause-read
returns-then-len-clause-read g c = search rules

pub returns-then-len-clause-within : goal.returns-then-len-clause-within
returns-then-len-clause-within g c = search rules

pub returns-then-len-clause-fault : goal.returns-then-len-clause-fault
returns-then-len-clause-fault g c = search rules

pub returns-then-len-clause-no_fault : goal.returns-then-len-clause-no_fault
returns-then-len-clause-no_fault g c = search rules

pub answer_service-requires-clause-service : goal.answer_service-requires-clause-service
answer_service-requires-clause-service g c = search rules

pub answer_service-requires-clause-workers : goal.answer_service-requires-clause-workers
answer_service-requires-clause-workers g c = search rules

pub answer_service-requires-clause-limit : goal.answer_service-requires-clause-limit
answer_service-requires-clause-limit g c = search rules

pub returns-clause-read : goal.returns-clause-read
returns-clause-read g c = search rules

pub returns-clause-within : goal.returns-clause-within
returns-clause-within g c = search rules

pub returns-clause-fault : goal.returns-clause-fault
returns-clause-fault g c = search rules

pub returns-clause-no_fault : goal.returns-clause-no_fault
returns-clause-no_fault g c = search rules
