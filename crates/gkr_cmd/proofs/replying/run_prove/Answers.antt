use Rattle.std.proofs.Common.{arith, length, ap, rules}
use Rattle.gkr_words.specs.declared.words.CaseCommand.TheVariants.{Prove}
use Rattle.gkr_cmd.proofs.Replied.{command_replied, too_long}
use Rattle.gkr_cmd.proofs.replying.run_prove.Goals as goal

pub returns-then-is_too_long-clause-reply : goal.returns-then-is_too_long-clause-reply
returns-then-is_too_long-clause-reply g c =
    too_long (Prove c.args.workers c.args.kind) (g.S.Source.left c.args.source.now) (g.S.Source.left c.read_input.new.source) c.in_ok-input.input.items
    c.in_ok-input.ensures.bytes (omega (arith, c.is_too_long.ensures.long c.if-is_too_long.true, ap length c.deref.ensures.value))

pub returns-clause-reply : goal.returns-clause-reply
returns-clause-reply g c =
    command_replied (Prove c.args.workers c.args.kind) (g.S.Source.left c.args.source.now) (g.S.Source.left c.read_input.new.source) c.in_ok-input.input.items c.answer_prove.result
    c.in_ok-input.ensures.bytes (omega (arith, c.is_too_long.ensures.short c.if-is_too_long.false, ap length c.deref.ensures.value)) (rw c.deref-2.ensures.value at c.answer_prove.ensures.reply)

pub overflow_cast-read_input : goal.overflow_cast-read_input
overflow_cast-read_input g c = search rules

pub read_input-requires : goal.read_input-requires
read_input-requires g c = search rules

pub returns-in_err-input-clause-reply : goal.returns-in_err-input-clause-reply
returns-in_err-input-clause-reply g c = search rules

pub returns-in_err-input-clause-named : goal.returns-in_err-input-clause-named
returns-in_err-input-clause-named g c = search rules

pub returns-in_err-input-clause-read : goal.returns-in_err-input-clause-read
returns-in_err-input-clause-read g c = search rules

pub returns-in_err-input-clause-within : goal.returns-in_err-input-clause-within
returns-in_err-input-clause-within g c = search rules

pub returns-in_err-input-clause-fault : goal.returns-in_err-input-clause-fault
returns-in_err-input-clause-fault g c = search rules

pub returns-in_err-input-clause-no_fault : goal.returns-in_err-input-clause-no_fault
returns-in_err-input-clause-no_fault g c = search rules

pub returns-then-is_too_long-clause-named : goal.returns-then-is_too_long-clause-named
returns-then-is_too_long-clause-named g c = search rules

pub returns-then-is_too_long-clause-read : goal.returns-then-is_too_long-clause-read
returns-then-is_too_long-clause-read g c = search rules

pub returns-then-is_too_long-clause-within : goal.returns-then-is_too_long-clause-within
returns-then-is_too_long-clause-within g c = search rules

pub returns-then-is_too_long-clause-fault : goal.returns-then-is_too_long-clause-fault
returns-then-is_too_long-clause-fault g c = search rules

pub returns-then-is_too_long-clause-no_fault : goal.returns-then-is_too_long-clause-no_fault
returns-then-is_too_long-clause-no_fault g c = search rules

pub answer_prove-requires-clause-limit : goal.answer_prove-requires-clause-limit
answer_prove-requires-clause-limit g c = search rules

pub returns-clause-named : goal.returns-clause-named
returns-clause-named g c = search rules

pub returns-clause-read : goal.returns-clause-read
returns-clause-read g c = search rules

pub returns-clause-within : goal.returns-clause-within
returns-clause-within g c = search rules

pub returns-clause-fault : goal.returns-clause-fault
returns-clause-fault g c = search rules

pub returns-clause-no_fault : goal.returns-clause-no_fault
returns-clause-no_fault g c = search rules
