use Rattle.std.proofs.lemmas.Grind.{common_steps}
use Rattle.std.proofs.Common.{rules, arith, ◌+◌, length}
use Rattle.gkr_words.specs.Commands.{read_buffer}
use Rattle.gkr_cmd.proofs.InputReads.{kept_read, none_more, one_call, read_within, some_within}
use Rattle.gkr_cmd.proofs.input.read_input.Goals as goal

pub returns-in-Ok-eq0-clause-within : goal.returns-in-Ok-eq0-clause-within
returns-in-Ok-eq0-clause-within g c =
    read_within (c.args.limit + 1) (length c.loop-buffer.bytes.items + 1) read_buffer _ _ c.loop-buffer.bytes.items _ _
    (none_more _ _ _ c.loop-buffer.bytes.items _ c.in-Ok-eq0.field-0 (omega (arith, c.in-Ok-eq0.field-0-test)) c.loop-buffer.invariant.read c.in-Ok-eq0.ensures.bytes.0)
    (omega (arith, c.loop-buffer-test.true))
    (one_call read_buffer _ (length c.loop-buffer.bytes.items) _ _ _ _ c.loop-buffer.invariant.calls c.in-Ok-eq0.ensures.called (search rules) (omega arith))
    (omega (arith, c.loop-buffer-test.true))

pub returns-in_err-extend_from_slice-in-Ok-clause-within : goal.returns-in_err-extend_from_slice-in-Ok-clause-within
returns-in_err-extend_from_slice-in-Ok-clause-within g c =
    some_within (c.args.limit + 1) (length c.loop-buffer.bytes.items + 1) read_buffer _ _ _ c.loop-buffer.bytes.items _ c.in-Ok.count _ _ c.loop-buffer.invariant.read c.in-Ok.ensures.bytes.0
    (search rules)
    (one_call read_buffer _ (length c.loop-buffer.bytes.items) _ _ _ _ c.loop-buffer.invariant.calls c.in-Ok.ensures.called (search rules) (omega arith))
    (omega (arith, c.loop-buffer-test.true))

pub returns-in-Err-clause-within : goal.returns-in-Err-clause-within
returns-in-Err-clause-within g c =
    read_within (c.args.limit + 1) (length c.loop-buffer.bytes.items + 1) read_buffer _ _ c.loop-buffer.bytes.items _ _
    (kept_read _ _ _ c.loop-buffer.bytes.items c.loop-buffer.invariant.read c.in-Err.ensures.bytes)
    (omega (arith, c.loop-buffer-test.true))
    (one_call read_buffer _ (length c.loop-buffer.bytes.items) _ _ _ _ c.loop-buffer.invariant.calls c.in-Err.ensures.called (search rules) (omega arith))
    (omega (arith, c.loop-buffer-test.true))

pub loop-buffer-init : goal.loop-buffer-init
loop-buffer-init g c = search rules

pub overflow_add-limit : goal.overflow_add-limit
overflow_add-limit g c = search rules

pub overflow_sub-limit : goal.overflow_sub-limit
overflow_sub-limit g c = search rules

pub slice_bounds-buffer-end : goal.slice_bounds-buffer-end
slice_bounds-buffer-end g c = search rules

pub slice_bounds-read-end : goal.slice_bounds-read-end
slice_bounds-read-end g c = search rules

pub returns-in-Ok-eq0-clause-bytes : goal.returns-in-Ok-eq0-clause-bytes
returns-in-Ok-eq0-clause-bytes g c = grind (arith, common_steps)

pub returns-in-Ok-eq0-clause-fault : goal.returns-in-Ok-eq0-clause-fault
returns-in-Ok-eq0-clause-fault g c = search rules

pub returns-in-Ok-eq0-clause-no_fault : goal.returns-in-Ok-eq0-clause-no_fault
returns-in-Ok-eq0-clause-no_fault g c = search rules

pub slice_bounds-buffer-end-in-Ok : goal.slice_bounds-buffer-end-in-Ok
slice_bounds-buffer-end-in-Ok g c = search rules

pub slice_bounds-extend_from_slice-end : goal.slice_bounds-extend_from_slice-end
slice_bounds-extend_from_slice-end g c = search rules

pub loop-buffer-smaller : goal.loop-buffer-smaller
loop-buffer-smaller g c = search rules

pub loop-buffer-preserved : goal.loop-buffer-preserved
loop-buffer-preserved g c = grind (arith, common_steps)

pub returns-in_err-extend_from_slice-in-Ok-clause-bytes : goal.returns-in_err-extend_from_slice-in-Ok-clause-bytes
returns-in_err-extend_from_slice-in-Ok-clause-bytes g c = search rules

pub returns-in_err-extend_from_slice-in-Ok-clause-fault : goal.returns-in_err-extend_from_slice-in-Ok-clause-fault
returns-in_err-extend_from_slice-in-Ok-clause-fault g c = search rules

pub returns-in_err-extend_from_slice-in-Ok-clause-no_fault : goal.returns-in_err-extend_from_slice-in-Ok-clause-no_fault
returns-in_err-extend_from_slice-in-Ok-clause-no_fault g c = search rules

pub returns-in-Err-clause-bytes : goal.returns-in-Err-clause-bytes
returns-in-Err-clause-bytes g c = search rules

pub returns-in-Err-clause-fault : goal.returns-in-Err-clause-fault
returns-in-Err-clause-fault g c = search rules

pub returns-in-Err-clause-no_fault : goal.returns-in-Err-clause-no_fault
returns-in-Err-clause-no_fault g c = search rules

pub returns-clause-bytes : goal.returns-clause-bytes
returns-clause-bytes g c = grind (arith, common_steps)

pub returns-clause-within : goal.returns-clause-within
returns-clause-within g c = grind (arith, common_steps)

pub returns-clause-fault : goal.returns-clause-fault
returns-clause-fault g c = search rules

pub returns-clause-no_fault : goal.returns-clause-no_fault
returns-clause-no_fault g c = search rules
