-- One place more
use Rattle.std.proofs.Common.{◌≡◌, ◌∙◌, ap, arith, get_or}
use Rattle.field_ext.specs.Field.{mul_k, zero_k}
use Rattle.gate_gather.proofs.Made.{zero_times, made_none, made_more, made_all, made_read, made_kept}
use Rattle.gate_gather.proofs.scaling.scale_muls.Goals as goal

pub returns-then-is_zero : goal.returns-then-is_zero
returns-then-is_zero c =
    let none = c.is_zero.ensures.0 c.if-is_zero.true in
    made_kept c.args.from c.args.count c.args.scales.now _ (λ x u v. zero_times c.args.value (get_or c.args.scales.now x zero_k) (none x u v))

pub loop-i-init : goal.loop-i-init
loop-i-init c = made_none c.args.from c.args.from c.args.scales.now _ (omega arith)

pub loop-i-preserved : goal.loop-i-preserved
loop-i-preserved c =
    let i = c.loop-i.i in
    let from = c.args.from in
    let now = c.loop-i.scales in
    let old : c.index-scales-i.result ≡ get_or c.args.scales.now c.loop-i.i zero_k = made_read from i c.args.scales.now now _ c.index-scales-i.result (omega arith) (omega arith) c.index-scales-i.is c.loop-i.invariant in
    made_more from i c.args.scales.now now _ c.mul.result (omega arith) (omega arith) (c.mul.ensures ∙ ap (mul_k c.args.value) old) c.loop-i.invariant

pub returns : goal.returns
returns c = made_all c.args.from c.args.count c.loop-i.i c.args.scales.now c.loop-i.scales _ (omega arith) c.loop-i.invariant
