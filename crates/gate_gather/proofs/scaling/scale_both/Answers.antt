-- One place more
use Rattle.std.proofs.Common.{◌≡◌, ◌∙◌, ap, ap₂, arith, get_or}
use Rattle.field_ext.specs.Field.{add_k, mul_k, zero_k}
use Rattle.gate_gather.proofs.Made.{made_none, made_more, made_all, made_read}
use Rattle.gate_gather.proofs.scaling.scale_both.Goals as goal

pub loop-i-init : goal.loop-i-init
loop-i-init c = record {
  scales = made_none c.args.from c.args.from c.args.scales.now _ (omega arith);
  shifts = made_none c.args.from c.args.from c.args.shifts.now _ (omega arith);
}

pub loop-i-preserved : goal.loop-i-preserved
loop-i-preserved c =
    let i = c.loop-i.i in
    let from = c.args.from in
    let made = c.loop-i.invariant in
    let add : c.index-shifts-i.result ≡ get_or c.args.shifts.now c.loop-i.i zero_k = made_read from i c.args.shifts.now c.loop-i.shifts _ c.index-shifts-i.result (omega arith) (omega arith) c.index-shifts-i.is made.shifts in
    let mul : c.index-scales-i.result ≡ get_or c.args.scales.now c.loop-i.i zero_k = made_read from i c.args.scales.now c.loop-i.scales _ c.index-scales-i.result (omega arith) (omega arith) c.index-scales-i.is made.scales in
    record {
      scales = made_more from i c.args.scales.now c.loop-i.scales _ c.add.result (omega arith) (omega arith) (c.add.ensures ∙ ap₂ add_k add (c.mul.ensures ∙ ap (mul_k c.args.value) mul)) made.scales;
      shifts = made_more from i c.args.shifts.now c.loop-i.shifts _ c.mul-in-loop-i.result (omega arith) (omega arith) (c.mul-in-loop-i.ensures ∙ ap (mul_k c.args.value) add) made.shifts;
    }

pub returns-clause-scales : goal.returns-clause-scales
returns-clause-scales c = made_all c.args.from c.args.count c.loop-i.i c.args.scales.now c.loop-i.scales _ (omega arith) c.loop-i.invariant.scales

pub returns-clause-shifts : goal.returns-clause-shifts
returns-clause-shifts c = made_all c.args.from c.args.count c.loop-i.i c.args.shifts.now c.loop-i.shifts _ (omega arith) c.loop-i.invariant.shifts
