-- Entry after entry goes on
use Rattle.std.proofs.Common.{◌≡◌, ◌<◌, arith, get_or, length}
use Rattle.std.proofs.lemmas.List.{get_or_read}
use Rattle.field_ext.specs.Field.{zero_k}
use Rattle.run_wiring.specs.Entries.{weighed}
use Rattle.run_wiring.proofs.Entries.{nothing_weighed, entry_added, weighed_before}
use Rattle.run_wiring.proofs.digit_sum.add_column.Goals as goal

pub loop-i-init : goal.loop-i-init
loop-i-init g c = record {
  size = omega (arith, c.requires.capacity, c.clear.auto.table);
  sums = λ of. nothing_weighed c.clear.new.table c.clear.ensures of;
  steps = omega arith;
}

pub loop-i-preserved : goal.loop-i-preserved
loop-i-preserved g c =
    let t = c.args.table.now in
    let i = c.loop-i.i in
    let inside : c.loop-i.i < length c.args.table.now = omega (arith, c.requires.size, c.loop-i-test.true) in
    let read : c.index-table-i.result ≡ get_or t i zero_k = get_or_read t i c.index-table-i.result inside c.index-table-i.is zero_k in
    record {
      size = omega (arith, c.loop-i.invariant.size, c.pass_entry.auto.next);
      sums = λ of.
          entry_added t c.args.column.now of i c.index-table-i.result (weighed c.loop-i.next of) (weighed c.pass_entry.new.next of) read
          (c.loop-i.invariant.sums of) (c.pass_entry.ensures.sums of);
      steps = omega (arith, c.loop-i.invariant.steps, c.pass_entry.ensures.steps);
    }

pub returns-clause-sums : goal.returns-clause-sums
returns-clause-sums g c of = weighed_before c.args.table.now c.loop-i.next c.args.column.now c.loop-i.i (omega arith) (omega arith) c.loop-i.invariant.sums of
