-- One part more
use Rattle.std.proofs.Common.{◌≡◌, ◌∙◌, ◌++◌, length, length-append, arith, ap, sym, subst}
use Rattle.table_parts.specs.PartTables.{HasSize}
use Rattle.table_parts.proofs.api.Halves.{flat-more}
use Rattle.table_parts.proofs.part.Part.gather.Goals as goal

pub loop-part-preserved : goal.loop-part-preserved
loop-part-preserved c =
    let before = c.loop-part.invariant in
    let ps = c.args.parts.now in
    let i = c.loop-part.part-index in
    let p = c.part-item.result in
    let old = c.loop-part.self in
    let one = c.requires.sizes i p c.loop-part-test.true in
    let is = c.append.ensures in
    let table : c.append.new.self.table ≡ old.table ++ p.table = ap (λ q. q.table) is in
    let scales : c.append.new.self.scales ≡ old.scales ++ p.scales = ap (λ q. q.scales) is in
    let shifts : c.append.new.self.shifts ≡ old.shifts ++ p.shifts = ap (λ q. q.shifts) is in
    let here = subst (HasSize 1) (sym c.part-item.is) one in
    record {
      capacity = ap (λ q. q.capacity) is ∙ before.capacity;
      table = flat-more (λ q. q.table) ps i p old.table c.append.new.self.table c.loop-part-test.true c.part-item.is before.table table;
      scales = flat-more (λ q. q.scales) ps i p old.scales c.append.new.self.scales c.loop-part-test.true c.part-item.is before.scales scales;
      shifts = flat-more (λ q. q.shifts) ps i p old.shifts c.append.new.self.shifts c.loop-part-test.true c.part-item.is before.shifts shifts;
      table_size = omega (arith, ap length table, length-append old.table p.table, here.table, before.table_size);
      scales_size = omega (arith, ap length scales, length-append old.scales p.scales, here.scales, before.scales_size);
      shifts_size = omega (arith, ap length shifts, length-append old.shifts p.shifts, here.shifts, before.shifts_size);
    }
