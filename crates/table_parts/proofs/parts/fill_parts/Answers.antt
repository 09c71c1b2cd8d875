-- One part more has its values
use Rattle.std.proofs.Common.{◌≡◌, ℕ, ◌+◌, ◌-◌, ◌*◌, ◌<◌, ◌≤◌, List, length, map, ap, sym, ◌∙◌, arith, subst}
use Rattle.std.specs.List.{slice_range}
use Rattle.std.proofs.lemmas.List.{length-map}
use Rattle.std.proofs.lemmas.List.Elements.{All-set}
use Rattle.field_ext.specs.Field.{K, embed_k}
use Rattle.table_parts.specs.PartTables.{HasCapacity, HasSize}
use Rattle.table_parts.proofs.api.Halves.{written-more, sized-more, length-range, fits-more, range-map}
use Rattle.table_parts.proofs.parts.fill_parts.Goals as goal

pub loop-i-preserved : goal.loop-i-preserved
loop-i-preserved c =
    let i = c.loop-i.i in
    let n = c.args.size in
    let ps = c.loop-i.parts in
    let q = c.write.new.self in
    let before = c.loop-i.invariant in
    let lt : c.loop-i.i < length c.loop-i.parts = omega (arith, c.loop-i-test.true, c.loop-i.auto.parts) in
    let is = c.write.ensures in
    let width : i * n + n - i * n ≡ n = omega arith in
    let capacity : n ≤ q.capacity = subst (λ (m : ℕ). n ≤ m) (sym (ap (λ q. q.capacity) is)) (before.capacities i c.index-parts-i.result lt) in
    let size : (t : List K) → (i + 1) * n ≤ length t → length (slice_range t (i * n) (i * n + n)) ≡ n = λ t u. length-range t (i * n) n (omega (arith, u)) in
    let fits : (t : List K) → length t ≡ length c.args.parts.now * n → (i + 1) * n ≤ length t = λ t e. fits-more i (length c.args.parts.now) n (length t) c.loop-i-test.true e in
    record {
      capacities = All-set (HasCapacity n) ps i q capacity before.capacities;
      sizes = sized-more (HasSize n) ps i q lt before.sizes record {
        table = ap (λ q. length q.table) is ∙ length-map (slice_range c.args.table.now (i * n) (i * n + n)) embed_k ∙ length-range c.args.table.now (i * n) n (omega (arith, fits-more i (length c.args.parts.now) n (length c.args.table.now) c.loop-i-test.true c.requires.table));
        scales = ap (λ q. length q.scales) is ∙ size c.args.scales.now (fits c.args.scales.now c.requires.scales);
        shifts = ap (λ q. length q.shifts) is ∙ size c.args.shifts.now (fits c.args.shifts.now c.requires.shifts);
      };
      table = written-more (λ q. q.table) ps i n q (map embed_k c.args.table.now) lt before.table (ap (λ q. q.table) is ∙ range-map embed_k c.args.table.now (i * n) (i * n + n));
      scales = written-more (λ q. q.scales) ps i n q c.args.scales.now lt before.scales (ap (λ q. q.scales) is);
      shifts = written-more (λ q. q.shifts) ps i n q c.args.shifts.now lt before.shifts (ap (λ q. q.shifts) is);
    }
