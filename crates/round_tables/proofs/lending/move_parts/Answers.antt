-- One part more
use Rattle.std.proofs.Common.{[], ◌∷◌, All, sym, arith, subst}
use Rattle.std.proofs.lemmas.List.Elements.{All-append, All-cons, All-nil}
use Rattle.table_parts.specs.PartTables.{HasCapacity}
use Rattle.round_tables.proofs.Ranges.{all-before, last-of}
use Rattle.round_tables.proofs.lending.move_parts.Goals as goal

pub loop-preserved : goal.loop-preserved
loop-preserved c =
    let before = c.loop.invariant in
    let part = c.in-Some.part in
    record {
      left = omega (arith, before.left, c.in-Some.ensures.len);
      from_capacity = omega (arith, before.from_capacity, c.in-Some.ensures.capacity);
      moved = omega (arith, before.moved, c.in-Ok.ensures.len);
      capacity = omega (arith, before.capacity, c.in-Ok.ensures.capacity);
      capacities = λ n f t.
          let both = before.capacities n f t in
          let all = subst (All (HasCapacity n)) c.in-Some.ensures.items both.0 in (
            all-before (HasCapacity n) c.pop.new.self.items part all,
            subst (All (HasCapacity n)) (sym c.in-Ok.ensures.items) (All-append (HasCapacity n) c.loop.to.items (part ∷ []) both.1 (All-cons (HasCapacity n) part [] (last-of (HasCapacity n) c.pop.new.self.items part all) (All-nil (HasCapacity n)))),
          );
    }
