-- The rooms divide the parts, and are prepared
use Rattle.std.proofs.Common.{◌≡◌, ℕ, ◌-◌, ◌*◌, ◌/◌, ◌^◌, ◌++◌, length, take, drop, All, sym, ◌∙◌, ap, arith, subst}
use Rattle.std.proofs.Math.Nat.{div-add-mod}
use Rattle.wiring_poly.proofs.api.Identity.{written_back}
use Rattle.table_parts.specs.PartTables.{HasCapacity, cuts}
use Rattle.round_tables.specs.Ranges.{AreRoomsFor}
use Rattle.round_tables.specs.Working.{bound_of}
use Rattle.round_tables.proofs.open.OpenTables.lend.Goals as goal

pub invariant_of-result : goal.invariant_of-result
invariant_of-result c =
    let self = c.self.inside in
    let k = self.layer.k in
    let w = self.working in
    let is = c.self.invariant.0 in
    let b = c.self.invariant.1 in
    let number = c.min-number.result in
    let whole = c.len-whole.result in
    let all : c.len-whole.result ≡ 2 ^ cuts c.self.inside.layer.k = omega (arith, c.len-whole.ensures, w.many.ok.0, b.capacities.many) in
    let product : c.min-number.result * (c.len-whole.result / c.min-number.result) ≡ 2 ^ cuts c.self.inside.layer.k = omega (arith, div-add-mod whole number, c.if-whole-number-eq0.true, all) in
    let size : c.power-size.result ≡ 2 ^ (c.self.inside.layer.k - cuts c.self.inside.layer.k) = c.power-size.ensures ∙ ap (λ (n : ℕ). 2 ^ (k - n)) c.cut_count.ensures.cuts in
    let bound : c.split_at.result.0.now ≡ bound_of c.self.inside.working = c.split_at.ensures.front ∙ (λ i. take w.count (c.as_slice.ensures.value i)) in
    let rooms = c.rooms.inside.rooms in
    let back : take c.rooms.inside.rooms.len (c.prepare_each.new.rooms ++ drop (length c.prepare_each.new.rooms) c.rooms.inside.rooms.items) ≡ c.prepare_each.new.rooms = written_back rooms.items c.prepare_each.new.rooms rooms.len (c.prepare_each.auto.rooms ∙ c.deref_mut.ensures.len) in
    let left : number - 0 ≡ number = omega arith in
    record {
      layer_is = is;
      begins = record {
        challenges = b.capacities.challenges;
        scales = b.capacities.scales;
        shifts = b.capacities.shifts;
        one = b.capacities.one;
        one_capacity = b.capacities.one_capacity;
        counted = b.counted;
        beginning = b.beginning;
        capacity = omega (arith, b.capacities.many, w.many.ok.0, w.many.ok.1);
      };
      ranges = record { all = product; whole = size };
      most = omega arith;
      many = b.capacities.many ∙ sym product ∙ ap (λ (n : ℕ). n * (whole / number)) (sym left);
      capacities = subst (λ (n : ℕ). All (HasCapacity n) w.many.items) (sym size) b.capacities.many_capacity;
      enough = omega (arith, c.min-number.ensures);
      rooms_left = omega (arith, c.len-count.ensures);
      rooms_capacity = omega (arith, c.len-count.ensures, c.rooms.inside.rooms.ok.1);
      ready = coe 0 1 (i. AreRoomsFor self.layer (bound i) (whole / number) (whole / number * c.power-size.result) (sym back i)) c.in-Ok.ensures;
    }
