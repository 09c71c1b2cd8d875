-- The range that is lent has a room and parts of those that are left
use Rattle.std.proofs.Common.{◌≡◌, ℕ, ◌*◌, ◌^◌, ◌<◌, [], false, length, All, refl, sym, ◌∙◌, ap, arith, subst}
use Rattle.mle_table.proofs.api.EqualitySteps.{pow_up}
use Rattle.table_parts.specs.PartTables.{HasCapacity}
use Rattle.round_tables.specs.Ranges.{LendingView, IsRoomFor, range_of}
use Rattle.round_tables.specs.Working.{IsBeginning, bound_of}
use Rattle.round_tables.proofs.PlaceWeights.{copied-place, copied-layer}
use Rattle.round_tables.proofs.Ranges.{all-before, last-of, range-within, all-places, one-less, parts-moved}
use Rattle.round_tables.proofs.lending.Lending.lend.Goals as goal

pub overflow_mul-result-2 : goal.overflow_mul-result-2
overflow_mul-result-2 c =
    let self = c.self.inside in
    let left : c.self.inside.lent < c.self.inside.number = omega (arith, c.requires.left, ap (λ (v : LendingView). v.lent) c.self.view_is, ap (λ (v : LendingView). v.number) c.self.view_is) in
    let most = range-within self.lent self.number (self.parts * self.size) (2 ^ self.layer.k) left (all-places self.layer.k self.number self.parts self.size c.self.invariant.ranges) in
    omega (arith, most, pow_up self.layer.k 20 c.self.invariant.layer_is.layer_is.most)

pub invariant_of-self : goal.invariant_of-self
invariant_of-self c =
    let self = c.self.inside in
    let inv = c.self.invariant in
    let left : c.self.inside.lent < c.self.inside.number = omega (arith, c.requires.left, ap (λ (v : LendingView). v.lent) c.self.view_is, ap (λ (v : LendingView). v.number) c.self.view_is) in
    let less = one-less self.number self.lent self.parts left in
    let none : All (HasCapacity c.self.inside.size) c.in-Some.room.parts.items = λ i d u. absurd (omega (arith, u, c.in-Some.room.parts.ok.0, (last-of (IsRoomFor self.layer (bound_of self.working) self.parts (self.parts * self.size)) c.pop.new.self.items c.in-Some.room (subst (All (IsRoomFor self.layer (bound_of self.working) self.parts (self.parts * self.size))) c.in-Some.ensures.items inv.ready)).parts_none)) in
    record {
      layer_is = inv.layer_is;
      begins = parts-moved self.layer self.working _ self.value refl (omega (arith, c.move_parts.ensures.from_capacity)) inv.begins;
      ranges = inv.ranges;
      most = omega (arith, left);
      many = omega (arith, less, inv.many, c.move_parts.ensures.left, self.working.many.ok.0, c.move_parts.new.from.ok.0);
      capacities = (c.move_parts.ensures.capacities self.size inv.capacities none).0;
      enough = inv.enough;
      rooms_left = omega (arith, inv.rooms_left, c.in-Some.ensures.len);
      rooms_capacity = omega (arith, inv.rooms_capacity, c.in-Some.ensures.capacity);
      ready = all-before (IsRoomFor self.layer (bound_of self.working) self.parts (self.parts * self.size)) c.pop.new.self.items c.in-Some.room (subst (All (IsRoomFor self.layer (bound_of self.working) self.parts (self.parts * self.size))) c.in-Some.ensures.items inv.ready);
    }

pub invariant_of-result : goal.invariant_of-result
invariant_of-result c =
    let self = c.self.inside in
    let inv = c.self.invariant in
    let room = c.in-Some.room in
    let left : c.self.inside.lent < c.self.inside.number = omega (arith, c.requires.left, ap (λ (v : LendingView). v.lent) c.self.view_is, ap (λ (v : LendingView). v.number) c.self.view_is) in
    let most = range-within self.lent self.number (self.parts * self.size) (2 ^ self.layer.k) left (all-places self.layer.k self.number self.parts self.size inv.ranges) in
    let ready : IsRoomFor c.self.inside.layer (bound_of c.self.inside.working) c.self.inside.parts (c.self.inside.parts * c.self.inside.size) c.in-Some.room =
    last-of (IsRoomFor self.layer (bound_of self.working) self.parts (self.parts * self.size)) c.pop.new.self.items room (subst (All (IsRoomFor self.layer (bound_of self.working) self.parts (self.parts * self.size))) c.in-Some.ensures.items inv.ready) in
    let none : All (HasCapacity c.self.inside.size) c.in-Some.room.parts.items = λ i d u. absurd (omega (arith, u, room.parts.ok.0, ready.parts_none)) in
    let number : c.self.inside.parts ≡ length c.move_parts.new.to.items = omega (arith, c.move_parts.ensures.moved, ready.parts_none, c.move_parts.new.to.ok.0) in
    record {
      layer_is = copied-layer self.layer room.first room.second inv.layer_is ready.first ready.second;
      beginning = subst (IsBeginning self.layer.k self.layer.values.now.items self.value) (sym ready.bound_there) inv.begins.beginning;
      within = omega (arith, most, ready.scales);
      same = omega (arith, ready.scales, ready.shifts);
      whole = ready.scales ∙ ap (λ (n : ℕ). n * self.size) number;
      capacities = (c.move_parts.ensures.capacities self.size inv.capacities none).1;
      gathered = λ h. absurd (cc);
    }

pub returns-clause-share : goal.returns-clause-share
returns-clause-share c =
    let self = c.self.inside in
    let inv = c.self.invariant in
    let room = c.in-Some.room in
    let v = c.self.view_is in
    let ready : IsRoomFor c.self.inside.layer (bound_of c.self.inside.working) c.self.inside.parts (c.self.inside.parts * c.self.inside.size) c.in-Some.room =
    last-of (IsRoomFor self.layer (bound_of self.working) self.parts (self.parts * self.size)) c.pop.new.self.items room (subst (All (IsRoomFor self.layer (bound_of self.working) self.parts (self.parts * self.size))) c.in-Some.ensures.items inv.ready) in
    let number : length c.move_parts.new.to.items ≡ c.self.inside.parts = omega (arith, c.move_parts.ensures.moved, ready.parts_none, c.move_parts.new.to.ok.0) in
    let place = copied-place self.layer room.first room.second ready.first ready.second in
    (λ i. record {
      sum = record {
        k = self.layer.k;
        gates = self.layer.gates.now;
        values = self.layer.values.now.items;
        place = place i;
        bound = ready.bound_there i;
        lent = [];
      };
      from = self.lent * (self.parts * self.size);
      parts = number i;
      size = self.size;
      done = false;
    })
    ∙ (λ i. range_of (v i).sum (v i).parts (v i).size false (v i).lent)
