-- The range that is back comes after those before
use Rattle.std.proofs.Common.{rules, ◌≡◌, ℕ, ◌+◌, ◌*◌, ◌^◌, ◌<◌, ◌≤◌, ◌++◌, true, IsTrue, length, vec_len, vec_capacity, All, refl, sym, ◌∙◌, ap, ap₂, arith, subst, length-append}
use Rattle.std.proofs.lemmas.List.Elements.{All-append}
use Rattle.table_parts.specs.PartTables.{HasCapacity, cuts}
use Rattle.round_tables.specs.Ranges.{RangeView, CollectingView, IsGathered, sum_of, range_of}
use Rattle.round_tables.specs.Working.{bound_of}
use Rattle.round_tables.proofs.Advances.{is-true}
use Rattle.round_tables.proofs.Ranges.{range-at, gathered-more, range-within, parts-moved}
use Rattle.round_tables.proofs.lending.Collecting.take_back.Goals as goal

pub unreachable-requires : goal.unreachable-requires
unreachable-requires c =
    let self = c.self.inside in
    let share = c.share.inside in
    let e : length c.share.inside.parts.items ≡ c.self.inside.parts = ap (λ (r : RangeView). r.parts) (c.share.view_is ∙ c.requires.share) ∙ sym (ap (λ (v : CollectingView). v.parts) c.self.view_is) in
    let left : c.self.inside.back < c.self.inside.number = omega (arith, c.requires.left, ap (λ (v : CollectingView). v.back) c.self.view_is, ap (λ (v : CollectingView). v.number) c.self.view_is) in
    let most = range-within self.back self.number self.parts (2 ^ cuts self.layer.k) left c.self.invariant.ranges.all in
    let room : vec_len c.self.inside.working.many + vec_len c.share.inside.parts ≤ vec_capacity c.self.inside.working.many = omega (arith, most, e, share.parts.ok.0, self.working.many.ok.0, c.self.invariant.many, c.self.invariant.begins.capacity) in
    search (c.append.ensures.succeeds room, c.in_default.is, rules)

pub invariant_of-self : goal.invariant_of-self
invariant_of-self c =
    let self = c.self.inside in
    let share = c.share.inside in
    let inv = c.self.invariant in
    let ps = self.working.many.items in
    let qs = share.parts.items in
    let v = c.self.view_is in
    let sum = sum_of self.layer (bound_of self.working) in
    let e : range-at c.share.inside.layer c.share.inside.bound.items c.share.inside.from (length c.share.inside.parts.items) c.share.inside.size c.share.inside.done ≡ range_of (sum_of c.self.inside.layer (bound_of c.self.inside.working)) c.self.inside.parts c.self.inside.size true c.self.inside.back =
    c.share.view_is ∙ c.requires.share ∙ (λ i. range_of (sym v i).sum (sym v i).parts (sym v i).size true (sym v i).back) in
    let parts : length c.share.inside.parts.items ≡ c.self.inside.parts = ap (λ (r : RangeView). r.parts) e in
    let size : c.share.inside.size ≡ c.self.inside.size = ap (λ (r : RangeView). r.size) e in
    let done : IsTrue c.share.inside.done = is-true share.done (ap (λ (r : RangeView). r.done) e) in
    let appended : c.append.new.self.items ≡ c.self.inside.working.many.items ++ c.share.inside.parts.items = c.in-Ok.ensures.items in
    let left : c.self.inside.back < c.self.inside.number = omega (arith, c.requires.left, ap (λ (v : CollectingView). v.back) c.self.view_is, ap (λ (v : CollectingView). v.number) c.self.view_is) in
    let next : self.back * (self.parts * self.size) + self.parts * self.size ≡ (self.back + 1) * (self.parts * self.size) = omega arith in
    let more : c.self.inside.back * c.self.inside.parts + c.self.inside.parts ≡ (c.self.inside.back + 1) * c.self.inside.parts = omega arith in
    let whole : length c.self.inside.working.many.items * c.self.inside.size ≡ c.self.inside.back * (c.self.inside.parts * c.self.inside.size) = ap (λ (n : ℕ). n * self.size) inv.many ∙ omega arith in
    let here : IsGathered (sum_of c.self.inside.layer (bound_of c.self.inside.working)) (c.self.inside.back * (c.self.inside.parts * c.self.inside.size)) (c.self.inside.parts * c.self.inside.size) c.self.inside.size c.share.inside.parts.items =
    subst (λ (r : RangeView). IsGathered r.sum r.from (r.parts * r.size) r.size qs) e
    (subst (λ (n : ℕ). IsGathered (sum_of share.layer share.bound.items) share.from n share.size qs) c.share.invariant.whole (c.share.invariant.gathered done)) in
    record {
      layer_is = inv.layer_is;
      begins = parts-moved self.layer self.working _ self.value refl (omega (arith, c.in-Ok.ensures.capacity)) inv.begins;
      ranges = inv.ranges;
      most = omega (arith, left);
      many = ap length appended ∙ length-append ps qs ∙ ap₂ (λ (a b : ℕ). a + b) inv.many parts ∙ more;
      capacities = subst (All (HasCapacity self.size)) (sym appended) (All-append (HasCapacity self.size) ps qs inv.capacities (subst (λ (n : ℕ). All (HasCapacity n) qs) size c.share.invariant.capacities));
      gathered = subst (IsGathered sum 0 ((self.back + 1) * (self.parts * self.size)) self.size) (sym appended)
          (subst (λ (n : ℕ). IsGathered sum 0 n self.size (ps ++ qs)) next (gathered-more sum (self.back * (self.parts * self.size)) (self.parts * self.size) self.size ps qs whole inv.gathered here));
      enough = inv.enough;
      rooms_back = omega (arith, inv.rooms_back, c.in-Ok-push.ensures.len, left);
      rooms_capacity = omega (arith, inv.rooms_capacity, c.in-Ok-push.ensures.capacity);
    }
