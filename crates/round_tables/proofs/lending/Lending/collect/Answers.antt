-- No range is back yet
use Rattle.std.proofs.Common.{◌≡◌, ℕ, ◌-◌, ◌*◌, length, arith, sym, ◌∙◌, ap, subst}
use Rattle.round_tables.specs.Ranges.{LendingView, IsGathered, sum_of}
use Rattle.round_tables.specs.Working.{bound_of}
use Rattle.round_tables.proofs.Ranges.{nothing-gathered}
use Rattle.round_tables.proofs.lending.Lending.collect.Goals as goal

pub invariant_of-result : goal.invariant_of-result
invariant_of-result c =
    let self = c.self.inside in
    let inv = c.self.invariant in
    let all : c.self.inside.lent ≡ c.self.inside.number = ap (λ (v : LendingView). v.lent) c.self.view_is ∙ c.requires.all ∙ sym (ap (λ (v : LendingView). v.number) c.self.view_is) in
    let over : c.self.inside.number - c.self.inside.lent ≡ 0 = omega (arith, all) in
    let none : length c.self.inside.working.many.items ≡ 0 = inv.many ∙ ap (λ (n : ℕ). n * self.parts) over ∙ omega arith in
    let zero : 0 ≡ 0 * (c.self.inside.parts * c.self.inside.size) = omega arith in
    record {
      layer_is = inv.layer_is;
      begins = inv.begins;
      ranges = inv.ranges;
      most = omega arith;
      many = none ∙ omega arith;
      capacities = inv.capacities;
      gathered = subst (λ (n : ℕ). IsGathered (sum_of self.layer (bound_of self.working)) 0 n self.size self.working.many.items) zero
          (nothing-gathered (sum_of self.layer (bound_of self.working)) self.size self.working.many.items none);
      enough = inv.enough;
      rooms_back = omega (arith, inv.rooms_left, all);
      rooms_capacity = inv.rooms_capacity;
    }
