-- All ranges are the phase
use Rattle.std.proofs.Common.{◌≡◌, ℕ, ◌-◌, ◌*◌, ◌^◌, refl, false, length, All, arith, sym, ◌∙◌, ap, subst}
use Rattle.std.proofs.lemmas.List.{take_all}
use Rattle.table_parts.specs.PartTables.{HasCapacity, HasSize, cuts, cuts_left}
use Rattle.round_tables.specs.declared.working.Working.{Working}
use Rattle.round_tables.specs.Ranges.{CollectingView}
use Rattle.round_tables.specs.Working.{HasCapacities}
use Rattle.round_tables.proofs.Beginnings.{works-begun}
use Rattle.round_tables.proofs.LaidOut.{in_many}
use Rattle.round_tables.proofs.Ranges.{all-places}
use Rattle.round_tables.proofs.lending.Collecting.gathered.Goals as goal

pub invariant_of-result : goal.invariant_of-result
invariant_of-result c =
    let self = c.self.inside in
    let inv = c.self.invariant in
    let k = self.layer.k in
    let w = self.working in
    let all : c.self.inside.back ≡ c.self.inside.number = ap (λ (v : CollectingView). v.back) c.self.view_is ∙ c.requires.all ∙ sym (ap (λ (v : CollectingView). v.number) c.self.view_is) in
    let many : length c.self.inside.working.many.items ≡ 2 ^ cuts c.self.inside.layer.k = inv.many ∙ ap (λ (n : ℕ). n * self.parts) all ∙ inv.ranges.all in
    let spread : cuts_left c.self.inside.layer.k c.self.inside.layer.k ≡ cuts c.self.inside.layer.k = in_many k k (omega (arith, inv.layer_is.layer_is.least)) in
    let whole : c.self.inside.back * (c.self.inside.parts * c.self.inside.size) ≡ 2 ^ c.self.inside.layer.k = ap (λ (n : ℕ). n * (self.parts * self.size)) all ∙ all-places k self.number self.parts self.size inv.ranges in
    let new : Working = record w { merged = false } in
    let capacities : HasCapacities c.self.inside.layer.k new = record {
      challenges = inv.begins.challenges;
      scales = inv.begins.scales;
      shifts = inv.begins.shifts;
      many = many;
      many_capacity = subst (λ (n : ℕ). All (HasCapacity n) w.many.items) inv.ranges.whole inv.capacities;
      one = inv.begins.one;
      one_capacity = inv.begins.one_capacity;
    } in (
      inv.layer_is,
      works-begun self.layer new new self.value inv.layer_is record { capacities = capacities; counted = inv.begins.counted; beginning = inv.begins.beginning } capacities refl refl
          record {
            number = many ∙ ap (λ (n : ℕ). 2 ^ n) (sym spread);
            sizes = subst (λ (n : ℕ). All (HasSize n) w.many.items) (inv.ranges.whole ∙ ap (λ (n : ℕ). 2 ^ (k - n)) (sym spread)) inv.gathered.sizes;
          }
          (inv.gathered.table ∙ take_all _ self.layer.values.now.items (omega (arith, whole, inv.layer_is.layer_is.size)))
          inv.gathered.gathers,
    )
