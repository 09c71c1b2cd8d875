-- The parts have the values of the range, and what is gathered
use Rattle.std.proofs.Common.{◌≡◌, ℕ, ◌+◌, ◌-◌, ◌*◌, ◌++◌, length, take, drop, vec_len, All, arith, sym, ◌∙◌, ap, subst, rules}
use Rattle.wiring_poly.proofs.api.Identity.{written_back}
use Rattle.field_ext.specs.Field.{embed_k}
use Rattle.table_parts.specs.PartTables.{HasCapacity, HasSize, flat_table, flat_scales, flat_shifts}
use Rattle.round_tables.specs.Working.{GathersPhase, place_of}
use Rattle.table_parts.proofs.api.Halves.{range-map}
use Rattle.round_tables.proofs.share.Share.gather_from.Goals as goal

pub invariant_of-self : goal.invariant_of-self
invariant_of-self g c =
    let self = c.self.inside in
    let inv = c.self.invariant in
    let parts = c.fill_parts.new.parts in
    let same : length c.fill_parts.new.parts ≡ length c.self.inside.parts.items = c.fill_parts.auto.parts ∙ ap length c.deref_mut-3.ensures.value in
    let back : take c.self.inside.parts.len (c.fill_parts.new.parts ++ drop (length c.fill_parts.new.parts) c.self.inside.parts.items) ≡ c.fill_parts.new.parts = written_back self.parts.items parts self.parts.len (c.fill_parts.auto.parts ∙ c.deref_mut-3.ensures.len) in
    let width : c.self.inside.from + c.len.result - c.self.inside.from ≡ vec_len c.self.inside.scales = omega (arith, c.len.ensures) in
    let scales : flat_scales (take c.self.inside.parts.len (c.fill_parts.new.parts ++ drop (length c.fill_parts.new.parts) c.self.inside.parts.items)) ≡ c.gather.new.scales = ap flat_scales back ∙ c.fill_parts.ensures.scales ∙ c.deref-2.ensures.value ∙ written_back self.scales.items c.gather.new.scales self.scales.len (c.gather.auto.scales ∙ c.deref_mut.ensures.len) in
    let shifts : flat_shifts (take c.self.inside.parts.len (c.fill_parts.new.parts ++ drop (length c.fill_parts.new.parts) c.self.inside.parts.items)) ≡ c.gather.new.shifts = ap flat_shifts back ∙ c.fill_parts.ensures.shifts ∙ c.deref-3.ensures.value ∙ written_back self.shifts.items c.gather.new.shifts self.shifts.len (c.gather.auto.shifts ∙ c.deref_mut-2.ensures.len) in
    record {
      layer_is = inv.layer_is;
      beginning = inv.beginning;
      within = inv.within;
      same = inv.same;
      whole = inv.whole ∙ ap (λ (n : ℕ). n * self.size) (sym (ap length back ∙ same));
      capacities = subst (All (HasCapacity self.size)) (sym back) c.fill_parts.ensures.capacities;
      gathered = λ _. record {
        sizes = subst (All (HasSize self.size)) (sym back) c.fill_parts.ensures.sizes;
        table = ap flat_table back ∙ c.fill_parts.ensures.table ∙ range-map embed_k c.values.result.now self.from (self.from + c.len.result) ∙ (λ i. take (width i) (drop self.from (sym c.values.ensures i)));
        gathers = coe 0 1 (i. GathersPhase self.layer.gates.now self.layer.values.now.items (place_of self.layer) (c.deref.ensures.value i) self.from (sym scales i) (sym shifts i)) c.gather.ensures.gathers;
      };
    }

pub start-steps-requires-clause-name : goal.start-steps-requires-clause-name
start-steps-requires-clause-name g c = search rules

pub start-steps-requires-clause-parts : goal.start-steps-requires-clause-parts
start-steps-requires-clause-parts g c = search rules

pub start-steps-requires-clause-some : goal.start-steps-requires-clause-some
start-steps-requires-clause-some g c = search rules

pub gather-requires-clause-layer : goal.gather-requires-clause-layer
gather-requires-clause-layer g c = search rules

pub gather-requires-clause-begins : goal.gather-requires-clause-begins
gather-requires-clause-begins g c = search rules

pub gather-requires-clause-same : goal.gather-requires-clause-same
gather-requires-clause-same g c = search rules

pub overflow_add-to : goal.overflow_add-to
overflow_add-to g c = search rules

pub offset_bounds-values-self-inside : goal.offset_bounds-values-self-inside
offset_bounds-values-self-inside g c = search rules

pub slice_bounds-fill_parts-count : goal.slice_bounds-fill_parts-count
slice_bounds-fill_parts-count g c = search rules

pub slice_bounds-fill_parts-start : goal.slice_bounds-fill_parts-start
slice_bounds-fill_parts-start g c = search rules

pub fill_parts-requires-clause-table : goal.fill_parts-requires-clause-table
fill_parts-requires-clause-table g c = search rules

pub fill_parts-requires-clause-scales : goal.fill_parts-requires-clause-scales
fill_parts-requires-clause-scales g c = search rules

pub fill_parts-requires-clause-shifts : goal.fill_parts-requires-clause-shifts
fill_parts-requires-clause-shifts g c = search rules

pub fill_parts-requires-clause-capacities : goal.fill_parts-requires-clause-capacities
fill_parts-requires-clause-capacities g c = search rules
