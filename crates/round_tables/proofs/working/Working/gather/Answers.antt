-- The phase begins with what is gathered
use Rattle.std.proofs.Common.{◌≡◌, ◌∙◌, length, take, sym, rules}
use Rattle.wiring_poly.proofs.api.Identity.{written_back}
use Rattle.table_parts.specs.PartTables.{flat_scales, flat_shifts}
use Rattle.round_tables.specs.Working.{GathersPhase, parts_of, place_of, bound_of}
use Rattle.round_tables.proofs.Beginnings.{works-begun}
use Rattle.round_tables.proofs.working.Working.gather.Goals as goal

pub returns-clause-works : goal.returns-clause-works
returns-clause-works g c =
    let layer = c.args.layer.now in
    let old = c.args.self.now in
    let new = c.lay_out.new.self in
    let laid = c.lay_out.ensures in
    let second : length c.gather.new.scales ≡ c.args.self.now.scales.len = c.gather.auto.scales ∙ c.deref_mut.ensures.len in
    let third : length c.gather.new.shifts ≡ c.args.self.now.shifts.len = c.gather.auto.shifts ∙ c.deref_mut-2.ensures.len in
    let scales : flat_scales (parts_of c.lay_out.new.self) ≡ c.gather.new.scales = laid.scales ∙ written_back old.scales.items c.gather.new.scales old.scales.len second in
    let shifts : flat_shifts (parts_of c.lay_out.new.self) ≡ c.gather.new.shifts = laid.shifts ∙ written_back old.shifts.items c.gather.new.shifts old.shifts.len third in
    let bound : c.split_at.result.0.now ≡ bound_of c.args.self.now = c.split_at.ensures.front ∙ (λ i. take old.count (c.as_slice.ensures.value i)) in
    let same : bound_of c.lay_out.new.self ≡ bound_of c.args.self.now = λ i. take (laid.count i) ((laid.challenges i).items) in
    works-begun layer old new c.args.value c.requires.layer c.requires.begins laid.capacities same laid.count laid.laid laid.table
    (coe 0 1 (i. GathersPhase c.args.layer.now.gates.now c.args.layer.now.values.now.items (place_of c.args.layer.now) (bound i) 0 (sym scales i) (sym shifts i)) c.gather.ensures.gathers)

pub split_at-requires : goal.split_at-requires
split_at-requires g c = search rules

pub gather-requires-clause-layer : goal.gather-requires-clause-layer
gather-requires-clause-layer g c = search rules

pub gather-requires-clause-begins : goal.gather-requires-clause-begins
gather-requires-clause-begins g c = search rules

pub gather-requires-clause-same : goal.gather-requires-clause-same
gather-requires-clause-same g c = search rules

pub lay_out-requires-clause-layer : goal.lay_out-requires-clause-layer
lay_out-requires-clause-layer g c = search rules

pub lay_out-requires-clause-capacities : goal.lay_out-requires-clause-capacities
lay_out-requires-clause-capacities g c = search rules

pub returns-clause-bound : goal.returns-clause-bound
returns-clause-bound g c = search rules

pub returns-clause-steps : goal.returns-clause-steps
returns-clause-steps g c = search rules
