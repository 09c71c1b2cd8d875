-- What is gathered is the phase's
use Rattle.std.proofs.Common.{rules, ◌≡◌, ◌<◌, length, sym}
use Rattle.field_ext.specs.Field.{K, k_ops}
use Rattle.gate_gather.specs.Gathering.{GathersLeft}
use Rattle.round_tables.specs.Working.{place_of, weights_of}
use Rattle.round_tables.proofs.Beginnings.{no-values, first-phase, second-phase}
use Rattle.round_tables.proofs.working.gather.Goals as goal

pub returns-then-is_empty-clause-gathers : goal.returns-then-is_empty-clause-gathers
returns-then-is_empty-clause-gathers g c =
    let layer = c.args.layer.now in
    let none : length c.args.bound.now ≡ 0 = search rules in
    let gathers : GathersLeft K k_ops c.args.layer.now.gates.now (weights_of c.args.layer.now) c.args.layer.now.values.now.items c.args.from c.gather_first.new.scales c.gather_first.new.shifts =
    coe 0 1 (i. GathersLeft K k_ops c.args.layer.now.gates.now (weights_of c.args.layer.now) (sym c.values.ensures i) c.args.from c.gather_first.new.scales c.gather_first.new.shifts) c.gather_first.ensures in
    first-phase layer.k layer.gates.now layer.values.now.items (place_of layer) c.requires.layer.layer_is (weights_of layer) c.args.bound.now c.args.from c.gather_first.new.scales c.gather_first.new.shifts
    (no-values c.args.bound.now none) c.requires.layer.weights gathers

pub returns-else-is_empty-clause-gathers : goal.returns-else-is_empty-clause-gathers
returns-else-is_empty-clause-gathers g c =
    let layer = c.args.layer.now in
    let some : 0 < length c.args.bound.now = search rules in
    second-phase layer.k layer.gates.now layer.values.now.items (place_of layer) c.requires.layer.layer_is (weights_of layer) c.args.value c.args.bound.now c.args.from c.gather_second.new.scales c.gather_second.new.shifts
    some c.requires.begins c.requires.layer.weights c.gather_second.ensures.gathers

pub gather_first-requires-clause-layer : goal.gather_first-requires-clause-layer
gather_first-requires-clause-layer g c = search rules

pub gather_first-requires-clause-values : goal.gather_first-requires-clause-values
gather_first-requires-clause-values g c = search rules

pub gather_first-requires-clause-same : goal.gather_first-requires-clause-same
gather_first-requires-clause-same g c = search rules

pub gather_second-requires-clause-layer : goal.gather_second-requires-clause-layer
gather_second-requires-clause-layer g c = search rules

pub gather_second-requires-clause-bound : goal.gather_second-requires-clause-bound
gather_second-requires-clause-bound g c = search rules

pub gather_second-requires-clause-same : goal.gather_second-requires-clause-same
gather_second-requires-clause-same g c = search rules

pub returns-then-is_empty-clause-steps : goal.returns-then-is_empty-clause-steps
returns-then-is_empty-clause-steps g c = search rules

pub returns-else-is_empty-clause-steps : goal.returns-else-is_empty-clause-steps
returns-else-is_empty-clause-steps g c = search rules
