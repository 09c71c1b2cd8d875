-- The second phase goes on
use Rattle.std.proofs.Common.{◌≡◌, ◌-◌, inr, length, get_or, arith, ◌∙◌, ap, sym, subst}
use Rattle.field_ext.specs.Field.{k_ops, zero_k}
use Rattle.field_ext.proofs.api.KLaws.{k_laws}
use Rattle.round_tables.specs.LayerSum.{left_in_phase}
use Rattle.table_parts.specs.PartTables.{flat_table, flat_scales, flat_shifts, AreLaidOut}
use Rattle.round_tables.specs.Working.{place_of, bound_of, parts_of}
use Rattle.round_tables.proofs.PhaseSteps.{bound_right, some_left, length-count}
use Rattle.round_tables.proofs.LaidOut.{left-next}
use Rattle.round_tables.proofs.working.Working.close_right.Goals as goal

pub returns-clause-works : goal.returns-clause-works
returns-clause-works c =
    let k = c.args.layer.now.k in
    let r = c.args.r in
    let old = c.args.old.value in
    let works = c.requires.works in
    let n : length (bound_of c.args.old.value) ≡ c.args.old.value.count = length-count old.challenges.items k old.count (sym old.challenges.ok.0 ∙ works.capacities.challenges) works.counted in
    let new = c.advance.new.self in
    let advanced = c.advance.ensures.advanced in
    let left = left-next k old.count new.count advanced.count (omega arith) (inr (omega arith)) in
    record {
      capacities = advanced.capacities;
      counted = omega (arith, advanced.count);
      laid = subst (λ m. AreLaidOut k m (parts_of new)) (sym left) advanced.laid;
      phase = rw advanced.bound (bound_right k_ops k_laws k c.args.layer.now.gates.now c.args.layer.now.values.now.items (place_of c.args.layer.now)
          (bound_of old) (flat_table (parts_of old)) (flat_scales (parts_of old)) (flat_shifts (parts_of old)) r (left_in_phase k old.count - 1)
          (flat_table (parts_of new)) (flat_scales (parts_of new)) (flat_shifts (parts_of new)) works.phase c.requires.layer.layer_is.least (omega arith) (omega arith) (some_left k (length (bound_of old)) old.count n (omega arith))
          (λ j u. ap (λ t. get_or t j zero_k) advanced.table) (λ j u. ap (λ t. get_or t j zero_k) advanced.scales) (λ j u. ap (λ t. get_or t j zero_k) advanced.shifts));
    }
