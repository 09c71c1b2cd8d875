-- The left operand is bound, and its value is there
use Rattle.std.proofs.Common.{◌≡◌, ℕ, ◌-◌, [], ◌∷◌, ◌++◌, length, get_or, arith, ◌∙◌, ap, sym, subst}
use Rattle.field_ext.specs.Field.{k_ops, zero_k}
use Rattle.field_ext.specs.Multilinear.{extension_at}
use Rattle.field_ext.proofs.api.KLaws.{k_laws}
use Rattle.round_tables.specs.LayerSum.{left_in_phase}
use Rattle.table_parts.specs.PartTables.{AreLaidOut, flat_table, flat_scales, flat_shifts}
use Rattle.round_tables.specs.Working.{place_of, bound_of, parts_of}
use Rattle.round_tables.proofs.Beginnings.{all-bound}
use Rattle.round_tables.proofs.PhaseSteps.{kept_value, length-bound, length-count}
use Rattle.round_tables.proofs.PieceValues.{in_left_phase}
use Rattle.round_tables.proofs.working.Working.reach.Goals as goal

pub only_value-requires : goal.only_value-requires
only_value-requires c =
    let k = c.args.layer.now.k in
    let old = c.args.old.value in
    let last : left_in_phase k old.count - 1 ≡ 0 = omega (arith, c.requires.left, (in_left_phase k old.count (omega (arith, c.requires.left))).0) in
    subst (λ (m : ℕ). AreLaidOut k m (parts_of c.advance.new.self)) last c.advance.ensures.advanced.laid

pub returns-clause-begins : goal.returns-clause-begins
returns-clause-begins c =
    let k = c.args.layer.now.k in
    let r = c.args.r in
    let old = c.args.old.value in
    let works = c.requires.works in
    let did = c.advance.ensures.advanced in
    let new = c.advance.new.self in
    let n : length (bound_of c.args.old.value) ≡ c.args.old.value.count = length-count old.challenges.items k old.count (sym old.challenges.ok.0 ∙ works.capacities.challenges) works.counted in
    let bound : bound_of c.advance.new.self ≡ bound_of c.args.old.value ++ c.args.r ∷ [] = did.bound in
    let full : length (bound_of c.advance.new.self) ≡ c.args.layer.now.k = ap length bound ∙ length-bound (bound_of old) r ∙ omega (arith, n, c.requires.left) in
    let kept : get_or (flat_table (parts_of c.advance.new.self)) 0 zero_k ≡ extension_at k_ops k_ops (λ x. x) c.args.layer.now.values.now.items (bound_of c.args.old.value ++ c.args.r ∷ []) =
    kept_value k_ops k_laws k c.args.layer.now.gates.now c.args.layer.now.values.now.items (place_of c.args.layer.now)
    (bound_of old) (flat_table (parts_of old)) (flat_scales (parts_of old)) (flat_shifts (parts_of old)) r (flat_table (parts_of new)) works.phase (omega (arith, n, c.requires.left)) (λ j u. ap (λ t. get_or t j zero_k) did.table) in
    record {
      capacities = did.capacities;
      counted = omega (arith, did.count, c.requires.left);
      beginning = all-bound k c.args.layer.now.values.now.items _ (bound_of new) (omega (arith, full, c.requires.layer.layer_is.least)) full
          (c.only_value.ensures ∙ kept ∙ ap (extension_at k_ops k_ops (λ x. x) c.args.layer.now.values.now.items) (sym bound));
    }
