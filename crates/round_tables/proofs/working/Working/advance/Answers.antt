use Rattle.std.proofs.lemmas.Grind.{elements}
-- The parts are folded, and gathered into one where each has one value
use Rattle.std.proofs.Common.{◌≡◌, ◌≢◌, ℕ, ◌+◌, ◌-◌, ◌^◌, ◌<◌, [], ◌++◌, length, take, drop, get_or, refl, sym, ◌∙◌, ap, arith, subst, All, rules}
use Rattle.std.proofs.lemmas.List.{length-map}
use Rattle.round_tables.specs.LayerSum.{left_in_phase}
use Rattle.table_parts.specs.PartTables.{PartTables, HasSize, HasCapacity, folded_part, cuts, flat_table, flat_scales, flat_shifts, AreLaidOut}
use Rattle.round_tables.specs.Working.{parts_of, HasCapacities}
use Rattle.round_tables.proofs.PhaseSteps.{some_left}
use Rattle.wiring_poly.proofs.api.Identity.{written_back}
use Rattle.round_tables.proofs.LaidOut.{half, sizes-folded, flat-folded, laid-folded, laid-merged}
use Rattle.round_tables.proofs.Advances.{is-true, in-many-parts, spread-many, capacities-folded, noted}
use Rattle.round_tables.proofs.working.Working.advance.Goals as goal

pub merge_parts-requires-clause-sizes : goal.merge_parts-requires-clause-sizes
merge_parts-requires-clause-sizes c =
    let k = c.args.layer.now.k in
    let r = c.args.r in
    let old = c.args.old.value in
    let self = c.args.self.now in
    let m = left_in_phase k old.count in
    let works = c.requires.works in
    let laid = works.laid in
    let ps = parts_of old in
    let some : 0 < m = omega (arith, some_left k old.count old.count refl c.requires.left) in
    let h : ℕ = half k m ps some laid in
    let capacities : HasCapacities k self = capacities-folded k old self r works.capacities c.requires.folded in
    let sizes : All (HasSize h) (parts_of self) = subst (All (HasSize h)) (sym c.requires.folded.parts) (sizes-folded k m ps some laid r) in
    let many : length (parts_of self) ≡ length ps = ap length c.requires.folded.parts ∙ length-map ps (folded_part r) in
    let none : PartTables = record { table = []; scales = []; shifts = []; capacity = 0 } in
    let first : 0 < length (parts_of self) → length (get_or (parts_of self) 0 none).table ≡ h = λ u. (sizes 0 none u).table in
    let thin = c.is_thin.ensures.thin (is-true c.is_thin.result c.if-is_thin.true) in
    let own = in-many-parts self (spread-many k self capacities thin.0) in
    let one : h ≡ 1 = sym (first (let more = thin.0 in omega arith)) ∙ thin.1 none in
    subst (All (HasSize 1)) (own ∙ sym c.deref.ensures.value) (subst (λ (n : ℕ). All (HasSize n) (parts_of self)) one sizes)

pub returns-then-is_thin : goal.returns-then-is_thin
returns-then-is_thin c =
    let k = c.args.layer.now.k in
    let r = c.args.r in
    let old = c.args.old.value in
    let self = c.args.self.now in
    let m = left_in_phase k old.count in
    let works = c.requires.works in
    let laid = works.laid in
    let ps = parts_of old in
    let some : 0 < m = omega (arith, some_left k old.count old.count refl c.requires.left) in
    let h : ℕ = half k m ps some laid in
    let capacities : HasCapacities k self = capacities-folded k old self r works.capacities c.requires.folded in
    let sizes : All (HasSize h) (parts_of self) = subst (All (HasSize h)) (sym c.requires.folded.parts) (sizes-folded k m ps some laid r) in
    let many : length (parts_of self) ≡ length ps = ap length c.requires.folded.parts ∙ length-map ps (folded_part r) in
    let none : PartTables = record { table = []; scales = []; shifts = []; capacity = 0 } in
    let first : 0 < length (parts_of self) → length (get_or (parts_of self) 0 none).table ≡ h = λ u. (sizes 0 none u).table in
    let thin = c.is_thin.ensures.thin (is-true c.is_thin.result c.if-is_thin.true) in
    let own = in-many-parts self (spread-many k self capacities thin.0) in
    let one : h ≡ 1 = sym (first (let more = thin.0 in omega arith)) ∙ thin.1 none in
    let merged = c.merge_parts.ensures in
    let back : take self.one.len (c.merge_parts.new.one ++ drop (length c.merge_parts.new.one) self.one.items) ≡ c.merge_parts.new.one = written_back self.one.items c.merge_parts.new.one self.one.len (omega (arith, merged.some, capacities.one, self.one.ok.0)) in
    let whole : c.deref.result.now ≡ parts_of self = c.deref.ensures.value ∙ sym own in
    let number : length c.deref.result.now ≡ length ps = ap length whole ∙ many in
    let more : 1 < length ps = omega (arith, thin.0, many) in
    let all : length c.deref.result.now ≡ 2 ^ cuts k = ap length c.deref.ensures.value ∙ capacities.many in
    record {
      advanced = record {
        capacities = record {
          challenges = capacities.challenges;
          scales = capacities.scales;
          shifts = capacities.shifts;
          many = capacities.many;
          many_capacity = capacities.many_capacity;
          one = ap length back ∙ merged.some;
          one_capacity = subst (All (HasCapacity (2 ^ cuts k))) (sym back) (subst (λ (n : ℕ). All (HasCapacity n) c.merge_parts.new.one) all merged.capacities);
        };
        bound = noted old self r (k + k) works.capacities.challenges c.requires.left c.requires.folded.others;
        count = ap (λ (n : ℕ). n + 1) c.requires.folded.others.count;
        laid = subst (AreLaidOut k (m - 1)) (sym back) (laid-merged k m ps some laid r c.merge_parts.new.one more one merged.some (subst (λ (n : ℕ). All (HasSize n) c.merge_parts.new.one) number merged.sizes));
        table = ap flat_table back ∙ merged.table ∙ ap flat_table (whole ∙ c.requires.folded.parts) ∙ flat-folded k m ps some laid (λ p. p.table) r (λ p. refl) (λ n p h. h.table);
        scales = ap flat_scales back ∙ merged.scales ∙ ap flat_scales (whole ∙ c.requires.folded.parts) ∙ flat-folded k m ps some laid (λ p. p.scales) r (λ p. refl) (λ n p h. h.scales);
        shifts = ap flat_shifts back ∙ merged.shifts ∙ ap flat_shifts (whole ∙ c.requires.folded.parts) ∙ flat-folded k m ps some laid (λ p. p.shifts) r (λ p. refl) (λ n p h. h.shifts);
      };
      kept = λ more. absurd (omega (arith, more, one));
    }

pub returns : goal.returns
returns c =
    let k = c.args.layer.now.k in
    let r = c.args.r in
    let old = c.args.old.value in
    let self = c.args.self.now in
    let m = left_in_phase k old.count in
    let works = c.requires.works in
    let laid = works.laid in
    let ps = parts_of old in
    let some : 0 < m = omega (arith, some_left k old.count old.count refl c.requires.left) in
    let h : ℕ = half k m ps some laid in
    let capacities : HasCapacities k self = capacities-folded k old self r works.capacities c.requires.folded in
    let sizes : All (HasSize h) (parts_of self) = subst (All (HasSize h)) (sym c.requires.folded.parts) (sizes-folded k m ps some laid r) in
    let many : length (parts_of self) ≡ length ps = ap length c.requires.folded.parts ∙ length-map ps (folded_part r) in
    let none : PartTables = record { table = []; scales = []; shifts = []; capacity = 0 } in
    let first : 0 < length (parts_of self) → length (get_or (parts_of self) 0 none).table ≡ h = λ u. (sizes 0 none u).table in
    let thick : 1 < length ps → h ≢ 1 = λ more one. let u : 1 < length (parts_of self) = omega (arith, many, more) in c.is_thin.ensures.thick c.if-is_thin.false u none (first (omega arith) ∙ one) in
    record {
      advanced = record {
        capacities = record {
          challenges = capacities.challenges;
          scales = capacities.scales;
          shifts = capacities.shifts;
          many = capacities.many;
          many_capacity = capacities.many_capacity;
          one = capacities.one;
          one_capacity = capacities.one_capacity;
        };
        bound = noted old self r (k + k) works.capacities.challenges c.requires.left c.requires.folded.others;
        count = ap (λ (n : ℕ). n + 1) c.requires.folded.others.count;
        laid = subst (AreLaidOut k (m - 1)) (sym c.requires.folded.parts) (laid-folded k m ps some laid r thick);
        table = ap flat_table c.requires.folded.parts ∙ flat-folded k m ps some laid (λ p. p.table) r (λ p. refl) (λ n p h. h.table);
        scales = ap flat_scales c.requires.folded.parts ∙ flat-folded k m ps some laid (λ p. p.scales) r (λ p. refl) (λ n p h. h.scales);
        shifts = ap flat_shifts c.requires.folded.parts ∙ flat-folded k m ps some laid (λ p. p.shifts) r (λ p. refl) (λ n p h. h.shifts);
      };
      kept = λ more. refl;
    }

pub index_mut-requires : goal.index_mut-requires
index_mut-requires g = search rules

pub overflow_add-self : goal.overflow_add-self
overflow_add-self g = search rules

pub merge_parts-requires-clause-capacity : goal.merge_parts-requires-clause-capacity
merge_parts-requires-clause-capacity g c = grind (arith, elements)
