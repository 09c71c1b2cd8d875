-- Each part has the pairs of the round
use Rattle.std.proofs.Common.{◌≡◌, ℕ, ◌+◌, ◌-◌, ◌*◌, ◌/◌, ◌^◌, ◌<◌, length, refl, sym, ◌∙◌, ap, ap₂, arith, subst, All}
use Rattle.round_tables.specs.LayerSum.{left_in_phase}
use Rattle.table_parts.specs.PartTables.{HasSize}
use Rattle.round_tables.specs.Working.{parts_of}
use Rattle.round_tables.proofs.PhaseSteps.{some_left}
use Rattle.round_tables.proofs.LaidOut.{half, halves, all-pairs, first-half}
use Rattle.round_tables.proofs.working.Working.fold_round.Goals as goal

pub fold-requires : goal.fold-requires
fold-requires g c =
    let k = c.args.layer.now.k in
    let w = c.args.self.now in
    let ps = parts_of w in
    let m = left_in_phase k w.count in
    let laid = c.requires.works.laid in
    let some : 0 < m = omega (arith, some_left k w.count w.count refl c.requires.left) in
    subst (λ (x : ℕ). All (HasSize (2 * x)) ps)
    (sym (first-half k m ps some laid _ c.index-parts-0.result c.len-half.result c.index-parts-0.is c.parts.ensures c.len-half.ensures)) (halves k m ps some laid)

pub returns-clause-steps : goal.returns-clause-steps
returns-clause-steps g c =
    let k = c.args.layer.now.k in
    let w = c.args.self.now in
    let ps = parts_of w in
    let m = left_in_phase k w.count in
    let laid = c.requires.works.laid in
    let some : 0 < m = omega (arith, some_left k w.count w.count refl c.requires.left) in
    let is : c.len-half.result / 2 ≡ half k m ps some laid =
    first-half k m ps some laid _ c.index-parts-0.result c.len-half.result c.index-parts-0.is c.parts.ensures c.len-half.ensures in
    let pairs : length ps * (c.len-half.result / 2) ≡ 2 ^ (m - 1) = ap₂ (λ (a b : ℕ). a * b) laid.number is ∙ all-pairs k m some in
    c.fold.ensures.steps ∙ ap (λ (x : ℕ). c.args.steps.now + 3 * x) pairs
