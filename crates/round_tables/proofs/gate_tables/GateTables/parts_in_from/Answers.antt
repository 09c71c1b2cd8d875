-- Parts that stay sum to the pieces of the next round
use Rattle.std.proofs.Common.{rules, ◌≡◌, ◌+◌, ◌<◌, List, [], ◌∷◌, ◌++◌, length, get_or, refl, sym, ◌∙◌, ap, arith}
use Rattle.table_parts.specs.PartTables.{PartTables, part_sum}
use Rattle.round_tables.specs.LayerSum.{LayerSum}
use Rattle.round_tables.specs.Working.{WorksFor, bound_of, parts_of, lent_parts}
use Rattle.round_tables.proofs.PhaseSteps.{length-count, length-bound, more-left}
use Rattle.round_tables.proofs.PartSums.{piece-of}
use Rattle.round_tables.proofs.gate_tables.GateTables.parts_in_from.Goals as goal

pub returns-clause-sums : goal.returns-clause-sums
returns-clause-sums g c stays i part within =
    let layer = c.self.inside.layer in
    let new = c.close_round.new.self in
    let s = c.args.self.now in
    let works : WorksFor c.self.inside.layer c.close_round.new.self = c.close_round.ensures.works in
    let n : length (bound_of c.close_round.new.self) ≡ c.close_round.new.self.count = length-count new.challenges.items layer.k new.count (sym new.challenges.ok.0 ∙ works.capacities.challenges) works.counted in
    let same : parts_of c.close_round.new.self ≡ c.args.parts.items = search rules in
    let whole : bound_of c.close_round.new.self ≡ c.args.self.now.bound ++ c.args.r ∷ [] = search rules in
    let k : c.self.inside.layer.k ≡ c.args.self.now.k = ap (λ (s : LayerSum). s.k) c.self.view_is in
    let left : c.close_round.new.self.count < c.self.inside.layer.k + c.self.inside.layer.k =
    omega (arith, n, ap length whole, length-bound s.bound c.args.r, k, more-left s.k (length s.bound) c.requires.left stays.1) in
    let here : i < length (parts_of c.close_round.new.self) = search rules in
    ap (λ (ps : List PartTables). part_sum (get_or ps i part)) (sym same)
    ∙ piece-of layer new c.self.invariant.0 works left i part here _ (lent_parts c.take.new.self) refl

pub start-steps-requires-clause-name : goal.start-steps-requires-clause-name
start-steps-requires-clause-name g c = search rules

pub start-steps-requires-clause-parts : goal.start-steps-requires-clause-parts
start-steps-requires-clause-parts g c = search rules

pub start-steps-requires-clause-some : goal.start-steps-requires-clause-some
start-steps-requires-clause-some g c = search rules

pub unreachable-requires : goal.unreachable-requires
unreachable-requires g c = search rules

pub unreachable-unreachable : goal.unreachable-unreachable
unreachable-unreachable g c = search rules

pub close_round-requires-clause-layer : goal.close_round-requires-clause-layer
close_round-requires-clause-layer g c = search rules

pub close_round-requires-clause-works : goal.close_round-requires-clause-works
close_round-requires-clause-works g c = search rules

pub close_round-requires-clause-folded : goal.close_round-requires-clause-folded
close_round-requires-clause-folded g c = search rules

pub close_round-requires-clause-left : goal.close_round-requires-clause-left
close_round-requires-clause-left g c = search rules

pub invariant_of-self : goal.invariant_of-self
invariant_of-self g c = search rules

pub returns-clause-bound : goal.returns-clause-bound
returns-clause-bound g c = search rules

pub returns-clause-number : goal.returns-clause-number
returns-clause-number g c = search rules
