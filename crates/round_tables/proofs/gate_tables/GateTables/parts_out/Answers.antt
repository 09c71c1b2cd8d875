-- There are few parts, and each sums to its piece
use Rattle.std.proofs.Common.{rules, ◌≡◌, ℕ, ◌+◌, ◌<◌, ◌≤◌, List, length, get_or, sym, ◌∙◌, ap, subst, arith}
use Rattle.round_tables.specs.LayerSum.{left_in_phase, pieces_of}
use Rattle.table_parts.specs.PartTables.{PartTables, part_sum}
use Rattle.round_tables.specs.Working.{WorksFor, parts_of, lent_parts}
use Rattle.round_tables.proofs.LaidOut.{parts-few}
use Rattle.round_tables.proofs.PartSums.{piece-of}
use Rattle.round_tables.proofs.gate_tables.GateTables.parts_out.Goals as goal

pub returns-clause-few : goal.returns-clause-few
returns-clause-few c =
    let s = c.args.self.now in
    let number : length c.lend.result.items ≡ pieces_of c.args.self.now = search rules in
    let most : c.args.self.now.k ≤ 20 = search rules in
    omega (arith, number, parts-few s.k (left_in_phase s.k (length s.bound)) most)

pub returns-clause-sums : goal.returns-clause-sums
returns-clause-sums c i part within =
    let layer = c.self.inside.layer in
    let w = c.self.inside.working in
    let works : WorksFor c.self.inside.layer c.self.inside.working = search rules in
    let left : c.self.inside.working.count < c.self.inside.layer.k + c.self.inside.layer.k = search rules in
    let number : length c.lend.result.items ≡ pieces_of c.args.self.now = search rules in
    let here : i < length (parts_of c.self.inside.working) = subst (λ (n : ℕ). i < n) (sym number ∙ ap length c.lend.ensures.parts) within in
    ap (λ (ps : List PartTables). part_sum (get_or ps i part)) c.lend.ensures.parts
    ∙ piece-of layer w c.self.invariant.0 works left i part here c.args.self.now (lent_parts c.self.inside.lent) (sym c.self.view_is)
