use Rattle.std.proofs.Common.{rules, ◌≡◌, ◌∷◌, [], ◌∙◌, Some, None, ap, subst}
use Rattle.atomic_table.specs.Table.{rest}
use Rattle.chunk_board.specs.declared.part_rule.PartHand.{PartHand}
use Rattle.chunk_board.specs.PartHands.{part_hand, IsPutStep}
use Rattle.chunk_board.specs.PartViews.{hand_of}
use Rattle.chunk_board.proofs.api.PartSteps.{puts}
use Rattle.chunk_board.proofs.part_board.PartBoard.put_back.Goals as goal

pub fetch_add-requires : goal.fetch_add-requires
fetch_add-requires g c = (search rules, search rules, puts c.self.inside.table.shared.key _ _ c.exchange-old.new.seat.me c.args.k c.args.part (search rules) (search rules) (search rules) (search rules))

pub invariant_of-claimer : goal.invariant_of-claimer
invariant_of-claimer g c =
    let is : c.exchange-old.new.seat.me.1 ≡ (c.args.k, Some c.args.part) ∷ [] = search rules in
    let e = (c.fetch_add.ensures.2.1 c.args.k c.args.part is).0 in (
      search rules,
      ap (λ m. m.shares) e ∙ search rules,
      ap (λ m. m.stopped) e ∙ search rules,
      ap (λ m. m.held) e,
      c.fetch_add.ensures.2.0 ∙ ap rest is,
    )

pub returns-clause-step : goal.returns-clause-step
returns-clause-step g c =
    let is : c.exchange-old.new.seat.me.1 ≡ (c.args.k, Some c.args.part) ∷ [] = search rules in
    let told = (c.fetch_add.ensures.2.1 c.args.k c.args.part is).1 in
    let before : c.exchange-old.new.seat.me.0 ≡ hand_of c.args.claimer.now = search rules in
    let m : PartHand g.row.T.Denot = c.fetch_add.new.seat.me.0 in
    let e = (c.fetch_add.ensures.2.1 c.args.k c.args.part is).0 in
    let shares : m.shares ≡ c.claimer.inside.shares = ap (λ m. m.shares) e ∙ search rules in
    let stopped : m.stopped ≡ c.claimer.inside.stopped = ap (λ m. m.stopped) e ∙ search rules in
    let held : m.held ≡ None = ap (λ m. m.held) e in
    let after : m ≡ part_hand m.parts c.claimer.inside.shares m.drawn m.put None c.claimer.inside.stopped = λ i. part_hand m.parts (shares i) m.drawn m.put (held i) (stopped i) in
    subst (λ (z : PartHand g.row.T.Denot × PartHand g.row.T.Denot). IsPutStep z.0 c.args.k z.1) (λ i. (before i, after i)) told
