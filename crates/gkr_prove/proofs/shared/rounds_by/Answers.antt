-- One message more
use Rattle.std.proofs.Common.{◌≡◌, ℕ, ◌+◌, length, rules, arith, subst, ◌∙◌}
use Rattle.round_tables.specs.LayerSum.{LayerSum}
use Rattle.gkr_prove.specs.Rounds.{AreBegun}
use Rattle.gkr_prove.proofs.HasSteps.{has_next}
use Rattle.gkr_prove.proofs.Begun.{has_all, bound_more, has_more, begun_more}
use Rattle.gkr_prove.proofs.shared.rounds_by.Goals as goal

pub loop-number-init : goal.loop-number-init
loop-number-init g c = record {
  all = search rules;
  tables = search rules;
  begun = search rules;
  has = has_all g.C.Challenges.source c.args.tables (g.C.Challenges.state c.args.challenges.now) c.rounds_left-count.result c.requires.begun
      (subst (λ (t : LayerSum). c.rounds_left-count.result + length t.bound ≡ t.k + t.k) c.gather_by-tables.ensures.tables c.rounds_left-count.ensures) c.requires.has;
  ahead = search rules;
  gather = search rules;
}

pub note-requires : goal.note-requires
note-requires g c = record {
  has = has_next g.C.Challenges.source (g.C.Challenges.state c.loop-number.challenges) c.in_ok-message.message c.rounds_left-count.result c.loop-number._number c.loop-number-test.true c.loop-number.invariant.has;
}

pub loop-number-preserved : goal.loop-number-preserved
loop-number-preserved g c =
    let before = c.loop-number.invariant in
    let noted = c.in_ok-challenge.ensures in
    record {
      all = before.all;
      tables = bound_more g.C.Challenges.source c.args.tables (g.C.Challenges.state c.args.challenges.now) c.loop-number._number _ _ _ _ _ _ _ _ c.loop-number.tables before.tables noted _ c.advance_by-next.ensures.bound;
      begun = begun_more g.C.Challenges.source c.args.tables (g.C.Challenges.state c.args.challenges.now) c.loop-number._number _ _ _ _ _ _ _ _ c.loop-number.tables before.tables noted c.in_ok-message.ensures before.begun;
      has = has_more g.C.Challenges.source c.args.tables (g.C.Challenges.state c.args.challenges.now) c.loop-number._number _ _ _ _ _ _ _ _ c.loop-number.tables before.tables noted c.rounds_left-count.result c.loop-number-test.true before.has;
      ahead = c.advance_by-next.ensures.message;
      gather = c.advance_by-next.ensures.gather ∙ before.gather;
    }

pub returns-clause-rounds : goal.returns-clause-rounds
returns-clause-rounds g c =
    let all : c.loop-number._number ≡ c.args.tables.k + c.args.tables.k = omega (arith, c.loop-number.invariant.all) in
    subst (λ (n : ℕ). AreBegun g.C.Challenges.source c.args.tables (g.C.Challenges.state c.args.challenges.now) n c.loop-number.messages.items c.loop-number.drawn.items (g.C.Challenges.state c.loop-number.challenges)) all c.loop-number.invariant.begun
