-- One position more
use Rattle.std.proofs.Common.{◌≡◌, ◌≢◌, ◌≤◌, ◌<◌, ◌+◌, ℕ, length, length-set, refl, ◌∙◌, subst, arith}
use Rattle.gate_gather.specs.Choosing.{AreChosen}
use Rattle.gate_gather.proofs.Chosen.{none_chosen, chosen_next}
use Rattle.gate_gather.proofs.choosing.choose.Goals as goal

pub loop-position-init : goal.loop-position-init
loop-position-init g c = record {
  few = omega arith;
  room = refl;
  chosen = none_chosen g.S.Side.of c.args.gates.now c.args.from c.args.places c.args.start c.args.start c.args.chosen.now 0 refl refl;
}

pub loop-position-preserved : goal.loop-position-preserved
loop-position-preserved g c =
    let p = c.loop-position.position in
    let n = c.loop-position.count in
    let room : c.loop-position.count < length c.loop-position.chosen = omega (arith, c.loop-position.invariant.few, c.loop-position.invariant.room) in
    record {
      few = omega (arith, c.loop-position.invariant.few, c.is_among-count.ensures.few);
      room = length-set c.loop-position.chosen n p ∙ c.loop-position.invariant.room;
      chosen = chosen_next g.S.Side.of c.args.gates.now c.args.from c.args.places c.args.start p c.loop-position.chosen n room c.loop-position.invariant.few c.loop-position.invariant.chosen
          c.is_among-count.result (n + c.is_among-count.result) refl c.is_among-count.ensures.few
          (λ e. subst (λ (q : ℕ). (c.args.from ≤ q) × (q < c.args.from + c.args.places)) c.place.ensures (c.is_among-count.ensures.inside e))
          (λ e x u. subst (λ (q : ℕ). q ≢ c.args.from + x) c.place.ensures (c.is_among-count.ensures.outside e x u));
    }

pub returns-clause-chosen : goal.returns-clause-chosen
returns-clause-chosen g c =
    let all : c.loop-position.position ≡ c.args.end = omega arith in
    subst (λ (q : ℕ). AreChosen g.S.Side.of c.args.gates.now c.args.from c.args.places c.args.start q c.loop-position.chosen c.loop-position.count) all c.loop-position.invariant.chosen
