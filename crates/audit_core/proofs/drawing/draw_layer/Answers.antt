-- One round more is taken in, and the last message
use Rattle.std.proofs.Common.{ℕ, ◌<◌, ◌≤◌, List, length, get_or, IsTrue, sym, ◌∙◌, ap, subst, arith}
use Rattle.proof_wire.specs.declared.messages.Round.{Round}
use Rattle.transcript_fs.specs.Source.{Source}
use Rattle.audit_core.proofs.DrawSteps.{has_here, round-drawn, round-state, last-drawn, last-state}
use Rattle.audit_core.proofs.drawing.draw_layer.Goals as goal

pub draw_after-requires : goal.draw_after-requires
draw_after-requires g c =
    let source : Source = g.C.Challenges.source in
    let m = c.args.messages.now in
    let u : c.loop-round.round-index ≤ length c.args.messages.now.rounds = omega (arith, ap length c.as_slice-round-items.ensures) in
    subst (λ (t : List ℕ). IsTrue (source.has t 1)) (sym c.loop-round.invariant.state) (has_here source (g.C.Challenges.state c.args.challenges.now) m.rounds m.last c.loop-round.round-index u c.requires)

pub loop-round-preserved : goal.loop-round-preserved
loop-round-preserved g c =
    let source : Source = g.C.Challenges.source in
    let s : List ℕ = g.C.Challenges.state c.args.challenges.now in
    let m = c.args.messages.now in
    let i = c.loop-round.round-index in
    let r : Round = c.round-item.result in
    let inv = c.loop-round.invariant in
    let u : c.loop-round.round-index < length c.args.messages.now.rounds = omega (arith, ap length c.as_slice-round-items.ensures) in
    let is = c.round-item.is ∙ ap (λ (xs : List Round). get_or xs c.loop-round.round-index r) c.as_slice-round-items.ensures in
    record {
      drawn = round-drawn source s m.rounds m.last i r c.coefficients.result u is c.coefficients.ensures c.args.drawn.now.items c.loop-round.drawn.items c.draw_after.new.drawn.items (g.C.Challenges.state c.loop-round.challenges) inv.state inv.drawn c.in_ok-draw_after.ensures.drawn;
      state = round-state source s m.rounds m.last i r c.coefficients.result u is c.coefficients.ensures (g.C.Challenges.state c.loop-round.challenges) (g.C.Challenges.state c.draw_after.new.challenges) inv.state c.in_ok-draw_after.ensures.state;
    }

pub draw_after-requires-2 : goal.draw_after-requires-2
draw_after-requires-2 g c =
    let source : Source = g.C.Challenges.source in
    let m = c.args.messages.now in
    let u : c.loop-round.round-index ≤ length c.args.messages.now.rounds = omega (arith, ap length c.as_slice-round-items.ensures, c.loop-round.auto.round-index-end) in
    subst (λ (t : List ℕ). IsTrue (source.has t 1)) (sym c.loop-round.invariant.state) (has_here source (g.C.Challenges.state c.args.challenges.now) m.rounds m.last c.loop-round.round-index u c.requires)

pub returns-clause-drawn : goal.returns-clause-drawn
returns-clause-drawn g c =
    let m = c.args.messages.now in
    let inv = c.loop-round.invariant in
    let u : length c.args.messages.now.rounds ≤ c.loop-round.round-index = omega (arith, ap length c.as_slice-round-items.ensures) in
    last-drawn g.C.Challenges.source (g.C.Challenges.state c.args.challenges.now) m.rounds m.last c.loop-round.round-index u c.args.drawn.now.items c.loop-round.drawn.items c.draw_after-2.new.drawn.items (g.C.Challenges.state c.loop-round.challenges) c.as_slice.result.now c.as_slice.ensures inv.state inv.drawn c.in_ok-draw_after-2.ensures.drawn

pub returns-clause-state : goal.returns-clause-state
returns-clause-state g c =
    let m = c.args.messages.now in
    let inv = c.loop-round.invariant in
    let u : length c.args.messages.now.rounds ≤ c.loop-round.round-index = omega (arith, ap length c.as_slice-round-items.ensures) in
    last-state g.C.Challenges.source (g.C.Challenges.state c.args.challenges.now) m.rounds m.last c.loop-round.round-index u (g.C.Challenges.state c.loop-round.challenges) (g.C.Challenges.state c.draw_after-2.new.challenges) c.as_slice.result.now c.as_slice.ensures inv.state c.in_ok-draw_after-2.ensures.state
