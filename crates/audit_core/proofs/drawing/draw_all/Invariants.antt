-- The layers before are taken in
use Rattle.std.proofs.Common.{◌≡◌, take}
use Rattle.circuit_core.specs.Sound.{exponent_at}
use Rattle.proof_wire.specs.Lists.{all_messages}
use Rattle.transcript_fs.specs.Source.{all_draws, state_after, state_after_point}
use Rattle.audit_core.proofs.drawing.draw_all.Given as goal

abbrev pub invariant-loop-layer : goal.invariant-loop-layer
invariant-loop-layer g l = record {
  drawn : l.drawn.items ≡ all_draws g.C.Challenges.source (g.C.Challenges.state l.fn.challenges) (exponent_at l.circuit.parts 0) (all_messages (take l.layer-index l.messages));
  state : g.C.Challenges.state l.challenges ≡ state_after g.C.Challenges.source (state_after_point g.C.Challenges.source (g.C.Challenges.state l.fn.challenges) (exponent_at l.circuit.parts 0)) (all_messages (take l.layer-index l.messages));
}
