-- The rounds before are taken in
use Rattle.std.proofs.Common.{◌≡◌, ◌++◌, take}
use Rattle.proof_wire.specs.Lists.{round_messages}
use Rattle.transcript_fs.specs.Source.{draws, state_after}
use Rattle.audit_core.proofs.drawing.draw_layer.Given as goal

abbrev pub invariant-loop-round : goal.invariant-loop-round
invariant-loop-round g l = record {
  drawn : l.drawn.items ≡ l.fn.drawn.items ++ draws g.C.Challenges.source (g.C.Challenges.state l.fn.challenges) (take l.round-index (round_messages l.messages.rounds));
  state : g.C.Challenges.state l.challenges ≡ state_after g.C.Challenges.source (g.C.Challenges.state l.fn.challenges) (take l.round-index (round_messages l.messages.rounds));
}
