use Rattle.std.proofs.Common.{take}
use Rattle.circuit_core.specs.Parts.{input_table}
use Rattle.circuit_core.specs.Sound.{exponent_at}
use Rattle.gkr_layers.specs.Places.Place.{At}
use Rattle.gkr_verify.specs.Kept.{kept_place}
use Rattle.gkr_verify.proofs.DownSteps.{Down}
use Rattle.gkr_verify.proofs.layers.check_layers.Given as goal

abbrev pub invariant-loop-layer : goal.invariant-loop-layer
invariant-loop-layer g l =
    Down l.fn.form g.C.Challenges.source l.circuit.parts (input_table l.circuit.parts l.inputs) (g.C.Challenges.state l.fn.challenges) (At (take (exponent_at l.circuit.parts 0) l.fn.kept)) l.fn.claim l.messages l.layer
    (g.C.Challenges.state l.challenges) (kept_place l.at (exponent_at l.circuit.parts l.layer) l.claim.challenge l.kept) l.claim.value
