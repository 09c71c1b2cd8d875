-- The padding makes up a layer's size
use Rattle.std.proofs.Common.{◌≡◌, ◌+◌, ◌-◌, ◌∙◌, ◌++◌, ◌∷◌, suc, length, replicate, ap, arith}
use Rattle.circuit_core.specs.Parts.{zero_gate}
use Rattle.layer_compile.specs.Circuits.{size_for}
use Rattle.layer_compile.proofs.gates.padded.Goals as goal

pub returns : goal.returns
returns c = λ nodes gates.
    let many : suc (length nodes) ≡ 1 + length nodes = omega arith in
    c.of.ensures ∙ c.in_ok-pad.ensures ∙ ap (λ gates. gates ++ replicate (size_for (length gates) - length gates) zero_gate) gates
    ∙ ap (λ m. zero_gate ∷ (nodes ++ replicate (size_for m - m) zero_gate)) many
