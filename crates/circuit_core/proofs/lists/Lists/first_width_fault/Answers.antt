use Rattle.std.proofs.Common.{◌∙◌, ◌+◌, sym, arith}
use Rattle.circuit_core.specs.Sound.{greatest}
use Rattle.circuit_core.specs.Parts.{height}
use Rattle.circuit_core.specs.Faults.{width_fault}
use Rattle.circuit_core.proofs.api.First.{first_below_found}
use Rattle.circuit_core.proofs.lists.Lists.first_width_fault.Goals as goal

pub returns-in-Some : goal.returns-in-Some
returns-in-Some c =
    sym (first_below_found (width_fault greatest c.args.self.now) c.loop-layer.layer (height c.args.self.now + 1) c.in-Some.bad (omega arith) c.loop-layer.invariant (sym c.width_fault.ensures ∙ c.in-Some.is))
