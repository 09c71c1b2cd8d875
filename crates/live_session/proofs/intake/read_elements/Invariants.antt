-- The elements before the next are read
use Rattle.std.proofs.Common.{◌≡◌, ◌-◌, ◌*◌, ◌++◌, length, take, drop}
use Rattle.live_session.specs.Elements.{leading}
use Rattle.live_session.proofs.intake.read_elements.Given as goal

abbrev pub invariant-loop-i : goal.invariant-loop-i
invariant-loop-i l = leading (length l.fn.elements) l.bytes ≡ take l.i l.elements ++ leading (length l.fn.elements - l.i) (drop (8 * l.i) l.bytes)
