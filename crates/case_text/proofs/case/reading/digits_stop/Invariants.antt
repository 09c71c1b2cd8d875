use Rattle.std.proofs.Common.{◌≡◌, length}
use Rattle.case_text.specs.Due.{digits_stop}
use Rattle.case_text.proofs.case.reading.digits_stop.Given as goal

abbrev pub invariant-loop-rest : goal.invariant-loop-rest
invariant-loop-rest l = digits_stop l.rest ≡ digits_stop l.bytes

abbrev pub decreases-loop-rest : goal.decreases-loop-rest
decreases-loop-rest l = length l.rest
