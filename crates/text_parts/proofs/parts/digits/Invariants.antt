use Rattle.std.proofs.Common.{◌≡◌, ◌<◌, length}
use Rattle.text_parts.specs.Parts.{digits_at}
use Rattle.text_parts.proofs.parts.digits.Given as goal

abbrev pub invariant-loop-rest : goal.invariant-loop-rest
invariant-loop-rest l = record {
  some : 0 < l.number;
  within : l.number < l.rule.limit;
  same : digits_at l.rule l.number l.rest ≡ digits_at l.rule l.first l.bytes;
}

abbrev pub decreases-loop-rest : goal.decreases-loop-rest
decreases-loop-rest l = length l.rest
