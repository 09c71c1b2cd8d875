use Rattle.std.proofs.Common.{◌≡◌, ◌-◌}
use Rattle.case_text.specs.Reading.{values_at}
use Rattle.text_parts.proofs.api.Loops.{with_prefix}
use Rattle.case_text.proofs.case.reading.values.Given as goal

abbrev pub invariant-loop-index : goal.invariant-loop-index
invariant-loop-index l = with_prefix l.values.items (values_at (l.count - l.index) l.rest) ≡ values_at l.count l.bytes
