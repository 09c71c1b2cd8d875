use Rattle.std.proofs.Common.{◌≡◌, map, take, drop}
use Rattle.field_ext.specs.Field.{K}
use Rattle.case_prove.proofs.proving.real_parts.Given as goal

abbrev pub invariant-loop-position : goal.invariant-loop-position
invariant-loop-position l = l.parts.items ≡ map (λ (x : K). x.re) (take l.position (drop 1 l.table.items))
