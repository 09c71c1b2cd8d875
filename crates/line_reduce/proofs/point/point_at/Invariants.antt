use Rattle.std.proofs.Common.{◌≡◌, ℕ, ◌<◌, get_or}
use Rattle.field_ext.specs.Field.{k_ops, zero_k}
use Rattle.gkr_layers.specs.Sumcheck.{point_between}
use Rattle.line_reduce.proofs.point.point_at.Given as goal

abbrev pub invariant-loop-j : goal.invariant-loop-j
invariant-loop-j l = (i : ℕ) → i < l.j → get_or l.point i zero_k ≡ get_or (point_between k_ops l.b l.c l.t) i zero_k
