use Rattle.std.proofs.Common.{◌≡◌, ℕ, ◌<◌, ◌≤◌, map, length, Some, None, slice_index_or}
use Rattle.std.specs.List.{range_with_len}
use Rattle.phase_run.proofs.gathering.gathered.Given as goal

abbrev pub invariant-loop-i : goal.invariant-loop-i
invariant-loop-i g l =
    (length l.slots.items ≡ length l.fn.slots.items) × (l.all.items ≡ map (g.W.PieceWork.out_of l.work) (range_with_len 0 l.i))
    × ((j : ℕ) → l.i ≤ j → j < length l.slots.items → slice_index_or l.slots.items j None ≡ Some (g.W.PieceWork.out_of l.work j))
