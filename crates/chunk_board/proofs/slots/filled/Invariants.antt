use Rattle.std.proofs.Common.{◌≡◌, ◌≤◌, List, ◌++◌, map, replicate, vec_len, vec_capacity, Some, None}
use Rattle.chunk_board.proofs.slots.filled.Given as goal

abbrev pub invariant-loop-part : goal.invariant-loop-part
invariant-loop-part g l = record {
  rest : List g.row.T.Denot;
  all : l.parts.items ++ rest ≡ l.fn.parts.items;
  slots : l.slots.items ≡ replicate (vec_len l.parts) None ++ map Some rest;
  capacity : vec_len l.fn.parts ≤ vec_capacity l.parts;
}

abbrev pub decreases-loop-part : goal.decreases-loop-part
decreases-loop-part g l = goal.left-loop-part g l
