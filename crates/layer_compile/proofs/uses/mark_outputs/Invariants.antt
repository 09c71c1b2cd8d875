-- The outputs passed are marked
use Rattle.std.proofs.Common.{◌≡◌, ◌<◌, ℕ, eqb, cond, take, length, get_or}
use Rattle.std.specs.List.{list_any}
use Rattle.layer_compile.proofs.uses.mark_outputs.Given as goal

abbrev pub invariant-loop-output : goal.invariant-loop-output
invariant-loop-output l =
    (k : ℕ) → k < length l.fn.uses → get_or l.uses k 0 ≡ cond (list_any (λ output. eqb output k) (take l.output-index l.outputs)) l.height (get_or l.fn.uses k 0)
