-- One more run
use Rattle.std.proofs.Common.{◌≡◌, ◌+◌, List, [], ◌∷◌, length, sym, subst, arith, ap, ◌∙◌, length-append}
use Rattle.run_wiring.specs.declared.run.Run.{Run}
use Rattle.run_wiring.proofs.LongestRuns.{Done, run_done, more_left}
use Rattle.run_wiring.proofs.greedy.greedy_runs.Goals as goal

pub loop-done-preserved : goal.loop-done-preserved
loop-done-preserved c =
    let before = c.loop-done.invariant in
    let run = c.longest_at-run.result in
    let more : length c.push.new.self.items ≡ length c.loop-done.runs.items + 1 = ap length c.in_ok-push.ensures.items ∙ length-append c.loop-done.runs.items (run ∷ []) in
    record {
      done = subst (λ (runs : List Run). Done c.args.gates.now runs (c.loop-done.done + run.count)) (sym c.in_ok-push.ensures.items)
          (run_done c.args.gates.now c.loop-done.runs.items c.loop-done.done run before.done c.longest_at-run.ensures.first c.longest_at-run.ensures.longest);
      few = omega (arith, before.few, more);
      some = omega (arith, before.some, more, c.longest_at-run.ensures.longest.some);
    }

pub returns-then-len-most-clause-more : goal.returns-then-len-most-clause-more
returns-then-len-most-clause-more c = λ runs greedy.
    let more = more_left c.args.gates.now c.loop-done.runs.items c.loop-done.done c.loop-done.invariant.done c.loop-done-test.true runs greedy in
    omega (arith, more, c.if-len-most.true)
