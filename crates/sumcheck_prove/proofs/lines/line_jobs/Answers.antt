-- One job more
use Rattle.std.proofs.Common.{All, sym, subst, arith}
use Rattle.std.proofs.lemmas.List.Elements.{All-push}
use Rattle.sumcheck_prove.specs.Jobs.{HasLine, IsLineOver}
use Rattle.sumcheck_prove.proofs.lines.line_jobs.Goals as goal

pub loop-preserved : goal.loop-preserved
loop-preserved c = record {
  count = omega (arith, c.in_ok-push.ensures.len, c.loop.invariant.count);
  lines = subst (All (HasLine c.args.table.now.items)) (sym c.in_ok-push.ensures.items)
      (All-push (HasLine c.args.table.now.items) c.loop.jobs.items c.job_with.result c.loop.invariant.lines (subst (IsLineOver c.args.table.now.items) (sym c.job_with.ensures) c.in_ok-line.ensures));
}
