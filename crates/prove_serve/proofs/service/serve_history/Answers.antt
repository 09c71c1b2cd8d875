use Rattle.std.proofs.Common.{rules, ◌≡◌, ◌∙◌, length, map, ap, arith}
use Rattle.prove_serve.specs.Reported.{place_of}
use Rattle.prove_serve.proofs.Histories.{history_fits, history_of}
use Rattle.prove_serve.proofs.service.serve_history.Goals as goal

pub run-requires-clause-places : goal.run-requires-clause-places
run-requires-clause-places g c κs within k job at = (c.in_ok-script.ensures.each k job at).0

pub copy_entries-requires : goal.copy_entries-requires
copy_entries-requires g c = let f = history_fits g.W.Answer.Fits.fits c.args.jobs.items c.in_ok-script.script.items c.in_ok-closed.closed.history.items c.in_ok-closed.closed.jobs.items c.in_ok-script.ensures c.in_ok-closed.ensures in
    let capacity = c.in_ok-history.ensures.exact in record { capacity = (c.in_ok-history.ensures.len, let a = f.0 in omega arith) }

pub copy_places-requires : goal.copy_places-requires
copy_places-requires g c = let f = history_fits g.W.Answer.Fits.fits c.args.jobs.items c.in_ok-script.script.items c.in_ok-closed.closed.history.items c.in_ok-closed.closed.jobs.items c.in_ok-script.ensures c.in_ok-closed.ensures in
    let capacity = c.in_ok-places.ensures.exact in record { capacity = (c.in_ok-places.ensures.len, let a = f.1 in let l = ap length c.deref.ensures.value in omega arith) }

pub returns : goal.returns
returns g c = let many : length c.report_all.new.outcomes.items ≡ length c.args.jobs.items = search rules in
    history_of g.W.Answer.Fits.fits c.args.jobs.items c.in_ok-script.script.items c.in_ok-closed.closed.history.items c.in_ok-closed.closed.jobs.items c.in_ok-script.ensures c.in_ok-closed.ensures
    c.report_all.new.outcomes.items c.copy_entries.new.entries.items c.copy_places.new.places.items c.report_all.ensures.each many c.copy_entries.ensures (c.copy_places.ensures ∙ ap (λ l. map place_of l) c.deref.ensures.value)
