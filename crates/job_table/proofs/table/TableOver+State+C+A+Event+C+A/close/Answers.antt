use Rattle.std.proofs.Common.{rules, ◌≡◌, ℕ, List, length, subst}
use Rattle.tallies.specs.Tallies.{times, once_below}
use Rattle.job_table.specs.declared.event.Event.{Event}
use Rattle.job_table.specs.Passes.{NoneRunning}
use Rattle.job_table.proofs.api.Calls.{none_left}
use Rattle.job_table.proofs.table.TableOver+State+C+A+Event+C+A.close.Goals as goal

pub returns-clause-all : goal.returns-clause-all
returns-clause-all g c x = let mine : c.pass.inside.turn.mine ≡ c.args.pass.mine = search rules in let seen : c.pass.inside.turn.seen ≡ c.args.pass.seen = search rules in
    subst (λ (z : List ℕ × List (Event g.row.C.Denot g.row.A.Denot)). times x z.0 ≡ once_below x (length z.1)) (λ k. (mine k, seen k)) (c.close.ensures.all x)

pub returns-clause-ended : goal.returns-clause-ended
returns-clause-ended g c = none_left c.args.self c.args.pass c.requires.of c.requires.idle (returns-clause-all g c)

pub close-requires-2 : goal.close-requires-2
close-requires-2 g c = let seen : c.args.pass.seen ≡ c.close.result.1 = search rules in
    let mine : c.pass.inside.turn.mine ≡ c.args.pass.mine = search rules in let same : c.pass.inside.turn.seen ≡ c.args.pass.seen = search rules in
    subst (λ (l : List (Event g.row.C.Denot g.row.A.Denot)). NoneRunning l) seen
    (none_left c.args.self c.args.pass c.requires.of c.requires.idle (λ x. subst (λ (z : List ℕ × List (Event g.row.C.Denot g.row.A.Denot)). times x z.0 ≡ once_below x (length z.1)) (λ k. (mine k, same k)) (c.close.ensures.all x)))
