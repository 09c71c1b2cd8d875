use Rattle.std.proofs.Common.{rules, ℕ, List, MatchResult, ap, subst}
use Rattle.job_table.specs.declared.event.Event.{Event}
use Rattle.job_table.specs.History.{Has, Finishes}
use Rattle.job_table.specs.Slots.{IsSeen}
use Rattle.job_table.specs.declared.event.Outcome.TheVariants.{Answer}
use Rattle.job_table.specs.Passes.{Pairs}
use Rattle.job_table.proofs.api.Calls.{Entered, entered, looked, looked_of, job_within}
use Rattle.job_table.proofs.table.TableOver+State+C+A+Event+C+A.fetch.Goals as goal

pub fetch-seen-requires : goal.fetch-seen-requires
fetch-seen-requires g c = let h = c.enter-state.result.1 in let old = c.args.pass.now in
    let en : Entered c.args.self.now old h = entered c.args.self.now old h c.pass.inside.turn.mine c.pass.inside.turn.fixed c.requires.of (ap (λ p. p.mine) c.pass.view_is) (ap (λ p. p.capacity) c.pass.view_is) (search rules) c.enter-state.ensures.owned c.enter-state.ensures.steps in
    job_within c.args.self.now old h c.args.receipt.now.job en c.requires.submitted

pub give_back-requires-clause-owned : goal.give_back-requires-clause-owned
give_back-requires-clause-owned g c = let h = c.enter-state.result.1 in let old = c.args.pass.now in
    let en : Entered c.args.self.now old h = entered c.args.self.now old h c.pass.inside.turn.mine c.pass.inside.turn.fixed c.requires.of (ap (λ p. p.mine) c.pass.view_is) (ap (λ p. p.capacity) c.pass.view_is) (search rules) c.enter-state.ensures.owned c.enter-state.ensures.steps in
    subst (λ (m : List ℕ). Pairs h m) {x = old.mine} {y = c.enter-state.new.turn.mine} (search rules) en.pairs

pub returns-clause-of : goal.returns-clause-of
returns-clause-of g c = let h = c.enter-state.result.1 in let old = c.args.pass.now in
    let en : Entered c.args.self.now old h = entered c.args.self.now old h c.pass.inside.turn.mine c.pass.inside.turn.fixed c.requires.of (ap (λ p. p.mine) c.pass.view_is) (ap (λ p. p.capacity) c.pass.view_is) (search rules) c.enter-state.ensures.owned c.enter-state.ensures.steps in
    (looked_of c.args.self.now old _ h en (search rules)).0

pub returns-clause-looks : goal.returns-clause-looks
returns-clause-looks g c = let h = c.enter-state.result.1 in let old = c.args.pass.now in
    let en : Entered c.args.self.now old h = entered c.args.self.now old h c.pass.inside.turn.mine c.pass.inside.turn.fixed c.requires.of (ap (λ p. p.mine) c.pass.view_is) (ap (λ p. p.capacity) c.pass.view_is) (search rules) c.enter-state.ensures.owned c.enter-state.ensures.steps in
    looked c.args.self.now old _ h en (search rules)

pub returns-clause-answer : goal.returns-clause-answer
returns-clause-answer g c = let h = c.enter-state.result.1 in let old = c.args.pass.now in
    let en : Entered c.args.self.now old h = entered c.args.self.now old h c.pass.inside.turn.mine c.pass.inside.turn.fixed c.requires.of (ap (λ p. p.mine) c.pass.view_is) (ap (λ p. p.capacity) c.pass.view_is) (search rules) c.enter-state.ensures.owned c.enter-state.ensures.steps in
    subst (λ (l : List (Event g.row.C.Denot g.row.A.Denot)). MatchResult c.fetch-seen.result (IsSeen g.A.Fits.fits l c.args.receipt.now.job) (λ _. (a : g.row.A.Denot) × Has l (Finishes {C = g.row.C.Denot} c.args.receipt.now.job (Answer a)))) {x = h} {y = c.give_back.new.turn.seen} (search rules) c.fetch-seen.ensures
