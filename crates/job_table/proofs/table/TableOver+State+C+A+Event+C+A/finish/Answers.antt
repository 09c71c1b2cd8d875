use Rattle.std.proofs.Common.{rules, ◌≡◌, ◌-◌, ◌∷◌, ◌++◌, [], List, ap, subst, arith}
use Rattle.job_table.specs.declared.event.Event.{Event}
use Rattle.job_table.specs.History.{Submits}
use Rattle.job_table.proofs.api.Calls.{Entered, entered, added, added_of, owned_more, owned_finish, counts_finish, holds_some, holds_here, seen_longer, prefix_more}
use mathlib.Core.List.{IsPrefix}
use Rattle.job_table.proofs.table.TableOver+State+C+A+Event+C+A.finish.Goals as goal

pub finish-requires-clause-running : goal.finish-requires-clause-running
finish-requires-clause-running g c = let h = c.enter-state.result.1 in let old = c.args.pass.now in
    let en : Entered c.args.self.now old h = entered c.args.self.now old h c.pass.inside.turn.mine c.pass.inside.turn.fixed c.requires.of (ap (λ p. p.mine) c.pass.view_is) (ap (λ p. p.capacity) c.pass.view_is) (search rules) c.enter-state.ensures.owned c.enter-state.ensures.steps in
    (holds_here c.args.self.now.capacity old.seen h old.mine c.args.ticket.job en.begins en.steps en.pairs c.requires.of.legal.within c.requires.holds).runs

pub finish-requires-clause-case : goal.finish-requires-clause-case
finish-requires-clause-case g c = let h = c.enter-state.result.1 in let old = c.args.pass.now in
    let en : Entered c.args.self.now old h = entered c.args.self.now old h c.pass.inside.turn.mine c.pass.inside.turn.fixed c.requires.of (ap (λ p. p.mine) c.pass.view_is) (ap (λ p. p.capacity) c.pass.view_is) (search rules) c.enter-state.ensures.owned c.enter-state.ensures.steps in
    seen_longer h old.seen (Submits c.args.ticket.job c.args.ticket.case) en.begins c.requires.case

pub give_back-requires-clause-owned : goal.give_back-requires-clause-owned
give_back-requires-clause-owned g c = let h = c.enter-state.result.1 in let old = c.args.pass.now in
    let en : Entered c.args.self.now old h = entered c.args.self.now old h c.pass.inside.turn.mine c.pass.inside.turn.fixed c.requires.of (ap (λ p. p.mine) c.pass.view_is) (ap (λ p. p.capacity) c.pass.view_is) (search rules) c.enter-state.ensures.owned c.enter-state.ensures.steps in
    let n = c.finish.ensures in
    owned_more h c.finish.new.self.1 c.enter-state.new.turn.seen n.0 old.mine c.enter-state.new.turn.mine (ap (λ z. z.1) n.2) (search rules) (search rules) (owned_finish c.args.self.now old h n.0 c.args.ticket.job c.args.outcome en n.1 c.requires.holds)

pub returns-clause-of : goal.returns-clause-of
returns-clause-of g c = let h = c.enter-state.result.1 in let old = c.args.pass.now in
    let en : Entered c.args.self.now old h = entered c.args.self.now old h c.pass.inside.turn.mine c.pass.inside.turn.fixed c.requires.of (ap (λ p. p.mine) c.pass.view_is) (ap (λ p. p.capacity) c.pass.view_is) (search rules) c.enter-state.ensures.owned c.enter-state.ensures.steps in
    let n = c.finish.ensures in let counts = counts_finish n.0 c.args.ticket.job c.args.outcome n.1 in let some = holds_some c.args.self.now old c.args.ticket.job c.requires.of c.requires.holds in let left : c.pass.inside.held ≡ old.held = search rules in
    let r =
    added_of c.args.self.now old _ h n.0 (old.held - 1) en (owned_finish c.args.self.now old h n.0 c.args.ticket.job c.args.outcome en n.1 c.requires.holds) (search rules) (omega arith) (omega arith) (search rules) in (r.0, let e = r.1 in omega arith)

pub returns-clause-adds : goal.returns-clause-adds
returns-clause-adds g c = let h = c.enter-state.result.1 in let old = c.args.pass.now in
    let en : Entered c.args.self.now old h = entered c.args.self.now old h c.pass.inside.turn.mine c.pass.inside.turn.fixed c.requires.of (ap (λ p. p.mine) c.pass.view_is) (ap (λ p. p.capacity) c.pass.view_is) (search rules) c.enter-state.ensures.owned c.enter-state.ensures.steps in
    let n = c.finish.ensures in
    added c.args.self.now old _ _ h n.0 en n.1 (owned_finish c.args.self.now old h n.0 c.args.ticket.job c.args.outcome en n.1 c.requires.holds) (search rules) (old.held - 1) (search rules)

pub overflow_sub-pass : goal.overflow_sub-pass
overflow_sub-pass g c = let some = holds_some c.args.self.now c.args.pass.now c.args.ticket.job c.requires.of c.requires.holds in let left : c.pass.inside.held ≡ c.args.pass.now.held = search rules in omega arith

pub returns-clause-begins : goal.returns-clause-begins
returns-clause-begins g c = let h = c.enter-state.result.1 in let old = c.args.pass.now in
    let en : Entered c.args.self.now old h = entered c.args.self.now old h c.pass.inside.turn.mine c.pass.inside.turn.fixed c.requires.of (ap (λ p. p.mine) c.pass.view_is) (ap (λ p. p.capacity) c.pass.view_is) (search rules) c.enter-state.ensures.owned c.enter-state.ensures.steps in
    let n = c.finish.ensures in let seen : h ++ n.0 ∷ [] ≡ c.give_back.new.turn.seen = search rules in
    subst (λ (l : List (Event g.row.C.Denot g.row.A.Denot)). IsPrefix old.seen l) seen (prefix_more old.seen h (n.0 ∷ []) en.begins)
