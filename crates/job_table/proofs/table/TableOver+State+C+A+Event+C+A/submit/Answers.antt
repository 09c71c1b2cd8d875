use Rattle.std.proofs.Common.{rules, ◌≡◌, ◌∷◌, ◌++◌, [], ℕ, List, ap, subst, arith}
use Rattle.job_table.specs.declared.event.Event.{Event}
use Rattle.job_table.specs.History.{Has, Submits}
use Rattle.job_table.specs.Passes.{Pairs}
use Rattle.job_table.proofs.api.Calls.{Entered, entered, looked, looked_of, added, added_of, owned_more, owned_submit, counts_submit, prefix_more}
use mathlib.Core.List.{IsPrefix}
use Rattle.job_table.proofs.api.Kept.{has_last}
use Rattle.job_table.proofs.table.TableOver+State+C+A+Event+C+A.submit.Goals as goal

pub give_back-requires-clause-owned : goal.give_back-requires-clause-owned
give_back-requires-clause-owned g c = let h = c.enter-state.result.1 in let old = c.args.pass.now in
    let en : Entered c.args.self.now old h = entered c.args.self.now old h c.pass.inside.turn.mine c.pass.inside.turn.fixed c.requires.of (ap (λ p. p.mine) c.pass.view_is) (ap (λ p. p.capacity) c.pass.view_is) (search rules) c.enter-state.ensures.owned c.enter-state.ensures.steps in
    let n = c.in-Ok.ensures in
    owned_more h c.submit.new.self.1 c.enter-state.new.turn.seen n.1.0 old.mine c.enter-state.new.turn.mine (ap (λ z. z.1) n.1.2) (search rules) (search rules) (owned_submit c.args.self.now old h n.1.0 c.in-Ok.job c.args.case en n.1.1)

pub give_back-requires-in-Err-clause-owned : goal.give_back-requires-in-Err-clause-owned
give_back-requires-in-Err-clause-owned g c = let h = c.enter-state.result.1 in let old = c.args.pass.now in
    let en : Entered c.args.self.now old h = entered c.args.self.now old h c.pass.inside.turn.mine c.pass.inside.turn.fixed c.requires.of (ap (λ p. p.mine) c.pass.view_is) (ap (λ p. p.capacity) c.pass.view_is) (search rules) c.enter-state.ensures.owned c.enter-state.ensures.steps in
    subst (λ (z : List (Event g.row.C.Denot g.row.A.Denot) × List ℕ). Pairs z.0 z.1) {x = (h, old.mine)} {y = (c.submit.new.self.1, c.enter-state.new.turn.mine)} (search rules) en.pairs

pub returns-in-Ok-clause-of : goal.returns-in-Ok-clause-of
returns-in-Ok-clause-of g c = let h = c.enter-state.result.1 in let old = c.args.pass.now in
    let en : Entered c.args.self.now old h = entered c.args.self.now old h c.pass.inside.turn.mine c.pass.inside.turn.fixed c.requires.of (ap (λ p. p.mine) c.pass.view_is) (ap (λ p. p.capacity) c.pass.view_is) (search rules) c.enter-state.ensures.owned c.enter-state.ensures.steps in
    let n = c.in-Ok.ensures in let counts = counts_submit n.1.0 c.in-Ok.job c.args.case n.1.1 in
    added_of c.args.self.now old _ h n.1.0 old.held en (owned_submit c.args.self.now old h n.1.0 c.in-Ok.job c.args.case en n.1.1) (search rules) (omega arith) (omega arith) (search rules)

pub returns-in-Ok-clause-answer : goal.returns-in-Ok-clause-answer
returns-in-Ok-clause-answer g c = let h = c.enter-state.result.1 in let old = c.args.pass.now in
    let en : Entered c.args.self.now old h = entered c.args.self.now old h c.pass.inside.turn.mine c.pass.inside.turn.fixed c.requires.of (ap (λ p. p.mine) c.pass.view_is) (ap (λ p. p.capacity) c.pass.view_is) (search rules) c.enter-state.ensures.owned c.enter-state.ensures.steps in
    let n = c.in-Ok.ensures in
    let seen : h ++ n.1.0 ∷ [] ≡ c.give_back.new.turn.seen = search rules in let says = Submits {A = g.row.A.Denot} c.in-Ok.job c.args.case in (
      added c.args.self.now old _ _ h n.1.0 en (n.0, n.1.1) (owned_submit c.args.self.now old h n.1.0 c.in-Ok.job c.args.case en n.1.1) (search rules) old.held (search rules),
      subst (λ (l : List (Event g.row.C.Denot g.row.A.Denot)). Has l says) seen (has_last h n.1.0 says n.1.1),
    )

pub returns-in-Ok-clause-begins : goal.returns-in-Ok-clause-begins
returns-in-Ok-clause-begins g c = let h = c.enter-state.result.1 in let old = c.args.pass.now in
    let en : Entered c.args.self.now old h = entered c.args.self.now old h c.pass.inside.turn.mine c.pass.inside.turn.fixed c.requires.of (ap (λ p. p.mine) c.pass.view_is) (ap (λ p. p.capacity) c.pass.view_is) (search rules) c.enter-state.ensures.owned c.enter-state.ensures.steps in
    let n = c.in-Ok.ensures in let seen : h ++ n.1.0 ∷ [] ≡ c.give_back.new.turn.seen = search rules in
    subst (λ (l : List (Event g.row.C.Denot g.row.A.Denot)). IsPrefix old.seen l) seen (prefix_more old.seen h (n.1.0 ∷ []) en.begins)

pub returns-in-Err-clause-of : goal.returns-in-Err-clause-of
returns-in-Err-clause-of g c = let h = c.enter-state.result.1 in let old = c.args.pass.now in
    let en : Entered c.args.self.now old h = entered c.args.self.now old h c.pass.inside.turn.mine c.pass.inside.turn.fixed c.requires.of (ap (λ p. p.mine) c.pass.view_is) (ap (λ p. p.capacity) c.pass.view_is) (search rules) c.enter-state.ensures.owned c.enter-state.ensures.steps in
    looked_of c.args.self.now old _ h en (search rules)

pub returns-in-Err-clause-answer : goal.returns-in-Err-clause-answer
returns-in-Err-clause-answer g c = let h = c.enter-state.result.1 in let old = c.args.pass.now in
    let en : Entered c.args.self.now old h = entered c.args.self.now old h c.pass.inside.turn.mine c.pass.inside.turn.fixed c.requires.of (ap (λ p. p.mine) c.pass.view_is) (ap (λ p. p.capacity) c.pass.view_is) (search rules) c.enter-state.ensures.owned c.enter-state.ensures.steps in
    (looked c.args.self.now old _ h en (search rules), search rules, search rules, search rules)
