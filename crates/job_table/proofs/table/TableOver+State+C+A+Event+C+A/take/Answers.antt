use Rattle.std.proofs.Common.{rules, ◌≡◌, ◌+◌, ◌∷◌, ◌++◌, [], true, ℕ, List, length, sym, ap, ◌∙◌, subst, arith}
use Rattle.job_core.specs.JobMachine.{are_steps}
use Rattle.job_table.specs.declared.event.Event.{Event}
use Rattle.job_table.specs.declared.event.Event.TheVariants.{Take}
use Rattle.job_table.specs.History.{entries_of, Has, Submits}
use Rattle.job_table.specs.Passes.{Pairs, Holds, NoneQueued}
use Rattle.job_table.proofs.api.Calls.{Entered, entered, looked, looked_of, added, added_of, owned_more, owned_take, counts_take, now_held, prefix_more}
use mathlib.Core.List.{IsPrefix}
use Rattle.job_table.proofs.api.Kept.{has_longer}
use Rattle.job_table.proofs.table.TableOver+State+C+A+Event+C+A.take.Goals as goal

pub give_back-requires-clause-owned : goal.give_back-requires-clause-owned
give_back-requires-clause-owned g c = let h = c.enter-state.result.1 in let old = c.args.pass.now in
    let en : Entered c.args.self.now old h = entered c.args.self.now old h c.pass.inside.turn.mine c.pass.inside.turn.fixed c.requires.of (ap (λ p. p.mine) c.pass.view_is) (ap (λ p. p.capacity) c.pass.view_is) (search rules) c.enter-state.ensures.owned c.enter-state.ensures.steps in
    let n = c.in-Some.ensures in
    owned_more h c.take.new.self.1 c.enter-state.new.turn.seen n.2.0 old.mine c.enter-state.new.turn.mine (ap (λ z. z.1) n.2.2) (search rules) (search rules) (owned_take c.args.self.now old h n.2.0 c.in-Some.job en n.2.1 (search rules))

pub give_back-requires-in-None-clause-owned : goal.give_back-requires-in-None-clause-owned
give_back-requires-in-None-clause-owned g c = let h = c.enter-state.result.1 in let old = c.args.pass.now in
    let en : Entered c.args.self.now old h = entered c.args.self.now old h c.pass.inside.turn.mine c.pass.inside.turn.fixed c.requires.of (ap (λ p. p.mine) c.pass.view_is) (ap (λ p. p.capacity) c.pass.view_is) (search rules) c.enter-state.ensures.owned c.enter-state.ensures.steps in
    subst (λ (z : List (Event g.row.C.Denot g.row.A.Denot) × List ℕ). Pairs z.0 z.1) {x = (h, old.mine)} {y = (c.take.new.self.1, c.enter-state.new.turn.mine)} (search rules) en.pairs

pub returns-in-Some-clause-of : goal.returns-in-Some-clause-of
returns-in-Some-clause-of g c = let h = c.enter-state.result.1 in let old = c.args.pass.now in
    let en : Entered c.args.self.now old h = entered c.args.self.now old h c.pass.inside.turn.mine c.pass.inside.turn.fixed c.requires.of (ap (λ p. p.mine) c.pass.view_is) (ap (λ p. p.capacity) c.pass.view_is) (search rules) c.enter-state.ensures.owned c.enter-state.ensures.steps in
    let n = c.in-Some.ensures in let counts = counts_take n.2.0 c.in-Some.job n.2.1 in
    (added_of c.args.self.now old _ h n.2.0 (old.held + 1) en (owned_take c.args.self.now old h n.2.0 c.in-Some.job en n.2.1 (search rules)) (search rules) (omega arith) (omega arith) (search rules)).0

pub returns-in-Some-clause-answer : goal.returns-in-Some-clause-answer
returns-in-Some-clause-answer g c = let h = c.enter-state.result.1 in let old = c.args.pass.now in
    let en : Entered c.args.self.now old h = entered c.args.self.now old h c.pass.inside.turn.mine c.pass.inside.turn.fixed c.requires.of (ap (λ p. p.mine) c.pass.view_is) (ap (λ p. p.capacity) c.pass.view_is) (search rules) c.enter-state.ensures.owned c.enter-state.ensures.steps in
    let n = c.in-Some.ensures in let e = n.2.0 in let says = Submits {A = g.row.A.Denot} c.in-Some.job c.in-Some.case in
    let ok : are_steps c.args.self.now.capacity [] (entries_of (h ++ e ∷ [])) ≡ true = search rules in
    let ok' : are_steps c.args.self.now.capacity [] (entries_of (h ++ Take c.in-Some.job ∷ [])) ≡ true = ap (λ (x : Event g.row.C.Denot g.row.A.Denot). are_steps c.args.self.now.capacity [] (entries_of (h ++ x ∷ []))) (sym n.2.1) ∙ ok in
    let seen : h ++ e ∷ [] ≡ c.give_back.new.turn.seen = search rules in
    let seen' : h ++ Take c.in-Some.job ∷ [] ≡ c.give_back.new.turn.seen = ap (λ (x : Event g.row.C.Denot g.row.A.Denot). h ++ x ∷ []) (sym n.2.1) ∙ seen in
    let mine : old.mine ++ length h ∷ [] ≡ c.give_back.new.turn.mine = search rules in (
      added c.args.self.now old _ _ h e en (n.0, n.2.1) (owned_take c.args.self.now old h e c.in-Some.job en n.2.1 ok) ok (old.held + 1) (search rules),
      subst (λ (l : List (Event g.row.C.Denot g.row.A.Denot)). Has l says) seen (has_longer h (e ∷ []) says n.1),
      subst (λ (z : List (Event g.row.C.Denot g.row.A.Denot) × List ℕ). Holds z.0 z.1 c.in-Some.job) (λ k. (seen' k, mine k)) (now_held c.args.self.now.capacity old.seen h c.in-Some.job old.mine en.begins c.requires.of.legal.within ok'),
      search rules,
    )

pub returns-in-None-clause-of : goal.returns-in-None-clause-of
returns-in-None-clause-of g c = let h = c.enter-state.result.1 in let old = c.args.pass.now in
    let en : Entered c.args.self.now old h = entered c.args.self.now old h c.pass.inside.turn.mine c.pass.inside.turn.fixed c.requires.of (ap (λ p. p.mine) c.pass.view_is) (ap (λ p. p.capacity) c.pass.view_is) (search rules) c.enter-state.ensures.owned c.enter-state.ensures.steps in
    (looked_of c.args.self.now old _ h en (search rules)).0

pub returns-in-None-clause-answer : goal.returns-in-None-clause-answer
returns-in-None-clause-answer g c = let h = c.enter-state.result.1 in let old = c.args.pass.now in
    let en : Entered c.args.self.now old h = entered c.args.self.now old h c.pass.inside.turn.mine c.pass.inside.turn.fixed c.requires.of (ap (λ p. p.mine) c.pass.view_is) (ap (λ p. p.capacity) c.pass.view_is) (search rules) c.enter-state.ensures.owned c.enter-state.ensures.steps in
    let seen : h ≡ c.give_back-in-None.new.turn.seen = search rules in
    (looked c.args.self.now old _ h en (search rules), subst (λ (l : List (Event g.row.C.Denot g.row.A.Denot)). NoneQueued l) seen c.in-None.ensures.0)

pub returns-in-Some-clause-begins : goal.returns-in-Some-clause-begins
returns-in-Some-clause-begins g c = let h = c.enter-state.result.1 in let old = c.args.pass.now in
    let en : Entered c.args.self.now old h = entered c.args.self.now old h c.pass.inside.turn.mine c.pass.inside.turn.fixed c.requires.of (ap (λ p. p.mine) c.pass.view_is) (ap (λ p. p.capacity) c.pass.view_is) (search rules) c.enter-state.ensures.owned c.enter-state.ensures.steps in
    let n = c.in-Some.ensures in let seen : h ++ n.2.0 ∷ [] ≡ c.give_back.new.turn.seen = search rules in
    subst (λ (l : List (Event g.row.C.Denot g.row.A.Denot)). IsPrefix old.seen l) seen (prefix_more old.seen h (n.2.0 ∷ []) en.begins)
