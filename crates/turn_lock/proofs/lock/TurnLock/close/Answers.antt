use Rattle.std.proofs.Common.{rules, ◌≡◌, ◌<◌, ◌∙◌, sym, ap, false, subst, ℕ, List, length}
use Rattle.std.specs.Slots.{slots_items}
use Rattle.tallies.specs.Tallies.{times, once_below}
use Rattle.turn_lock.proofs.Moves.{lefts, some_one}
use Rattle.turn_lock.proofs.lock.TurnLock.close.Goals as goal

pub unreachable-requires : goal.unreachable-requires
unreachable-requires g c =
    let shares : c.turn.inside.seat.me.0.seats ≡ c.self.inside.table.shared.key.seats = search rules in
    let some : 0 < c.turn.inside.seat.me.0.seats = search rules in
    let free : c.turn.inside.seat.me.0.held ≡ false = search rules in
    let l = lefts g.S.Storied.history g.S.Storied.owns g.S.Storied.fixed (g.S.Storied.fixed c.self.inside.table.shared.key.first.value) c.self.inside.table.shared.key.seats c.turn.inside.seat.id c.turn.inside.seat.me.0 _ (slots_items c.close_with-closed.result.slots) c.take-slot.result c.close_with-closed.ensures.values.2 some shares free c.take-slot.ensures.value in
    c.in_default.not-Some l.state l.is

pub returns-clause-history : goal.returns-clause-history
returns-clause-history g c =
    let shares : c.turn.inside.seat.me.0.seats ≡ c.self.inside.table.shared.key.seats = search rules in
    let some : 0 < c.turn.inside.seat.me.0.seats = search rules in
    let free : c.turn.inside.seat.me.0.held ≡ false = search rules in
    let l = lefts g.S.Storied.history g.S.Storied.owns g.S.Storied.fixed (g.S.Storied.fixed c.self.inside.table.shared.key.first.value) c.self.inside.table.shared.key.seats c.turn.inside.seat.id c.turn.inside.seat.me.0 _ (slots_items c.close_with-closed.result.slots) c.take-slot.result c.close_with-closed.ensures.values.2 some shares free c.take-slot.ensures.value in
    let seen : c.turn.inside.seat.me.0.seen ≡ c.args.turn.seen = search rules in
    ap g.S.Storied.history (some_one g.S.Storied.history g.S.Storied.owns g.S.Storied.fixed (g.S.Storied.fixed c.self.inside.table.shared.key.first.value) c.in-Some.state l.state (sym c.in-Some.is ∙ l.is)) ∙ l.shows ∙ seen

pub returns-clause-fixed : goal.returns-clause-fixed
returns-clause-fixed g c =
    let shares : c.turn.inside.seat.me.0.seats ≡ c.self.inside.table.shared.key.seats = search rules in
    let some : 0 < c.turn.inside.seat.me.0.seats = search rules in
    let free : c.turn.inside.seat.me.0.held ≡ false = search rules in
    let l = lefts g.S.Storied.history g.S.Storied.owns g.S.Storied.fixed (g.S.Storied.fixed c.self.inside.table.shared.key.first.value) c.self.inside.table.shared.key.seats c.turn.inside.seat.id c.turn.inside.seat.me.0 _ (slots_items c.close_with-closed.result.slots) c.take-slot.result c.close_with-closed.ensures.values.2 some shares free c.take-slot.ensures.value in
    let seen : c.turn.inside.seat.me.0.fixed ≡ c.args.turn.fixed = search rules in
    ap g.S.Storied.fixed (some_one g.S.Storied.history g.S.Storied.owns g.S.Storied.fixed (g.S.Storied.fixed c.self.inside.table.shared.key.first.value) c.in-Some.state l.state (sym c.in-Some.is ∙ l.is)) ∙ l.still ∙ seen

pub returns-clause-all : goal.returns-clause-all
returns-clause-all g c =
    let shares : c.turn.inside.seat.me.0.seats ≡ c.self.inside.table.shared.key.seats = search rules in
    let some : 0 < c.turn.inside.seat.me.0.seats = search rules in
    let free : c.turn.inside.seat.me.0.held ≡ false = search rules in
    let l = lefts g.S.Storied.history g.S.Storied.owns g.S.Storied.fixed (g.S.Storied.fixed c.self.inside.table.shared.key.first.value) c.self.inside.table.shared.key.seats c.turn.inside.seat.id c.turn.inside.seat.me.0 _ (slots_items c.close_with-closed.result.slots) c.take-slot.result c.close_with-closed.ensures.values.2 some shares free c.take-slot.ensures.value in
    let seen : c.turn.inside.seat.me.0.seen ≡ c.args.turn.seen = search rules in
    let mine : c.turn.inside.seat.me.0.mine ≡ c.args.turn.mine = search rules in
    λ x. subst (λ (z : List ℕ × List g.row.E.Denot). times x z.0 ≡ once_below x (length z.1)) (λ k. (mine k, seen k)) (l.all x)
