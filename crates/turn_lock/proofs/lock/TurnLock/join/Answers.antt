use Rattle.std.proofs.Common.{rules, ◌≡◌, List, ap, subst, arith}
use mathlib.Core.List.{IsPrefix}
use Rattle.tallies.specs.Tallies.{times}
use Rattle.turn_lock.specs.Lists.{unite, IsRising}
use Rattle.turn_lock.proofs.api.United.{times-unite}
use Rattle.turn_lock.proofs.api.Rising.{rising_unite}
use Rattle.turn_lock.proofs.Moves.{joins, shows}
use Rattle.turn_lock.proofs.lock.TurnLock.join.Goals as goal

pub join_seat-requires : goal.join_seat-requires
join_seat-requires g c = (
  search rules,
  search rules,
  search rules,
  search rules,
  λ s r at two there. joins g.S.Storied.history g.S.Storied.owns g.S.Storied.fixed _ g.S.Storied.owns_none g.S.Storied.owns_both _ s r _ c.turn.inside.seat.me.0 _ c.other.inside.seat.me.0
      (search rules) (search rules) (search rules) (search rules) (search rules) at two there,
)

pub load-requires : goal.load-requires
load-requires g c = (search rules, search rules, shows g.S.Storied.history g.S.Storied.owns g.S.Storied.fixed _ _ _ _ c.join_seat.new.seat.me)

pub returns-clause-apart : goal.returns-clause-apart
returns-clause-apart g c x = let mine : c.join_seat.new.seat.me.0.mine ≡ unite c.args.turn.now.mine c.args.other.mine = search rules in
    let t = c.load.ensures.2.2 x in let u = times-unite x c.args.turn.now.mine c.args.other.mine in let s : times x c.join_seat.new.seat.me.0.mine ≡ times x (unite c.args.turn.now.mine c.args.other.mine) = ap (times x) mine in omega arith

pub returns-clause-rising : goal.returns-clause-rising
returns-clause-rising g c a b = let mine : unite c.args.turn.now.mine c.args.other.mine ≡ c.load.new.seat.me.0.mine = search rules in
    subst IsRising mine (rising_unite c.args.turn.now.mine c.args.other.mine a b (returns-clause-apart g c))

pub returns-clause-owned : goal.returns-clause-owned
returns-clause-owned g c = let f = c.load.ensures.2.3 in let seen : c.join_seat.new.seat.me.0.seen ≡ c.load.new.seat.me.0.seen = search rules in let mine : c.join_seat.new.seat.me.0.mine ≡ c.load.new.seat.me.0.mine = search rules in
    (f.0, subst (λ (l : List g.row.E.Denot). IsPrefix l f.0) seen f.1, subst (g.S.Storied.owns f.0) mine f.2)
