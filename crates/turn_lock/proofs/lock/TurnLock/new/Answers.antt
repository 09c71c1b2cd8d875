use Rattle.std.proofs.Common.{rules, ℕ, ◌∷◌, [], List, Option, ap, sym, subst}
use Rattle.atomic_table.specs.Table.{opening}
use Rattle.turn_lock.specs.Turns.{IsLock, newcomer}
use Rattle.turn_lock.proofs.Moves.{opens}
use Rattle.turn_lock.proofs.lock.TurnLock.new.Goals as goal

pub new-requires : goal.new-requires
new-requires g c = let fix : ℕ = g.S.Storied.fixed c.of.result.value in
    subst (λ (l : List (Option g.row.S.Denot)). IsLock g.S.Storied.history g.S.Storied.owns g.S.Storied.fixed fix c.args.seats (opening (0 ∷ 0 ∷ 0 ∷ []) l (newcomer fix c.args.seats))) (sym c.in_ok-slots.ensures.ok)
    (opens g.S.Storied.history g.S.Storied.owns g.S.Storied.fixed fix (g.S.Storied.owns_none []) c.args.seats c.args.state c.requires.fresh (ap g.S.Storied.fixed (sym c.of.ensures)) c.requires.seats (search rules))
