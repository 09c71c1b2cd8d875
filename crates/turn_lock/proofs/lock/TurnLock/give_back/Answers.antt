use Rattle.std.proofs.Common.{rules}
use Rattle.turn_lock.proofs.Moves.{records, leaves}
use Rattle.turn_lock.proofs.lock.TurnLock.give_back.Goals as goal

pub fetch_add-requires : goal.fetch_add-requires
fetch_add-requires g c = (search rules, search rules, records g.S.Storied.history g.S.Storied.owns g.S.Storied.fixed _ g.S.Storied.owns_others _ _ _ c.exchange-old.new.seat.me c.args.state c.args.added (search rules) (search rules) (search rules) (search rules) (search rules) (search rules))

pub fetch_add-served-requires : goal.fetch_add-served-requires
fetch_add-served-requires g c = (search rules, search rules, leaves g.S.Storied.history g.S.Storied.owns g.S.Storied.fixed _ _ _ _ c.fetch_add.new.seat.me c.args.state (search rules) (search rules) (search rules) (search rules) (search rules))
