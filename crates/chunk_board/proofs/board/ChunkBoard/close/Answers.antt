use Rattle.std.proofs.Common.{rules, ◌≡◌, ◌↔◌, ℕ, IsTrue, get_or, leb, min, true, arith, sym, ap, ◌∙◌, subst}
use Rattle.std.specs.List.{range_with_len}
use Rattle.std.specs.List.Sorted.{IsPermutation}
use Rattle.tallies.specs.Tallies.{times, once_below}
use Rattle.chunk_board.proofs.Steps.{first_of, whole_drawn, stopped_full}
use Rattle.tallies.proofs.api.Once.{closes, le_leb}
use Rattle.chunk_board.proofs.board.ChunkBoard.close.Goals as goal

pub returns-clause-all : goal.returns-clause-all
returns-clause-all c = let f = c.close_with-closed.ensures.values.2 in let seen = f.1 in let hand = c.claimer.inside.seat.me.0 in
    let next : get_or f.0.words 0 0 ≡ c.word-next.result = ap (λ l. get_or l 0 0) f.2 ∙ first_of _ _ c.word-next.ensures in
    let whole : hand.shares ≡ c.self.inside.table.shared.key.shares = search rules in
    let n : c.self.inside.table.shared.key.pieces ≡ c.from.result = search rules in
    let drawn : hand.drawn ≡ c.args.claimer.drawn = search rules in
    let n' : c.from.result ≡ c.args.self.pieces = search rules in
    let once = whole_drawn _ _ _ _ _ _ seen.0.3 seen.1 whole in
    subst (λ (m : ℕ). IsTrue (leb c.from.result c.word-next.result) ↔ IsPermutation (range_with_len 0 m) c.args.claimer.drawn) n'
    (closes c.from.result c.word-next.result c.args.claimer.drawn (λ x. ap (times x) (sym drawn) ∙ once x ∙ ap (λ (z : ℕ × ℕ). once_below x (min z.0 z.1)) (λ k. (next k, n k))))

pub returns-clause-stopped : goal.returns-clause-stopped
returns-clause-stopped c e = let f = c.close_with-closed.ensures.values.2 in let seen = f.1 in let hand = c.claimer.inside.seat.me.0 in
    let next : get_or f.0.words 0 0 ≡ c.word-next.result = ap (λ l. get_or l 0 0) f.2 ∙ first_of _ _ c.word-next.ensures in
    let stopped : hand.stopped ≡ true = search rules in
    let n : c.self.inside.table.shared.key.pieces ≡ c.from.result = search rules in
    let done = stopped_full _ _ _ _ _ _ seen.0.3 seen.1 stopped in
    le_leb _ _ (omega arith)
