use Rattle.std.proofs.Common.{rules, ◌≡◌, ◌∙◌, ◌↔◌, ℕ, IsTrue, None, get_or, leb, min, true, arith, sym, ap, length, subst}
use Rattle.std.specs.List.{range_with_len}
use Rattle.std.specs.List.Sorted.{IsPermutation}
use lib.ListN.{get_elem?}
use Rattle.std.specs.Slots.{slots_items}
use Rattle.tallies.specs.Tallies.{times, once_below}
use Rattle.tallies.proofs.api.Once.{closes, le_leb}
use Rattle.chunk_board.proofs.PartEnds.{lefts, all_stopped}
use Rattle.chunk_board.proofs.api.Emptying.{here, at_or}
use Rattle.chunk_board.proofs.part_board.PartBoard.close.Goals as goal
use Rattle.chunk_board.proofs.Steps.{first_of}

pub brought_home-parts-requires-clause-full : goal.brought_home-parts-requires-clause-full
brought_home-parts-requires-clause-full g c = let hand = c.claimer.inside.seat.me.0 in let key = c.self.inside.table.shared.key in
    let whole : hand.shares ≡ key.shares = search rules in
    let free : hand.held ≡ None = search rules in
    λ k h. (lefts key _ hand _ (slots_items c.close_with-closed.result.slots) whole free c.close_with-closed.ensures.values.2).full k (let n = c.self.invariant.2 in omega arith)

pub returns-clause-put : goal.returns-clause-put
returns-clause-put g c = let hand = c.claimer.inside.seat.me.0 in let key = c.self.inside.table.shared.key in
    let whole : hand.shares ≡ key.shares = search rules in
    let free : hand.held ≡ None = search rules in
    let put : hand.put ≡ c.args.claimer.put = search rules in
    λ i d h. c.brought_home-parts.ensures.items _ _ ((lefts key _ hand _ (slots_items c.close_with-closed.result.slots) whole free c.close_with-closed.ensures.values.2).put_there i _ _ (ap (λ l. get_elem? l i) put ∙ at_or c.args.claimer.put i d h))

pub returns-clause-kept : goal.returns-clause-kept
returns-clause-kept g c = let hand = c.claimer.inside.seat.me.0 in let key = c.self.inside.table.shared.key in
    let whole : hand.shares ≡ key.shares = search rules in
    let free : hand.held ≡ None = search rules in
    let drawn : hand.drawn ≡ c.args.claimer.drawn = search rules in
    let parts : key.parts.value.items ≡ c.args.self.parts = search rules in
    λ k x z e. c.brought_home-parts.ensures.items k x ((lefts key _ hand _ (slots_items c.close_with-closed.result.slots) whole free c.close_with-closed.ensures.values.2).kept_there k x (ap (times k) drawn ∙ z) (ap (λ l. get_elem? l k) parts ∙ here c.args.self.parts k x e))

pub returns-clause-stopped : goal.returns-clause-stopped
returns-clause-stopped g c e = let hand = c.claimer.inside.seat.me.0 in let key = c.self.inside.table.shared.key in
    let stopped : hand.stopped ≡ true = search rules in
    let next : get_or (slots_items c.close_with-closed.result.words) 0 0 ≡ c.word-next.result = first_of _ _ c.word-next.ensures in
    let done = all_stopped key _ hand _ _ stopped c.close_with-closed.ensures.values.2 in let n = c.self.invariant.2 in
    le_leb _ _ (omega arith)

pub returns-clause-all : goal.returns-clause-all
returns-clause-all g c = let hand = c.claimer.inside.seat.me.0 in let key = c.self.inside.table.shared.key in
    let whole : hand.shares ≡ key.shares = search rules in
    let free : hand.held ≡ None = search rules in
    let drawn : hand.drawn ≡ c.args.claimer.drawn = search rules in
    let parts : key.parts.value.items ≡ c.args.self.parts = search rules in
    let next : get_or (slots_items c.close_with-closed.result.words) 0 0 ≡ c.word-next.result = first_of _ _ c.word-next.ensures in
    let n : length key.parts.value.items ≡ c.from.result = search rules in
    let n' : c.from.result ≡ length c.args.self.parts = sym n ∙ ap length parts in
    let l = lefts key _ hand _ (slots_items c.close_with-closed.result.slots) whole free c.close_with-closed.ensures.values.2 in
    subst (λ (m : ℕ). IsTrue (leb c.from.result c.word-next.result) ↔ IsPermutation (range_with_len 0 m) c.args.claimer.drawn) n'
    (closes c.from.result c.word-next.result c.args.claimer.drawn (λ x. ap (times x) (sym drawn) ∙ l.once x ∙ ap (λ (z : ℕ × ℕ). once_below x (min z.0 z.1)) (λ k. (next k, n k))))
