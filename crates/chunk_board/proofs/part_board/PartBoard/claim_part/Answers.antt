use Rattle.std.proofs.Common.{rules, ◌≡◌, ℕ, ◌<◌, List, Option, refl, slice_get, ◌∷◌, ◌∙◌, length, Some, sym, ap, arith}
use Rattle.atomic_table.specs.Table.{rest}
use Rattle.chunk_board.proofs.api.PartSteps.{claims}
use Rattle.chunk_board.proofs.api.Emptying.{there}
use Rattle.chunk_board.proofs.part_board.PartBoard.claim_part.Goals as goal

pub fetch_add-found-requires : goal.fetch_add-found-requires
fetch_add-found-requires g c = (
  search rules,
  search rules,
  claims c.self.inside.table.shared.key _ _ c.claimer.inside.seat.me (search rules) (search rules) (search rules) (search rules),
)

pub exchange-slot-requires : goal.exchange-slot-requires
exchange-slot-requires g c =
    let same : c.claimer.inside.seat.me.0.parts ≡ c.self.inside.table.shared.key.parts.value.items = search rules in
    let low : c.fetch_add-found.result < length c.claimer.inside.seat.me.0.parts = let t = c.if-found-from.true in let n = c.self.invariant.2 in let l = ap length same in omega arith in
    let t = c.fetch_add-found.ensures.2.0 low in (search rules, (Some t.part, t.took ∙ sym (ap (λ l. (c.fetch_add-found.result, Some t.part) ∷ rest l) t.took)))

head_of : {X : Type 0} {a b : ℕ × Option X} {k l : List (ℕ × Option X)} {x y : X} → a ∷ k ≡ b ∷ l → a.1 ≡ Some x → b.1 ≡ Some y → x ≡ y
head_of e p q = cc

pub returns-in-Some-clause-part : goal.returns-in-Some-clause-part
returns-in-Some-clause-part g c =
    let same : c.claimer.inside.seat.me.0.parts ≡ c.self.inside.table.shared.key.parts.value.items = search rules in
    let low : c.fetch_add-found.result < length c.claimer.inside.seat.me.0.parts = let t = c.if-found-from.true in let n = c.self.invariant.2 in let l = ap length same in omega arith in
    let t = c.fetch_add-found.ensures.2.0 low in
    let part : t.part ≡ c.in-Some.part = head_of (sym t.took ∙ c.exchange-slot.ensures.2) refl c.in-Some.is in
    let is : c.claimer.inside.seat.me.0.parts ≡ c.args.self.now.parts = search rules in
    ap (λ l. slice_get l c.fetch_add-found.result) (sym is) ∙ there c.claimer.inside.seat.me.0.parts c.fetch_add-found.result t.part t.is ∙ ap Some part

pub overflow_cast-claimer : goal.overflow_cast-claimer
overflow_cast-claimer g c = search rules

pub unreachable-requires : goal.unreachable-requires
unreachable-requires g c = search rules

pub unreachable-unreachable : goal.unreachable-unreachable
unreachable-unreachable g c = search rules

pub overflow_cast-result : goal.overflow_cast-result
overflow_cast-result g c = search rules

pub invariant_of-claimer : goal.invariant_of-claimer
invariant_of-claimer g c = search rules

pub invariant_of-claimer-else-found-from : goal.invariant_of-claimer-else-found-from
invariant_of-claimer-else-found-from g c = search rules

pub returns-in-Some-clause-some : goal.returns-in-Some-clause-some
returns-in-Some-clause-some g c = search rules

pub returns-in-Some-clause-few : goal.returns-in-Some-clause-few
returns-in-Some-clause-few g c = search rules

pub returns-in-Some-clause-step : goal.returns-in-Some-clause-step
returns-in-Some-clause-step g c = search rules

pub returns-in-Some-clause-none : goal.returns-in-Some-clause-none
returns-in-Some-clause-none g c = search rules

pub returns-else-found-from-clause-part : goal.returns-else-found-from-clause-part
returns-else-found-from-clause-part g c = search rules

pub returns-else-found-from-clause-some : goal.returns-else-found-from-clause-some
returns-else-found-from-clause-some g c = search rules

pub returns-else-found-from-clause-few : goal.returns-else-found-from-clause-few
returns-else-found-from-clause-few g c = search rules

pub returns-else-found-from-clause-step : goal.returns-else-found-from-clause-step
returns-else-found-from-clause-step g c = search rules

pub returns-else-found-from-clause-none : goal.returns-else-found-from-clause-none
returns-else-found-from-clause-none g c = search rules
