use Rattle.std.proofs.Common.{rules, ◌≡◌, ◌∷◌, ◌++◌, [], length, Some, sym, ap, ◌∙◌, arith, false, get_or-set_same, get_or-set_other, slice_get, slice_index_or, slice_set}
use mathlib.Core.Logic.{dite}
use native.Mathlib.Decide.{ℕ_discrete}
use mathlib.Core.Option.{some-injective}
use lib.ListN.{get_elem?}
use Rattle.std.specs.Slots.{slots_items, slots_filled}
use Rattle.chunk_board.proofs.api.Emptying.{there_last, there_before, within}
use Rattle.chunk_board.proofs.slots.brought_home.Goals as goal

pub unreachable-requires : goal.unreachable-requires
unreachable-requires g c = let i = c.loop-k.invariant in let full = c.requires.full c.loop-k.k (omega arith) in
    c.in_default.not-Some full.0 (some-injective _ _ (sym c.take.ensures.value ∙ ap (λ l. get_elem? l c.loop-k.k) i.items ∙ full.1))

pub loop-k-preserved : goal.loop-k-preserved
loop-k-preserved g c = let i = c.loop-k.invariant in let full = c.requires.full c.loop-k.k (omega arith) in
    let is : c.take.result ≡ Some full.0 = some-injective _ _ (sym c.take.ensures.value ∙ ap (λ l. get_elem? l c.loop-k.k) i.items ∙ full.1) in
    let counts = c.loop-k.closed.slots.ok in
    let filled = c.take.ensures.others.1 in
    let pushed = c.in-Ok.ensures.items in
    let number : length c.loop-k.parts.items ≡ c.loop-k.k = search rules in record {
      items = c.take.ensures.others.0 ∙ i.items;
      len = c.take.ensures.others.2 ∙ i.len;
      left = λ j h lt. ap (λ l. slice_index_or l j false) filled ∙ get_or-set_other (slots_filled c.loop-k.closed.slots) c.loop-k.k j false false (λ e. absurd (omega arith)) ∙ i.left j (omega arith) lt;
      free = λ j h. dite (ℕ_discrete j c.loop-k.k)
          (λ (e : j ≡ c.loop-k.k). ap (λ l. slice_index_or l j false) filled ∙ ap (λ k. slice_index_or (slice_set (slots_filled c.loop-k.closed.slots) c.loop-k.k false) k false) e ∙ get_or-set_same (slots_filled c.loop-k.closed.slots) c.loop-k.k false false (omega arith))
          (λ n. ap (λ l. slice_index_or l j false) filled ∙ get_or-set_other (slots_filled c.loop-k.closed.slots) c.loop-k.k j false false n ∙ i.free j (omega arith));
      taken = λ j x h e. dite (ℕ_discrete j c.loop-k.k)
          (λ (s : j ≡ c.loop-k.k). ap (λ l. slice_get l j) pushed ∙ ap (λ k. slice_get (c.loop-k.parts.items ++ c.in-Some.part ∷ []) k) (s ∙ sym number) ∙ there_last c.loop-k.parts.items c.in-Some.part
          ∙ sym c.in-Some.is ∙ is ∙ some-injective _ _ (sym full.1 ∙ ap (get_elem? (slots_items c.args.closed.slots)) (sym s) ∙ e))
          (λ n. ap (λ l. slice_get l j) pushed ∙ there_before c.loop-k.parts.items c.in-Some.part x j (i.taken j x (omega arith) e));
      number = search rules;
      capacity = search rules;
    }

pub returns-clause-items : goal.returns-clause-items
returns-clause-items g c = let i = c.loop-k.invariant in let counts = c.args.closed.slots.ok in
    λ j x e. i.taken j x (let w = within (slots_items c.args.closed.slots) j (Some x) e in let n = c.requires.slots in omega arith) e
