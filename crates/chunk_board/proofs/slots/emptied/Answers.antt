use Rattle.std.proofs.Common.{rules, ◌≡◌, ◌∷◌, ◌++◌, [], map, Some, sym, ap, ◌∙◌, arith}
use Rattle.std.proofs.lemmas.List.{map-append}
use Rattle.chunk_board.proofs.api.Emptying.{take_more, got, get_set_other}
use Rattle.chunk_board.proofs.slots.emptied.Goals as goal

pub unreachable-requires : goal.unreachable-requires
unreachable-requires g c = let i = c.loop-i.invariant in let full = c.requires.full c.loop-i.i (omega arith) in
    c.in_default.not-Some full.0 (c.take.ensures.value ∙ c.index_mut.ensures.value ∙ got c.loop-i.slots.items c.loop-i.i (Some full.0) _ (i.left c.loop-i.i (omega arith) ∙ full.1))

pub loop-i-preserved : goal.loop-i-preserved
loop-i-preserved g c = let i = c.loop-i.invariant in let full = c.requires.full c.loop-i.i (omega arith) in
    let here : Some full.0 ≡ Some c.in-Some.part = sym (got c.loop-i.slots.items c.loop-i.i (Some full.0) c.index_mut.result.now (i.left c.loop-i.i (omega arith) ∙ full.1)) ∙ sym c.index_mut.ensures.value ∙ sym c.take.ensures.value ∙ c.in-Some.is in record {
      len = search rules;
      left = λ j h. get_set_other c.loop-i.slots.items c.loop-i.i j _ (omega arith) ∙ i.left j (omega arith);
      moved = ap (map Some) c.in-Ok.ensures.items ∙ map-append Some c.loop-i.parts.items (c.in-Some.part ∷ []) ∙ ap (λ l. l ++ Some c.in-Some.part ∷ []) i.moved ∙ sym (take_more c.args.slots.items c.loop-i.i (Some c.in-Some.part) (full.1 ∙ ap Some here));
      count = search rules;
      capacity = search rules;
    }
