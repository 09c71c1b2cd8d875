use Rattle.std.proofs.lemmas.Grind.{common_steps}
use Rattle.std.proofs.Common.{◌≡◌, ◌∷◌, ◌++◌, [], map, replicate, vec_len, None, Some, suc, sym, ap, ◌∙◌, arith, rules}
use Rattle.std.proofs.lemmas.List.{append_assoc}
use Rattle.chunk_board.proofs.api.Emptying.{fill_step}
use Rattle.chunk_board.proofs.slots.filled.Goals as goal

pub loop-part-preserved : goal.loop-part-preserved
loop-part-preserved g c = let i = c.loop-part.invariant in
    let more : vec_len c.loop-part.parts ≡ suc c.len-at.result = let k = c.in-Some.ensures.cases in omega arith in record {
      rest = c.in-Some.part ∷ i.rest;
      all = sym (append_assoc c.pop.new.self.items (c.in-Some.part ∷ []) i.rest) ∙ ap (λ l. l ++ i.rest) (sym c.in-Some.ensures.items) ∙ i.all;
      slots = fill_step c.len-at.result c.in-Some.part i.rest c.loop-part.slots.items (i.slots ∙ ap (λ n. replicate n None ++ map Some i.rest) more) ∙ ap (λ n. replicate n None ++ map Some (c.in-Some.part ∷ i.rest)) (omega arith);
      capacity = omega arith;
    }

pub loop-part-init : goal.loop-part-init
loop-part-init g c = grind (arith, common_steps)

pub index_mut-requires : goal.index_mut-requires
index_mut-requires g c = grind (arith, common_steps)

pub loop-part-smaller-in-Some : goal.loop-part-smaller-in-Some
loop-part-smaller-in-Some g c = search rules

pub loop-part-preserved-in-Some : goal.loop-part-preserved-in-Some
loop-part-preserved-in-Some g c = grind (arith, common_steps)

pub loop-part-smaller : goal.loop-part-smaller
loop-part-smaller g c = search rules

pub returns-clause-slots : goal.returns-clause-slots
returns-clause-slots g c = search rules

pub returns-clause-emptied : goal.returns-clause-emptied
returns-clause-emptied g c = search rules

pub returns-clause-capacity : goal.returns-clause-capacity
returns-clause-capacity g c = search rules
