use Rattle.std.proofs.lemmas.Grind.{common_steps}
use Rattle.std.proofs.Common.{rules, ◌≡◌, ◌∙◌, length, map, Some, sym, ap, arith}
use Rattle.chunk_board.proofs.PartEnds.{opens}
use Rattle.chunk_board.proofs.api.Emptying.{full_slots, same_parts}
use Rattle.chunk_board.proofs.part_board.PartBoard.new.Goals as goal

pub new-requires : goal.new-requires
new-requires g c = let same : c.of.result.value.items ≡ c.args.parts.items = ap (λ v. v.items) c.of.ensures in
    opens (record { shares = c.args.shares; parts = c.of.result }) c.filled-slots.result.items (c.filled-slots.ensures.slots ∙ ap (map Some) (sym same)) (let l = ap length same in let few = c.requires.few in omega arith) (search rules)

pub emptied-requires-clause-full : goal.emptied-requires-clause-full
emptied-requires-clause-full g c = λ i h. full_slots c.args.parts.items c.in-Err.refused.slots.items (c.in-Err.ensures.err ∙ c.filled-slots.ensures.slots) i (omega arith)

pub returns-clause-refused : goal.returns-clause-refused
returns-clause-refused g c = same_parts _ c.args.parts.items (c.emptied.ensures ∙ c.in-Err.ensures.err ∙ c.filled-slots.ensures.slots)

pub returns-in_default-clause-board : goal.returns-in_default-clause-board
returns-in_default-clause-board g c = search rules

pub returns-in_default-clause-parts : goal.returns-in_default-clause-parts
returns-in_default-clause-parts g c = search rules

pub returns-in_default-clause-shares : goal.returns-in_default-clause-shares
returns-in_default-clause-shares g c = search rules

pub returns-in_default-clause-fresh : goal.returns-in_default-clause-fresh
returns-in_default-clause-fresh g c = search rules

pub returns-in_default-clause-refused : goal.returns-in_default-clause-refused
returns-in_default-clause-refused g c = search rules

pub filled-slots-requires : goal.filled-slots-requires
filled-slots-requires g c = search rules

pub overflow_cast-board : goal.overflow_cast-board
overflow_cast-board g c = search rules

pub invariant_of-board : goal.invariant_of-board
invariant_of-board g c = grind (arith, common_steps)

pub invariant_of-claimer : goal.invariant_of-claimer
invariant_of-claimer g c = search rules

pub returns-in-Ok-new-clause-board : goal.returns-in-Ok-new-clause-board
returns-in-Ok-new-clause-board g c = search rules

pub returns-in-Ok-new-clause-parts : goal.returns-in-Ok-new-clause-parts
returns-in-Ok-new-clause-parts g c = search rules

pub returns-in-Ok-new-clause-shares : goal.returns-in-Ok-new-clause-shares
returns-in-Ok-new-clause-shares g c = search rules

pub returns-in-Ok-new-clause-fresh : goal.returns-in-Ok-new-clause-fresh
returns-in-Ok-new-clause-fresh g c = search rules

pub returns-in-Ok-new-clause-refused : goal.returns-in-Ok-new-clause-refused
returns-in-Ok-new-clause-refused g c = search rules

pub emptied-requires-clause-none : goal.emptied-requires-clause-none
emptied-requires-clause-none g c = search rules

pub emptied-requires-clause-capacity : goal.emptied-requires-clause-capacity
emptied-requires-clause-capacity g c = grind (arith, common_steps)

pub returns-clause-board : goal.returns-clause-board
returns-clause-board g c = search rules

pub returns-clause-parts : goal.returns-clause-parts
returns-clause-parts g c = search rules

pub returns-clause-shares : goal.returns-clause-shares
returns-clause-shares g c = search rules

pub returns-clause-fresh : goal.returns-clause-fresh
returns-clause-fresh g c = search rules
