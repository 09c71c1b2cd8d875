use Rattle.std.proofs.lemmas.Grind.{common_steps}
-- Each node of the next level is taken with those of the row below up to the next one
use Rattle.std.proofs.Common.{◌<◌, ◌+◌, ◌∙◌, suc, ap, length, eqb-true, arith, rules}
use Rattle.layer_compile.specs.Levels.{level}
use Rattle.layer_compile.specs.Rows.{is_at}
use Rattle.layer_compile.proofs.LevelsOf.{height_small}
use Rattle.layer_compile.proofs.Merging.{merged_new}
use Rattle.layer_compile.proofs.PlacesOf.{few_below}
use Rattle.layer_compile.proofs.Standing.{row_below}
use Rattle.layer_compile.proofs.plan.Plan.merged_row.Goals as goal

pub first_of_level-new-requires : goal.first_of_level-new-requires
first_of_level-new-requires c =
    let list = c.args.self.now.list.now in
    omega (arith, c.requires.under, height_small list c.nodes-many.ensures.fine)

pub keep-requires-in-loop-new-clause-merged : goal.keep-requires-in-loop-new-clause-merged
keep-requires-in-loop-new-clause-merged c =
    let list = c.args.self.now.list.now in
    let h = c.args.height in
    let new = c.loop-new.new in
    let inside : new < length list.nodes = omega (arith, c.loop-new-test.true, ap length c.nodes-many.ensures.value) in
    merged_new list h (h + 1) new c.loop-new.taken c.loop-new.above.nodes.items c.add_new.new.above.nodes.items (omega arith) c.loop-new.invariant.merged (eqb-true (level list new) (suc h) (c.loop-new.invariant.here inside)) c.in_ok-add_new.ensures.nodes

pub begun-requires : goal.begun-requires
begun-requires c =
    let list = c.args.self.now.list.now in
    let h = c.args.height in
    omega (arith, c.nodes-many.ensures.fine.few_nodes, ap length (c.requires.below ∙ row_below list h (omega (arith, c.requires.under))), few_below (is_at list h) (length list.nodes))

pub add_new-requires-clause-own : goal.add_new-requires-clause-own
add_new-requires-clause-own c =
    let list = c.args.self.now.list.now in
    let new = c.loop-new.new in
    let inside : new < length list.nodes = omega (arith, c.loop-new-test.true, ap length c.nodes-many.ensures.value) in
    eqb-true (level list new) (suc c.args.height) (c.loop-new.invariant.here inside)

pub returns-in_err-above-clause-nodes : goal.returns-in_err-above-clause-nodes
returns-in_err-above-clause-nodes g = search rules

pub returns-in_err-above-clause-gates : goal.returns-in_err-above-clause-gates
returns-in_err-above-clause-gates g = search rules

pub overflow_add-height : goal.overflow_add-height
overflow_add-height g = search rules

pub keep-requires-clause-under : goal.keep-requires-clause-under
keep-requires-clause-under g = search rules

pub keep-requires-clause-below : goal.keep-requires-clause-below
keep-requires-clause-below g = grind (arith, common_steps)

pub keep-requires-clause-new : goal.keep-requires-clause-new
keep-requires-clause-new g = search rules

pub keep-requires-clause-merged : goal.keep-requires-clause-merged
keep-requires-clause-merged g = search rules

pub keep-requires-clause-gates : goal.keep-requires-clause-gates
keep-requires-clause-gates g = grind (arith, common_steps)

pub returns-in_err-taken-clause-nodes : goal.returns-in_err-taken-clause-nodes
returns-in_err-taken-clause-nodes g = search rules

pub returns-in_err-taken-clause-gates : goal.returns-in_err-taken-clause-gates
returns-in_err-taken-clause-gates g = search rules

pub loop-new-init : goal.loop-new-init
loop-new-init g = search rules

pub overflow_cast-new : goal.overflow_cast-new
overflow_cast-new g = search rules

pub add_new-requires-clause-inside : goal.add_new-requires-clause-inside
add_new-requires-clause-inside g = search rules

pub add_new-requires-clause-places : goal.add_new-requires-clause-places
add_new-requires-clause-places g = search rules

pub add_new-requires-clause-under : goal.add_new-requires-clause-under
add_new-requires-clause-under g = search rules

pub add_new-requires-clause-gates : goal.add_new-requires-clause-gates
add_new-requires-clause-gates g = grind (arith, common_steps)

pub returns-in_err-add_new-clause-nodes : goal.returns-in_err-add_new-clause-nodes
returns-in_err-add_new-clause-nodes g = search rules

pub returns-in_err-add_new-clause-gates : goal.returns-in_err-add_new-clause-gates
returns-in_err-add_new-clause-gates g = search rules

pub next_of_level-next-requires : goal.next_of_level-next-requires
next_of_level-next-requires g = search rules

pub overflow_cast-new-in-loop-new : goal.overflow_cast-new-in-loop-new
overflow_cast-new-in-loop-new g = search rules

pub overflow_add-new : goal.overflow_add-new
overflow_add-new g = search rules

pub keep-requires-in-loop-new-clause-under : goal.keep-requires-in-loop-new-clause-under
keep-requires-in-loop-new-clause-under g = search rules

pub keep-requires-in-loop-new-clause-below : goal.keep-requires-in-loop-new-clause-below
keep-requires-in-loop-new-clause-below g = grind (arith, common_steps)

pub keep-requires-in-loop-new-clause-new : goal.keep-requires-in-loop-new-clause-new
keep-requires-in-loop-new-clause-new g = search rules

pub keep-requires-in-loop-new-clause-gates : goal.keep-requires-in-loop-new-clause-gates
keep-requires-in-loop-new-clause-gates g = grind (arith, common_steps)

pub returns-in_err-taken-2-clause-nodes : goal.returns-in_err-taken-2-clause-nodes
returns-in_err-taken-2-clause-nodes g = search rules

pub returns-in_err-taken-2-clause-gates : goal.returns-in_err-taken-2-clause-gates
returns-in_err-taken-2-clause-gates g = search rules

pub loop-new-smaller : goal.loop-new-smaller
loop-new-smaller g = search rules

pub loop-new-preserved : goal.loop-new-preserved
loop-new-preserved g = search rules

pub returns-clause-nodes : goal.returns-clause-nodes
returns-clause-nodes g = grind (arith, common_steps)

pub returns-clause-gates : goal.returns-clause-gates
returns-clause-gates g = grind (arith, common_steps)
