use Rattle.std.proofs.Common.{length}
use Rattle.std.proofs.lemmas.List.{length_push}
use Rattle.std.proofs.lemmas.Slice.Zip.{zip_turn, zip_end}
use Rattle.arr_lower.specs.Operations.{difference_node}
use Rattle.arr_lower.proofs.MadeInTurn.{pairs-more, pairs-all}
use Rattle.arr_lower.proofs.operation.differences_by.Goals as goal

pub each-preserved : goal.each-preserved
each-preserved c =
    let turn = zip_turn c.args.left.now c.args.right.now c.each.yielded c.into_iter-a-iterator.result c.each.a-iterator c.next.new.self _ (cc) (cc) c.each.yielded_by _ c.in-Some.is c.next.ensures.steps in
    pairs-more (difference_node c.args.factor) c.args.left.now c.args.right.now (length c.each.yielded) _ c.in-Some.a.now c.in-Some.b.now c.each.items.items _ c.each.nodes c.difference.new.nodes _ _
    turn.0 turn.1 (length_push c.each.yielded (c.in-Some.a, c.in-Some.b)) (turn.2 c.in-Some.a.now) (turn.3 c.in-Some.b.now) c.in_ok-difference.ensures c.in_ok-push.ensures.items c.each.invariant

pub returns : goal.returns
returns c =
    let whole = zip_end c.args.left.now c.args.right.now c.each.yielded c.into_iter-a-iterator.result c.each.a-iterator c.next.new.self _ (cc) (cc) c.each.yielded_by c.in-None.is c.next.ensures.steps in
    pairs-all (difference_node c.args.factor) c.args.left.now c.args.right.now (length c.each.yielded) c.each.items.items c.each.nodes _ whole c.each.invariant
