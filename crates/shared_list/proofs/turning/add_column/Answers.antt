use Rattle.shared_list.proofs.api.Transposes.{turned-more}
use Rattle.shared_list.proofs.turning.add_column.Goals as goal

pub each-preserved : goal.each-preserved
each-preserved g c =
    turned-more c.args.nothing c.args.n c.args.m c.args.items.now c.args.j c.each.i c.item_or.result c.each.found.items _
    c.each-test.true c.each.invariant c.in_ok-push.ensures.items c.item_or.ensures
