use Rattle.std.proofs.Common.{◌≡◌, ◌≤◌, length, refl, sym, subst, arith}
use Rattle.std.specs.Prelude.{IfOk}
use Rattle.std.proofs.lemmas.Bool.Decides.{nat_tests}
use Rattle.arr_lower.specs.Operations.{MadeOne}
use Rattle.arr_lower.proofs.MadeInTurn.{one_of}
use Rattle.arr_lower.proofs.SumHalves.{sum_node-by_halves}
use Rattle.arr_lower.proofs.sum.+sum.Goals as goal

pub returns : goal.returns
returns t c =
    let long : 2 ≤ length c.args.items.now = grind (arith, nat_tests) in
    subst (λ (made : MadeOne). IfOk c.operation.result (λ item. made ≡ one_of item c.operation.new.self))
    (sym (sum_node-by_halves c.args.items.now c.split_at.result.0.now c.split_at.result.1.now _ c.args.nodes.now c.sum.new.nodes c.sum-2.new.nodes c.in_ok-left.left c.in_ok-right.right
    long refl c.split_at.ensures.front c.split_at.ensures.back c.in_ok-left.ensures c.in_ok-right.ensures))
    c.operation.ensures
