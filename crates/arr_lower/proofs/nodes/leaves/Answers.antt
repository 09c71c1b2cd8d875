use Rattle.std.proofs.Common.{ℕ, List, ap, sym, ◌∙◌}
use Rattle.arr_lower.proofs.LeavesMade.{leaves-none, leaves-more}
use Rattle.arr_lower.proofs.MadeInTurn.{made_of}
use Rattle.arr_lower.proofs.nodes.leaves.Goals as goal

pub each-init : goal.each-init
each-init c = leaves-none c.args.nodes.now ∙ ap (λ (items : List ℕ). made_of items c.args.nodes.now) (sym c.new-found.ensures.items)

pub each-preserved : goal.each-preserved
each-preserved c =
    leaves-more c.each.number c.args.nodes.now c.each.nodes c.leaf.new.self c.each.found.items _ _ c.each.invariant c.in_ok-leaf.ensures.number c.in_ok-leaf.ensures.nodes c.in_ok-push.ensures.items
