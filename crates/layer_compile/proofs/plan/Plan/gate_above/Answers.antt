-- A node of a lower level is carried from its place
use Rattle.std.proofs.Common.{◌≢◌, ◌∙◌, suc, sym, eq-eqb, arith}
use Rattle.std.proofs.lemmas.Bool.{cond-true, cond-false, ne_eqb}
use Rattle.circuit_core.specs.declared.gate.Kind.TheVariants.{Add}
use Rattle.layer_compile.specs.Levels.{level}
use Rattle.layer_compile.proofs.Standing.{carried_stands}
use Rattle.layer_compile.proofs.plan.Plan.gate_above.Goals as goal

pub returns-else-level-height : goal.returns-else-level-height
returns-else-level-height c =
    let list = c.args.self.now.list.now in
    let other : level list c.args.k ≢ suc c.args.height = λ e. c.if-level-height.false (omega (arith, e, c.level.ensures)) in
    let below = carried_stands list c.args.height c.args.k c.requires.node other in
    let place = c.requires.places.each c.args.k below.0 below.1 in
    c.carried.ensures ∙ (λ i. record { kind = Add; left = place i; right = 0 }) ∙ sym (cond-false _ _ _ (ne_eqb (level list c.args.k) (suc c.args.height) other))

pub returns-then-level-height : goal.returns-then-level-height
returns-then-level-height c =
    let list = c.args.self.now.list.now in
    let own = eq-eqb (level list c.args.k) (suc c.args.height) (omega (arith, c.level.ensures, c.if-level-height.true)) in
    c.placed.ensures ∙ sym (cond-true _ _ _ own)
