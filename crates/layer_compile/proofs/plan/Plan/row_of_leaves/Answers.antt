-- A leaf is added where it is read
use Rattle.std.proofs.Common.{◌++◌, ◌∷◌, [], ap, sym, ◌∙◌, eq-eqb, arith}
use Rattle.std.proofs.lemmas.Bool.{ne_eqb}
use Rattle.layer_compile.specs.Levels.{level}
use Rattle.layer_compile.specs.Rows.{is_at}
use Rattle.layer_compile.proofs.Places.{filter_range_yes, filter_range_no}
use Rattle.layer_compile.proofs.plan.Plan.row_of_leaves.Goals as goal
use Rattle.layer_compile.proofs.plan.Plan.row_of_leaves.Goals.{then-level-eq0+in_ok-add, else-level-eq0}

pub loop-k-preserved : goal.loop-k-preserved
loop-k-preserved c =
    let list = c.args.self.now.list.now in
    let k = c.loop-k.k in
    let p = is_at list 0 in
    elim c.if-level-eq0.branch [
      | then-level-eq0+in_ok-add w ↦
          rw w.row-is (w.in_ok-add.ensures ∙ ap (λ row. row ++ k ∷ []) c.loop-k.invariant ∙ sym (filter_range_yes p k (eq-eqb (level list k) 0 (omega (arith, w.if-level-eq0.true, c.level.ensures)))))
      | else-level-eq0 w ↦
          rw w.row-is (c.loop-k.invariant ∙ sym (filter_range_no p k (ne_eqb (level list k) 0 (λ e. omega (arith, e, w.if-level-eq0.false, c.level.ensures)))))
    ]
