-- An output is marked where it is passed
use Rattle.std.proofs.Common.{◌≡◌, ◌≢◌, ◌<◌, Bool, true, false, ◌||◌, eqb, cond, length, get_or, set, refl, sym, ap, ◌∙◌, inl, inr, arith, get_or-set_same, get_or-set_other}
use Rattle.std.proofs.lemmas.Bool.{or_right, cond-true}
use Rattle.std.proofs.lemmas.Bool.Decides.{eqb_tells}
use Rattle.std.proofs.lemmas.List.Folds.{list_any_more}
use Rattle.layer_compile.proofs.uses.mark_outputs.Goals as goal

or_false : (a b : Bool) → b ≡ false → (a || b) ≡ a
or_false true b e = refl
or_false false b e = e

pub loop-output-preserved : goal.loop-output-preserved
loop-output-preserved c = λ k l.
    let i = c.loop-output.output-index in
    let outputs = c.args.outputs.now in
    let uses = c.loop-output.uses in
    let top = c.args.height in
    let output = get_or outputs i 0 in
    let more = list_any_more (λ output. eqb output k) outputs i 0 c.loop-output-test.true in
    let inside : output < length uses = omega (arith, c.requires i 0 c.loop-output-test.true, c.loop-output.auto.uses) in
    elim (eqb_tells output k) [
      | inl here ↦
          ap (λ j. get_or (set uses output top) j 0) (sym here.1) ∙ get_or-set_same uses output top 0 inside
          ∙ sym (cond-true _ _ _ (more ∙ or_right _ _ here.0))
      | inr other ↦
          let apart : k ≢ output = omega (arith, other.1) in
          get_or-set_other uses output k top 0 apart ∙ c.loop-output.invariant k l
          ∙ ap (λ b. cond b top (get_or c.args.uses.now k 0)) (sym (more ∙ or_false _ _ other.0))
    ]
