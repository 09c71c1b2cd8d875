-- Each height's layer is over the places of the one below
use Rattle.std.proofs.Common.{◌≡◌, ◌+◌, ◌∙◌, ◌++◌, ◌∷◌, [], None, ℕ, suc, map, reverse, ap, ap₂, sym, subst, arith, rules}
use Rattle.std.proofs.lemmas.List.{reverse-append}
use Rattle.std.proofs.lemmas.Result.{err_from_is_err_and}
use Rattle.circuit_core.specs.Faults.{first_below}
use Rattle.circuit_core.proofs.api.First.{first_below_none, first_below_more}
use Rattle.layer_compile.specs.Levels.{height_of}
use Rattle.layer_compile.specs.Rows.{row}
use Rattle.layer_compile.specs.Circuits.{layers_from, too_wide, padded, gate_above}
use Rattle.layer_compile.proofs.api.Refusals.{wide_cause, accepted}
use Rattle.layer_compile.proofs.plan.Plan.layers.Goals as goal

pub loop-height-init : goal.loop-height-init
loop-height-init c = record {
  below = c.requires.leaves;
  narrow = first_below_more (too_wide c.args.limits.now c.args.self.now.list.now) 0 (first_below_none (too_wide c.args.limits.now c.args.self.now.list.now)) c.requires.narrow;
  made = c.new-layers.ensures.items;
}

pub loop-height-preserved : goal.loop-height-preserved
loop-height-preserved c =
    let list = c.args.self.now.list.now in
    let limits = c.args.limits.now in
    let h = c.loop-height.height in
    let next : h + 1 ≡ suc h = omega arith in
    let gates = map (gate_above list h) in
    let layer = c.in_ok-layer.ensures (gates c.in_ok-above.above.nodes.items) c.in_ok-above.ensures.gates ∙ ap (λ nodes. padded (gates nodes)) c.in_ok-above.ensures.nodes in
    record {
      below = c.in_ok-above.ensures.nodes ∙ ap (row list) (sym next);
      narrow = first_below_more (too_wide limits list) (h + 1) c.loop-height.invariant.narrow c.in_ok-fits.ensures.fits;
      made =
          c.in_ok-add.ensures
          ∙ ap₂ (λ layers layer. layers ++ layer ∷ []) c.loop-height.invariant.made layer
          ∙ sym (reverse-append (padded (map (gate_above list h) (row list (suc h))) ∷ []) (layers_from list h))
          ∙ ap (λ (i : ℕ). reverse (layers_from list i)) (sym next);
    }

pub returns-in_err-fits-clause-refused : goal.returns-in_err-fits-clause-refused
returns-in_err-fits-clause-refused c =
    let p = err_from_is_err_and c.from_residual-in_err-fits.result c.from_residual-in_err-fits.ensures.1 in
    rw (p.1, p.2) (wide_cause c.args.limits.now c.args.self.now.list.now (c.loop-height.height + 1) c.in_err-fits.field-0.0 c.requires.low (omega (arith, c.loop-height-test.true)) c.loop-height.invariant.narrow c.in_err-fits.ensures.wide)

pub returns-clause-accepted : goal.returns-clause-accepted
returns-clause-accepted c =
    let list = c.args.self.now.list.now in
    let limits = c.args.limits.now in
    let all : c.loop-height.height ≡ height_of list = omega (arith, c.loop-height-test.false, c.loop-height.auto.height-end, c.args.self.now.topmost) in
    accepted limits list c.requires.low (subst (λ h. first_below (h + 1) (too_wide limits list) ≡ None) all c.loop-height.invariant.narrow)

pub same-layer : goal.same-layer
same-layer g c = search rules

pub write_places-requires-clause-few : goal.write_places-requires-clause-few
write_places-requires-clause-few g = search rules

pub write_places-requires-clause-under : goal.write_places-requires-clause-under
write_places-requires-clause-under g = search rules

pub next_row-requires-clause-fine : goal.next_row-requires-clause-fine
next_row-requires-clause-fine g = search rules

pub next_row-requires-clause-places : goal.next_row-requires-clause-places
next_row-requires-clause-places g = search rules

pub next_row-requires-clause-under : goal.next_row-requires-clause-under
next_row-requires-clause-under g = search rules

pub returns-in_err-above-clause-made : goal.returns-in_err-above-clause-made
returns-in_err-above-clause-made g = search rules

pub returns-in_err-above-clause-accepted : goal.returns-in_err-above-clause-accepted
returns-in_err-above-clause-accepted g = search rules

pub returns-in_err-above-clause-refused : goal.returns-in_err-above-clause-refused
returns-in_err-above-clause-refused g = search rules

pub overflow_add-height : goal.overflow_add-height
overflow_add-height g = search rules

pub returns-in_err-fits-clause-made : goal.returns-in_err-fits-clause-made
returns-in_err-fits-clause-made g = search rules

pub returns-in_err-fits-clause-accepted : goal.returns-in_err-fits-clause-accepted
returns-in_err-fits-clause-accepted g = search rules

pub returns-in_err-layer-clause-made : goal.returns-in_err-layer-clause-made
returns-in_err-layer-clause-made g = search rules

pub returns-in_err-layer-clause-accepted : goal.returns-in_err-layer-clause-accepted
returns-in_err-layer-clause-accepted g = search rules

pub returns-in_err-layer-clause-refused : goal.returns-in_err-layer-clause-refused
returns-in_err-layer-clause-refused g = search rules

pub returns-in_default-clause-made : goal.returns-in_default-clause-made
returns-in_default-clause-made g = search rules

pub returns-in_default-clause-accepted : goal.returns-in_default-clause-accepted
returns-in_default-clause-accepted g = search rules

pub returns-in_default-clause-refused : goal.returns-in_default-clause-refused
returns-in_default-clause-refused g = search rules

pub returns-in_err-add-clause-made : goal.returns-in_err-add-clause-made
returns-in_err-add-clause-made g = search rules

pub returns-in_err-add-clause-accepted : goal.returns-in_err-add-clause-accepted
returns-in_err-add-clause-accepted g = search rules

pub returns-in_err-add-clause-refused : goal.returns-in_err-add-clause-refused
returns-in_err-add-clause-refused g = search rules

pub returns-clause-refused : goal.returns-clause-refused
returns-clause-refused g = search rules
