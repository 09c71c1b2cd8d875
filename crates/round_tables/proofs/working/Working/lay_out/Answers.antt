use Rattle.std.proofs.lemmas.Grind.{common_steps}
-- The values fill the parts
use Rattle.std.proofs.Common.{ℕ, ◌-◌, ◌*◌, ◌^◌, length, ◌∙◌, ap, ap₂, sym, rules, arith}
use Rattle.std.proofs.lemmas.List.{length-map}
use Rattle.field_ext.specs.Field.{embed_k}
use Rattle.round_tables.proofs.Advances.{whole-parts}
use Rattle.round_tables.proofs.working.Working.lay_out.Goals as goal

pub fill_parts-requires-clause-table : goal.fill_parts-requires-clause-table
fill_parts-requires-clause-table c =
    let k = c.args.layer.now.k in
    sym (length-map c.values.result.now embed_k) ∙ ap length (sym c.values.ensures) ∙ c.requires.layer.layer_is.size ∙ sym (whole-parts k)
    ∙ ap₂ (λ (a b : ℕ). a * b) (sym (ap length c.deref_mut.ensures.value ∙ c.requires.capacities.many)) (sym (c.power.ensures ∙ ap (λ (x : ℕ). 2 ^ (k - x)) c.cut_count.ensures.cuts))

pub fill_parts-requires-clause-scales : goal.fill_parts-requires-clause-scales
fill_parts-requires-clause-scales c =
    let k = c.args.layer.now.k in
    c.deref.ensures.len ∙ c.requires.capacities.scales ∙ sym (whole-parts k)
    ∙ ap₂ (λ (a b : ℕ). a * b) (sym (ap length c.deref_mut.ensures.value ∙ c.requires.capacities.many)) (sym (c.power.ensures ∙ ap (λ (x : ℕ). 2 ^ (k - x)) c.cut_count.ensures.cuts))

pub fill_parts-requires-clause-shifts : goal.fill_parts-requires-clause-shifts
fill_parts-requires-clause-shifts c =
    let k = c.args.layer.now.k in
    c.deref-2.ensures.len ∙ c.requires.capacities.shifts ∙ sym (whole-parts k)
    ∙ ap₂ (λ (a b : ℕ). a * b) (sym (ap length c.deref_mut.ensures.value ∙ c.requires.capacities.many)) (sym (c.power.ensures ∙ ap (λ (x : ℕ). 2 ^ (k - x)) c.cut_count.ensures.cuts))

pub overflow_sub-layer : goal.overflow_sub-layer
overflow_sub-layer g = search rules

pub power-requires : goal.power-requires
power-requires g = search rules

pub fill_parts-requires-clause-capacities : goal.fill_parts-requires-clause-capacities
fill_parts-requires-clause-capacities g c = search rules

pub returns-clause-capacities : goal.returns-clause-capacities
returns-clause-capacities g = grind (arith, common_steps)

pub returns-clause-challenges : goal.returns-clause-challenges
returns-clause-challenges g c = search rules

pub returns-clause-laid : goal.returns-clause-laid
returns-clause-laid g = grind (arith, common_steps)
