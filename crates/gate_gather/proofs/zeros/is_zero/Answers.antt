-- One value more
use Rattle.std.proofs.Common.{◌≡◌, ◌↔◌, ℕ, ◌+◌, ◌<◌, length, ◌∙◌, ap, arith, rules, subst}
use Rattle.std.proofs.lemmas.List.{get_or_read}
use Rattle.field_ext.specs.Field.{zero_k}
use Rattle.gate_gather.specs.Scaling.{AreZeros}
use Rattle.gate_gather.proofs.ZeroPrefix.{zeros_more}
use Rattle.gate_gather.proofs.zeros.is_zero.Goals as goal

pub loop-i-init : goal.loop-i-init
loop-i-init c = (λ none x u v. absurd (omega (arith, u, v)), λ all. omega arith)

pub loop-i-preserved : goal.loop-i-preserved
loop-i-preserved c =
    let place = c.args.from + c.loop-i.i in
    let within : c.args.from + c.loop-i.i < length c.args.table.now = omega arith in
    zeros_more c.args.table.now c.args.from c.loop-i.i c.loop-i.most c.value.result c.value-in-loop-i.result c.max-most.result c.index-table-from.result (omega arith)
    (c.value.ensures ∙ ap (λ x. x.value) c.re.ensures) (c.value-in-loop-i.ensures ∙ ap (λ x. x.value) c.im.ensures)
    (get_or_read c.args.table.now place c.index-table-from.result within c.index-table-from.is zero_k) c.loop-i.invariant

pub returns : goal.returns
returns c =
    let end : c.loop-i.i ≡ c.args.count = omega arith in
    let found = subst (λ (n : ℕ). (c.loop-i.most ≡ 0) ↔ AreZeros c.args.table.now c.args.from n) end c.loop-i.invariant in
    (λ is. found.0 (search (is, rules)), λ all. search (found.1 all, rules))
