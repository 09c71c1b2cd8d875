-- One element more, or none
use Rattle.std.proofs.Common.{◌+◌, ◌-◌, ◌*◌, ◌<◌, ◌++◌, ◌∷◌, [], List, length, take, drop, sym, ◌∙◌, ap, arith, append-nil, append_assoc}
use Rattle.std.proofs.lemmas.List.{take_more_set}
use Rattle.field_ext.specs.Field.{K}
use Rattle.live_session.specs.Elements.{leading}
use Rattle.live_session.proofs.api.ElementSteps.{leading_some, leading_none}
use Rattle.live_session.proofs.intake.read_elements.Goals as goal

pub returns-in-None-clause-read : goal.returns-in-None-clause-read
returns-in-None-clause-read c =
    let n = length c.args.elements.now in
    let i = c.loop-i.i in
    sym (c.loop-i.invariant ∙ ap (λ (xs : List K). take i c.loop-i.elements ++ xs) (leading_none n i c.args.bytes.now (omega (arith, c.loop-i-test.true)) c.in-None.ensures) ∙ append-nil (take i c.loop-i.elements))

pub loop-i-preserved : goal.loop-i-preserved
loop-i-preserved c =
    let n = length c.args.elements.now in
    let i = c.loop-i.i in
    let xs : List K = c.loop-i.elements in
    let x : K = c.in-Some.element in
    let rest : List K = leading (n - (i + 1)) (drop (8 * (i + 1)) c.args.bytes.now) in
    let u : c.loop-i.i < length c.loop-i.elements = omega (arith, c.loop-i-test.true, c.loop-i.auto.elements) in
    c.loop-i.invariant
    ∙ ap (λ (ys : List K). take i xs ++ ys) (leading_some n i c.args.bytes.now (omega (arith, c.loop-i-test.true)) c.in-Some.ensures.0 ∙ ap (λ (y : K). y ∷ rest) (sym c.in-Some.ensures.1))
    ∙ sym (append_assoc (take i xs) (x ∷ []) rest)
    ∙ ap (λ (ys : List K). ys ++ rest) (sym (take_more_set xs i x u))
