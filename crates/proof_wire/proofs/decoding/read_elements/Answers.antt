use Rattle.std.proofs.Common.{◌+◌, [], ◌∷◌, length, length-append, sym, ◌∙◌, ap, subst, refl}
use Rattle.proof_wire.specs.Trouble.{InRange, BeginWith, element_at}
use Rattle.proof_wire.proofs.api.Reading.{prefix_more}
use Rattle.proof_wire.proofs.decoding.read_elements.Goals as goal

pub loop-i-preserved : goal.loop-i-preserved
loop-i-preserved c =
    let bytes = c.args.bytes.now in
    let read = c.loop-i.elements.items in
    let element = c.in-Some.element in
    let many = c.loop-i.invariant.0 in
    let grown = c.in_ok-push-in-Some.ensures.items in (
      ap length grown ∙ length-append read (element ∷ []) ∙ ap (λ n. n + 1) many,
      subst (λ es. BeginWith c.args.form es bytes) (sym grown) (prefix_more c.args.form read element bytes (subst (InRange bytes) (sym many) (c.in-Some.ensures.some.0 refl)) (c.in-Some.ensures.value ∙ ap (element_at bytes) (sym many)) c.loop-i.invariant.1),
    )
