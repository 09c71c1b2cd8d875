use Rattle.std.proofs.Common.{◌≡◌, ◌++◌, sym, ◌∙◌, ap}
use Rattle.std.specs.List.{flat_map}
use Rattle.field_ext.specs.Bytes.{bytes_of}
use Rattle.proof_wire.proofs.api.Troubles.{stays_memory}
use Rattle.proof_two.specs.Spelling.{magic_two, spelling_two}
use Rattle.proof_two.proofs.api.Apart.{one_reading}
use Rattle.proof_two.proofs.Troubles.{only_memory}
use Rattle.proof_two.proofs.decoding.decode_two.Goals as goal

pub returns-in_err-elements-clause-only : goal.returns-in_err-elements-clause-only
returns-in_err-elements-clause-only c = λ pairs a s.
    let e = c.in_err-elements.field-0.0 in
    stays_memory (λ read. read ≡ pairs) c.from_residual.result e (only_memory c.args.shape.now.ks pairs c.args.bytes.now e a s c.in_err-elements.ensures.exact) c.from_residual.ensures.1

pub returns-clause-only : goal.returns-clause-only
returns-clause-only c = λ pairs a s.
    let read = c.in_ok-cut.field-0 in
    let found : spelling_two read ≡ c.args.bytes.now =
    ap (λ xs. magic_two ++ flat_map bytes_of xs) (c.in_ok-cut.ensures.all ∙ c.deref.ensures.value) ∙ sym c.in_ok-elements.ensures.found in
    one_reading c.args.shape.now.ks read pairs c.in_ok-cut.ensures.of a (found ∙ s)
