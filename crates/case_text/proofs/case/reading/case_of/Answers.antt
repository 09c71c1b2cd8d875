use Rattle.std.proofs.Common.{◌≡◌, Ok, refl, ℕ}
use Rattle.std.specs.Option.{option_map}
use Rattle.std.specs.Global.{Vec}
use Rattle.field_ext.specs.Field.{F}
use Rattle.case_text.specs.Reading.{case_at}
use Rattle.case_text.proofs.api.Lines.{content, case_exact}
use Rattle.case_text.proofs.case.reading.case_of.Goals as goal

pub new-requires : goal.new-requires
unfolding case_at
new-requires c =
    let ys = option_map (λ (v : Vec F). v.items) c.in_ok-outputs.outputs in
    let proof = option_map (λ (v : Vec ℕ). v.items) c.in_ok-proof.proof in
    let all : case_at c.args.form c.args.bytes.now ≡ Ok (content c.in_ok-lang.lang c.in_ok-program.program.now c.in_ok-inputs.inputs.items ys proof, c.in_ok-rest-4.rest.now) = rw (c.in_ok-rest.ensures, c.in_ok-lang.ensures, c.in_ok-rest-2.ensures, c.in_ok-program.ensures, c.in_ok-rest-3.ensures, c.in_ok-inputs.ensures, c.in_ok-outputs.ensures, c.in_ok-proof.ensures, c.in_ok-rest-4.ensures) refl in
    rw c.in_ok-program-2.ensures.items ((case_exact c.args.form).found _ _ _ all).spells.fits
