use Rattle.std.proofs.Common.{sym, subst}
use Rattle.case_text.specs.Content.{Content, Fits}
use Rattle.case_text.specs.Spelling.{Spells, lower_case_text}
use Rattle.case_text.specs.declared.case.form.Form.TheVariants.{Full}
use Rattle.case_prove.proofs.ProvedText.{spells}
use Rattle.case_prove.proofs.laws.proved_is_full.Goals as goal

pub returns : goal.returns
returns c kind case proved fit is =
    subst (λ (p : Content). Spells Full (lower_case_text p) p) (sym is.proved_is)
    (spells kind case.lang case.program case.inputs is.outputs is.messages (subst Fits is.proved_is (c.proved_fits.ensures kind case proved fit is)))
