use Rattle.std.proofs.lemmas.Result.{IfOk-weaker}
use Rattle.case_text.proofs.api.HexWriting.{both, lower_spells}
use Rattle.case_text.proofs.case.writing.write_case.Goals as goal

pub returns-clause-spells : goal.returns-clause-spells
returns-clause-spells c =
    IfOk-weaker c.lower_text.result _ _ (λ text h. lower_spells c.args.case.now text.items h.1 h.0.1 h.0.0)
    (both c.lower_text.result _ _ (both c.lower_text.result _ _ c.lower_text.ensures.text c.lower_text.ensures.hex) c.lower_text.ensures.fits)
