-- Where a case is refused.
use Rattle.case_text.specs.Reading.{case_at}
use Rattle.case_text.proofs.api.Lines.{case_exact}
use Rattle.case_text.proofs.api.Readings.{CaseText, refused_at}
use Rattle.case_text.proofs.laws.refusal_place.Goals as goal

pub returns : goal.returns
returns c = λ form. refused_at (CaseText form) (case_at form) (case_exact form)
