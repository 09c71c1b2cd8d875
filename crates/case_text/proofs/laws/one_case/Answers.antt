-- Bytes spell at most one case.
use Rattle.text_parts.proofs.api.Whole.{whole_one}
use Rattle.case_text.specs.Reading.{case_at}
use Rattle.case_text.proofs.api.Lines.{case_exact}
use Rattle.case_text.proofs.api.Readings.{CaseText}
use Rattle.case_text.proofs.laws.one_case.Goals as goal

pub returns : goal.returns
returns c = λ form. whole_one (CaseText form) (case_at form) (case_exact form)
