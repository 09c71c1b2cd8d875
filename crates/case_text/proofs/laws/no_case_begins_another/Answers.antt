-- No text of a case begins another.
use Rattle.text_parts.proofs.api.Whole.{whole_alone}
use Rattle.case_text.specs.Reading.{case_at}
use Rattle.case_text.proofs.api.Lines.{case_exact}
use Rattle.case_text.proofs.api.Readings.{CaseText}
use Rattle.case_text.proofs.laws.no_case_begins_another.Goals as goal

pub returns : goal.returns
returns c = λ form. whole_alone (CaseText form) (case_at form) (case_exact form)
