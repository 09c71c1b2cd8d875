use Rattle.case_text.specs.Reading.{case_at}
use Rattle.case_text.proofs.api.Lines.{case_exact}
use Rattle.case_text.proofs.api.Readings.{CaseText, answers_found, answers_only}
use Rattle.case_text.proofs.case.reading.read_case.Goals as goal

pub returns-clause-found : goal.returns-clause-found
returns-clause-found c = answers_found (CaseText c.args.form) (case_at c.args.form) (case_exact c.args.form) c.args.bytes.now c.placed.result c.placed.ensures

pub returns-clause-only : goal.returns-clause-only
returns-clause-only c = answers_only (CaseText c.args.form) (case_at c.args.form) (case_exact c.args.form) c.args.bytes.now c.placed.result c.placed.ensures
