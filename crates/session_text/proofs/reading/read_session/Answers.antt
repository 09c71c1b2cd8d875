use Rattle.case_text.proofs.api.Readings.{answers_found, answers_only}
use Rattle.session_text.specs.Sessions.{session_at}
use Rattle.session_text.proofs.SessionTexts.{SessionText, session_exact}
use Rattle.session_text.proofs.reading.read_session.Goals as goal

pub returns-clause-found : goal.returns-clause-found
returns-clause-found c = answers_found SessionText session_at session_exact c.args.bytes.now c.placed.result c.placed.ensures

pub returns-clause-only : goal.returns-clause-only
returns-clause-only c = answers_only SessionText session_at session_exact c.args.bytes.now c.placed.result c.placed.ensures
