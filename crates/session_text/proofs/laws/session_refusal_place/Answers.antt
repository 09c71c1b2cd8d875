-- Where a session is refused.
use Rattle.case_text.proofs.api.Readings.{refused_at}
use Rattle.session_text.specs.Sessions.{session_at}
use Rattle.session_text.proofs.SessionTexts.{SessionText, session_exact}
use Rattle.session_text.proofs.laws.session_refusal_place.Goals as goal

pub returns : goal.returns
returns c = refused_at SessionText session_at session_exact
