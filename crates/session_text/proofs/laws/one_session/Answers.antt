-- Bytes spell at most one session.
use Rattle.text_parts.proofs.api.Whole.{whole_one}
use Rattle.session_text.specs.Sessions.{session_at}
use Rattle.session_text.proofs.SessionTexts.{SessionText, session_exact}
use Rattle.session_text.proofs.laws.one_session.Goals as goal

pub returns : goal.returns
returns c = whole_one SessionText session_at session_exact
