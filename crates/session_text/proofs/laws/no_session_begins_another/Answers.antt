-- No text of a session begins another.
use Rattle.text_parts.proofs.api.Whole.{whole_alone}
use Rattle.session_text.specs.Sessions.{session_at}
use Rattle.session_text.proofs.SessionTexts.{SessionText, session_exact}
use Rattle.session_text.proofs.laws.no_session_begins_another.Goals as goal

pub returns : goal.returns
returns c = whole_alone SessionText session_at session_exact
