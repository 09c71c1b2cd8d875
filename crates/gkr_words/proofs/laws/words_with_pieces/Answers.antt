use Rattle.gkr_words.proofs.WordLaws.{session_alone, session_by, session_of_none, session_of_piece}
use Rattle.gkr_words.proofs.laws.words_with_pieces.Goals as goal

pub returns : goal.returns
returns c = record { piece = session_of_piece; piece_by = session_by; other = session_of_none; alone = session_alone }
