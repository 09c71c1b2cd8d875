use Rattle.gkr_words.proofs.WordLaws.{no_word, no_words, other_words}
use Rattle.gkr_words.proofs.laws.other_words.Goals as goal

pub returns : goal.returns
returns c = record { none = no_words; own_name = no_word; other = other_words }
