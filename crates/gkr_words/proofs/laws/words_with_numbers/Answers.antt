use Rattle.gkr_words.proofs.WordLaws.{demo_by, demo_of_number, prove_by}
use Rattle.gkr_words.proofs.laws.words_with_numbers.Goals as goal

pub returns : goal.returns
returns c = record { prove = prove_by; demo = demo_of_number; demo_by = demo_by }
