use Rattle.gkr_words.proofs.Numbers.{number_found, number_taken}
use Rattle.gkr_words.proofs.laws.number_by_decimal.Goals as goal

pub returns : goal.returns
returns c = λ word n. (number_found word n, λ both. number_taken word n both.0 both.1)
