use Rattle.gkr_words.proofs.WordLaws.{convert_to_none, convert_to_one, convert_to_other, convert_to_two, other_form, pair_by, prove_line, prove_pair, prove_short}
use Rattle.gkr_words.proofs.laws.words_with_forms.Goals as goal

pub returns : goal.returns
returns c = record { pair = prove_pair; line = prove_line; short = prove_short; other = other_form; to_one = convert_to_one; to_two = convert_to_two; to_other = convert_to_other; to_none = convert_to_none; pair_by = pair_by }
