use Rattle.case_prove.proofs.ConvertedTexts.{converted_few}
use Rattle.case_prove.proofs.laws.converted_is_short.Goals as goal

pub returns : goal.returns
returns c version case written fit is = converted_few c.circuit_is_sound.ensures.few_outputs version case written fit is
