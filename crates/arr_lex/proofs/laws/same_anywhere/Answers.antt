use Rattle.std.proofs.Common.{◌≡◌, ◌+◌, ap, ◌∙◌, arith}
use Rattle.arr_lex.specs.Lexing.{tokens_from}
use Rattle.arr_lex.proofs.Spaces.{tokens_from-moved}
use Rattle.arr_lex.proofs.laws.same_anywhere.Goals as goal

pub returns : goal.returns
returns c = λ distance text. let same : distance ≡ 0 + distance = omega arith in ap (λ at. tokens_from at 0 text) same ∙ tokens_from-moved distance 0 0 text
