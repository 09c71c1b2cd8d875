use Rattle.std.proofs.Common.{◌≡◌, ◌+◌, length, ap, ◌∙◌, arith}
use Rattle.arr_lex.specs.Lexing.{tokens_from, with_prefix}
use Rattle.arr_lex.proofs.Spaces.{tokens_from-moved, tokens_from-blank}
use Rattle.arr_lex.proofs.laws.white_space_moves.Goals as goal

pub returns : goal.returns
returns c = λ front blank back tokens e found.
    let same : 0 + length front + 1 ≡ 0 + (length front + 1) = omega arith in
    tokens_from-blank front 0 0 blank back tokens e (omega arith) found
    ∙ ap (with_prefix tokens) (ap (λ at. tokens_from at 0 back) same ∙ tokens_from-moved (length front + 1) 0 0 back)
