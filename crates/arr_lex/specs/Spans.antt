-- Where the tokens of a text lie.
use Rattle.std.specs.Prelude.{◌≡◌, ℕ, ◌+◌, ◌-◌, ◌≤◌, ◌<◌, List, [], ◌∷◌, length, take, drop, Ok}
use Rattle.arr_lex.specs.Blank.{AreBlank}
use Rattle.arr_lex.specs.Lexing.{taken}
use Rattle.arr_lex.specs.declared.token.Token.{Token}

-- From a place on there is nothing but blanks up to the token, which is the longest that the bytes from its start begin
-- with, and ends within them.
pub record IsNext (at : ℕ) (bytes : List ℕ) (token : Token) : Type 0 where
  pub begins : at ≤ token.start
  pub blanks : AreBlank (take (token.start - at) bytes)
  pub longest : taken token.start (drop (token.start - at) bytes)
      ≡ Ok (token.symbol, token.end - token.start)
  pub some : token.start < token.end
  pub ends : token.end ≤ at + length bytes

-- The bytes from a place on are these tokens in order, and blanks around them.
abbrev pub AreSpans : ℕ → List ℕ → List Token → Type 0
AreSpans at bytes [] = AreBlank bytes
AreSpans at bytes (token ∷ tokens) =
    IsNext at bytes token × AreSpans token.end (drop (token.end - at) bytes) tokens
