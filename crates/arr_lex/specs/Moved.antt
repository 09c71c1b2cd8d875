-- Tokens at other places.
use Rattle.std.specs.Prelude.{ℕ, ◌+◌, List, map, Result, Ok, Err}
use Rattle.arr_lex.specs.declared.token.Token.{Token}

-- the token, so many bytes further on
abbrev pub moved_token : ℕ → Token → Token
moved_token distance token =
    record token { start = token.start + distance; end = token.end + distance }

-- the tokens, or the refused place, so many bytes further on
abbrev pub moved : ℕ → Result (List Token) ℕ → Result (List Token) ℕ
moved distance (Ok tokens) = Ok (map (moved_token distance) tokens)
moved distance (Err place) = Err (place + distance)
