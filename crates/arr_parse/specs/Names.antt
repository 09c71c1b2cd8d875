-- The numbers of a program's names: a name's number is the place of the first token that is this name.
use Rattle.std.specs.Prelude.{◌≡◌, ℕ, ◌+◌, List, [], ◌∷◌, map}
use Rattle.arr_ast.specs.declared.lang.Lang.{Lang}
use Rattle.arr_lex.specs.declared.token.Symbol.{Symbol}
use Rattle.arr_lex.specs.declared.token.Symbol.TheVariants.{Name}
use Rattle.arr_lex.specs.declared.token.Token.{Token}
use Rattle.arr_parse.specs.Mark.{part_of, word, Source, number_at}

abbrev pub words : List ℕ → List Token → List (Symbol × List ℕ)
words text tokens = map (word text) tokens

-- a word with its place, if it is a name
abbrev pub named_at : ℕ → Symbol → List ℕ → List (List ℕ × ℕ) → List (List ℕ × ℕ)
named_at place Name bytes names = (bytes, place) ∷ names
named_at place symbol bytes names = names

-- the names among words with their places, counted from so many on
abbrev pub names_from : ℕ → List (Symbol × List ℕ) → List (List ℕ × ℕ)
names_from place [] = []
names_from place (word ∷ words) = named_at place word.0 word.1 (names_from (place + 1) words)

-- a text with its names, of which these are the tokens
abbrev pub source_of : Lang → List ℕ → List Token → Source
source_of lang text tokens =
    record { lang = lang; text = text; names = names_from 0 (words text tokens) }

-- two tokens that are names have one number exactly where they have the same bytes
pub record KnowsNames (lang : Lang) (text : List ℕ) (tokens : List Token) (a b : Token)
    : Type 0 where
  pub same : part_of text a.start a.end ≡ part_of text b.start b.end
      → number_at (source_of lang text tokens) a ≡ number_at (source_of lang text tokens) b
  pub apart : number_at (source_of lang text tokens) a ≡ number_at (source_of lang text tokens) b
      → part_of text a.start a.end ≡ part_of text b.start b.end
