-- White space between tokens changes no words: texts that differ in no more than such white space have one tree but for places.
use Rattle.std.proofs.Common.{◌≡◌, ℕ, suc, ◌+◌, ◌-◌, ◌≤◌, true, cond, List, [], ◌∷◌, ◌++◌, length, map, take, drop, Result, Ok, Err, refl, ap, ap₂, sym, subst, ◌∙◌, append_assoc, length-append, length-drop, arith}
use Rattle.std.proofs.lemmas.List.{take-append-le, drop-append-le, map-append}
use Rattle.arr_ast.specs.declared.lang.Lang.{Lang}
use Rattle.arr_ast.specs.ProgramTree.{ProgramTree}
use Rattle.arr_lex.specs.declared.token.Token.{Token}
use Rattle.arr_lex.specs.Blank.{AreBlank, IsWhiteSpace}
use Rattle.arr_lex.specs.Byte.{is_blank}
use Rattle.arr_lex.specs.Lexing.{taken, with_prefix, token_first, tokens_from}
use Rattle.arr_lex.specs.Moved.{moved_token, moved}
use Rattle.arr_lex.specs.Spans.{AreSpans}
use Rattle.arr_parse.specs.Mark.{part_of, word}
use Rattle.arr_parse.specs.Parsed.{IsTreeOf}
use Rattle.arr_parse.specs.Unplaced.{SameWords, unplaced}
use Rattle.arr_compile.specs.Programs.{IsRead}
use Rattle.arr_compile.proofs.OneReading.{one_list}

-- ---- tokens within a text

abbrev AllWithin : ℕ → List Token → Type 0
AllWithin most [] = Unit {0}
AllWithin most (token ∷ tokens) = (token.start ≤ token.end) × (token.end ≤ most) × AllWithin most tokens

spans-within : (at : ℕ) (bytes : List ℕ) (tokens : List Token) → AreSpans at bytes tokens → AllWithin (at + length bytes) tokens
spans-within at bytes [] spans = tt
spans-within at bytes (token ∷ tokens) (next, rest) =
    let begins = next.begins in
    let some = next.some in
    let ends = next.ends in
    let left : token.end + length (drop (token.end - at) bytes) ≡ at + length bytes = simp length-drop (omega (arith, begins, some, ends)) in
    let ordered : token.start ≤ token.end = omega (arith, some) in
    (ordered, ends, subst (λ most. AllWithin most tokens) left (spans-within token.end (drop (token.end - at) bytes) tokens rest))

-- ---- parts of a text of two

part-front : (front back : List ℕ) (start end : ℕ) → start ≤ end → end ≤ length front → part_of (front ++ back) start end ≡ part_of front start end
part-front front back start end h within =
    let begins : start ≤ length front = omega arith in
    let fits : end - start ≤ length (drop start front) = simp length-drop (omega arith) in
    ap (take (end - start)) (drop-append-le start front back begins) ∙ take-append-le (end - start) (drop start front) back fits

drop-back : (front back : List ℕ) (start : ℕ) → drop (start + length front) (front ++ back) ≡ drop start back
drop-back [] back start = let same : start + 0 ≡ start = omega arith in ap (λ n. drop n back) same
drop-back (byte ∷ front) back start =
    let same : start + length (byte ∷ front) ≡ suc (start + length front) = omega arith in
    ap (λ n. drop n (byte ∷ (front ++ back))) same ∙ drop-back front back start

part-back : (front back : List ℕ) (start end : ℕ) → part_of (front ++ back) (start + length front) (end + length front) ≡ part_of back start end
part-back front back start end =
    let same : (end + length front) - (start + length front) ≡ end - start = omega arith in
    ap₂ (λ n bytes. take n bytes) same (drop-back front back start)

words-front : (front back : List ℕ) (tokens : List Token) → AllWithin (length front) tokens → map (word (front ++ back)) tokens ≡ map (word front) tokens
words-front front back [] within = refl
words-front front back (token ∷ tokens) within = λ i.
    (token.symbol, part-front front back token.start token.end within.0 within.1 i) ∷ words-front front back tokens within.2 i

words-back : (front back : List ℕ) (tokens : List Token) → map (word (front ++ back)) (map (moved_token (length front)) tokens) ≡ map (word back) tokens
words-back front back [] = refl
words-back front back (token ∷ tokens) = λ i.
    (token.symbol, part-back front back token.start token.end i) ∷ words-back front back tokens i

-- ---- the tokens of a text with white space in it

abbrev SameAnywhere : Type 0
SameAnywhere = (distance : ℕ) (text : List ℕ) → tokens_from distance 0 text ≡ moved distance (tokens_from 0 0 text)

abbrev WhiteSpaceMoves : Type 0
WhiteSpaceMoves = (front : List ℕ) (blank : ℕ) (back : List ℕ) (tokens : List Token) → is_blank blank ≡ true → tokens_from 0 0 front ≡ Ok tokens →
    tokens_from 0 0 (front ++ blank ∷ back) ≡ with_prefix tokens (moved (length front + 1) (tokens_from 0 0 back))

abbrev Spans : Type 0
Spans = (text : List ℕ) (tokens : List Token) → tokens_from 0 0 text ≡ Ok tokens → AreSpans 0 text tokens

abbrev OneTreeOfWords : Type 0
OneTreeOfWords = (lang : Lang) (text other : List ℕ) (tokens others : List Token) (a b : ProgramTree) → SameWords text tokens other others →
    IsTreeOf lang text tokens a → IsTreeOf lang other others b → unplaced a ≡ unplaced b

blanks-passed : (blanks back : List ℕ) (at : ℕ) → AreBlank blanks → tokens_from at 0 (blanks ++ back) ≡ tokens_from (at + length blanks) 0 back
blanks-passed [] back at blank = let same : at ≡ at + 0 = omega arith in ap (λ a. tokens_from a 0 back) same
blanks-passed (byte ∷ bytes) back at blank =
    let same : at + 1 + length bytes ≡ at + length (byte ∷ bytes) = omega arith in
    ap (λ b. cond b (tokens_from (at + 1) 0 (bytes ++ back)) (token_first at (taken at (byte ∷ (bytes ++ back))) (λ inside. tokens_from (at + 1) inside (bytes ++ back)))) blank.0
    ∙ blanks-passed bytes back (at + 1) blank.1 ∙ ap (λ a. tokens_from a 0 back) same

tokens-between : SameAnywhere → WhiteSpaceMoves → (front blanks back : List ℕ) (tokens : List Token) → tokens_from 0 0 front ≡ Ok tokens → IsWhiteSpace blanks →
    tokens_from 0 0 (front ++ (blanks ++ back)) ≡ with_prefix tokens (moved (length (front ++ blanks)) (tokens_from 0 0 back))
tokens-between anywhere moves front [] back tokens found blank = absurd blank
tokens-between anywhere moves front (byte ∷ bytes) back tokens found blank =
    let same : length front + 1 + length bytes ≡ length (front ++ byte ∷ bytes) = simp length-append (omega arith) in
    moves front byte (bytes ++ back) tokens blank.0 found
    ∙ ap (with_prefix tokens)
    (sym (anywhere (length front + 1) (bytes ++ back)) ∙ blanks-passed bytes back (length front + 1) blank.1
    ∙ ap (λ at. tokens_from at 0 back) same ∙ anywhere (length (front ++ byte ∷ bytes)) back)

-- the tokens after it, where all are there
behind_ok : (distance : ℕ) (front : List Token) (read : Result (List Token) ℕ) (tokens : List Token) → with_prefix front (moved distance read) ≡ Ok tokens →
    (rest : List Token) × (read ≡ Ok rest) × (tokens ≡ front ++ map (moved_token distance) rest)
behind_ok distance front (Ok rest) tokens e = (rest, refl, cc)
behind_ok distance front (Err place) tokens e = cc

-- the words are those of the text before and of the text after it
record Words (front back text : List ℕ) (tokens all : List Token) : Type 0 where
  rest : List Token
  lexed : tokens_from 0 0 back ≡ Ok rest
  words : map (word text) all ≡ map (word front) tokens ++ map (word back) rest

words-between : Spans → SameAnywhere → WhiteSpaceMoves → (front blanks back : List ℕ) (tokens all : List Token) → tokens_from 0 0 front ≡ Ok tokens → IsWhiteSpace blanks →
    tokens_from 0 0 (front ++ (blanks ++ back)) ≡ Ok all → Words front back (front ++ (blanks ++ back)) tokens all
words-between spans anywhere moves front blanks back tokens all found blank whole =
    let distance = length (front ++ blanks) in
    let behind = behind_ok distance tokens (tokens_from 0 0 back) all (sym (tokens-between anywhere moves front blanks back tokens found blank) ∙ whole) in
    let none : 0 + length front ≡ length front = omega arith in
    let within : AllWithin (length front) tokens = subst (λ most. AllWithin most tokens) none (spans-within 0 front tokens (spans front tokens found)) in
    record {
      rest = behind.0;
      lexed = behind.1;
      words =
          ap (map (word (front ++ (blanks ++ back)))) behind.2
          ∙ map-append (word (front ++ (blanks ++ back))) tokens (map (moved_token distance) behind.0)
          ∙ ap₂ (λ before after. before ++ after) (words-front front (blanks ++ back) tokens within)
          (ap (λ text. map (word text) (map (moved_token distance) behind.0)) (sym (append_assoc front blanks back)) ∙ words-back (front ++ blanks) back behind.0);
    }

abbrev pub WhiteSpace : Type 0
WhiteSpace = (lang : Lang) (front back blanks others : List ℕ) (tokens : List Token) → tokens_from 0 0 front ≡ Ok tokens → IsWhiteSpace blanks → IsWhiteSpace others →
    (a b : ProgramTree) → IsRead lang (front ++ (blanks ++ back)) a → IsRead lang (front ++ (others ++ back)) b → unplaced a ≡ unplaced b

pub white_space : Spans → SameAnywhere → WhiteSpaceMoves → OneTreeOfWords → WhiteSpace
white_space spans anywhere moves one lang front back blanks others tokens found blank blank' a b read read' =
    let first = words-between spans anywhere moves front blanks back tokens read.tokens found blank read.lexed in
    let second = words-between spans anywhere moves front others back tokens read'.tokens found blank' read'.lexed in
    let same : first.rest ≡ second.rest = one_list (tokens_from 0 0 back) first.rest second.rest first.lexed second.lexed in
    one lang (front ++ (blanks ++ back)) (front ++ (others ++ back)) read.tokens read'.tokens a b
    (first.words ∙ ap (λ rest. map (word front) tokens ++ map (word back) rest) same ∙ sym second.words) read.tree_of read'.tree_of
