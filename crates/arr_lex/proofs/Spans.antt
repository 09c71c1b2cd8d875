-- The tokens of a text lie within it in order, with nothing but blanks around them.
use Rattle.std.proofs.Common.{◌≡◌, ℕ, zero, suc, ◌+◌, ◌-◌, ◌≤◌, ◌==◌, Bool, true, false, cond, ◌&&◌, ◌||◌, List, [], ◌∷◌, length, take, drop, Option, Some, None, Result, Ok, Err, refl, ap, sym, subst, ◌∙◌, arith}
use Rattle.std.specs.Prelude.{if◌then◌else◌}
use Rattle.std.specs.List.{take_while, prefix_len}
use Rattle.arr_lex.specs.declared.token.Symbol.{Symbol}
use Rattle.arr_lex.specs.declared.token.Symbol.TheVariants.{Range}
use Rattle.arr_lex.specs.declared.token.Token.{Token}
use Rattle.arr_lex.specs.Blank.{AreBlank}
use Rattle.arr_lex.specs.Byte.{is_blank, is_digit, is_letter, is_name_byte, sign_of}
use Rattle.arr_lex.specs.Lexing.{Taken, number_of, number_taken, numbered, single_taken, sign_taken, taken, with_prefix, token_first, tokens_from, word_taken}
use Rattle.arr_lex.specs.Spans.{IsNext, AreSpans}

-- ---- how many bytes are taken

abbrev Counts : ℕ → Taken → Type 0
Counts most found = (symbol : Symbol) (count : ℕ) → found ≡ Ok (symbol, count) → (1 ≤ count) × (count ≤ most)

shorter : (b : Bool) (x n : ℕ) (xs : List ℕ) → length (take n xs) ≤ length xs → length (take (cond b (1 + n) 0) (x ∷ xs)) ≤ length (x ∷ xs)
shorter true x n xs h =
    let same : 1 + n ≡ suc n = omega arith in
    let step : length (take (suc n) (x ∷ xs)) ≤ length (x ∷ xs) = omega (arith, h) in
    subst (λ m. length (take m (x ∷ xs)) ≤ length (x ∷ xs)) (sym same) step
shorter false x n xs h = omega arith

pub run-shorter : (p : ℕ → Bool) (xs : List ℕ) → length (take_while p xs) ≤ length xs
run-shorter p [] = omega arith
run-shorter p (x ∷ xs) = shorter (p x) x (prefix_len p xs) xs (run-shorter p xs)

-- a run whose first byte belongs to it has a byte or more
some-first : (b : Bool) (x n : ℕ) (xs : List ℕ) → b ≡ true → 1 ≤ length (take (cond b (1 + n) 0) (x ∷ xs))
some-first true x n xs is =
    let same : 1 + n ≡ suc n = omega arith in
    let step : 1 ≤ length (take (suc n) (x ∷ xs)) = omega arith in
    subst (λ m. 1 ≤ length (take m (x ∷ xs))) (sym same) step
some-first false x n xs is = cc

of-count : (most count : ℕ) (symbol : Symbol) → 1 ≤ count → count ≤ most → Counts most (Ok (symbol, count))
of-count most count symbol some h symbol' count' e =
    let same : ◌≡◌ {A = Symbol × ℕ} (symbol, count) (symbol', count') = cc in
    subst (λ (found : Symbol × ℕ). (1 ≤ found.1) × (found.1 ≤ most)) same (some, h)

of-number : (at most count : ℕ) (read : Result ℕ ℕ) → suc count ≤ most → Counts most (numbered at read count)
of-number at most count (Ok value) h = of-count most (suc count) _ (omega arith) h
of-number at most count (Err place) h = λ symbol found e. cc

of-single : (at most : ℕ) (sign : Option Symbol) → 1 ≤ most → Counts most (single_taken at sign)
of-single at most None h = λ symbol found e. cc
of-single at most (Some sign) h = of-count most 1 sign (omega arith) h

of-two : (b : Bool) (most : ℕ) (x y : Taken) → Counts most x → Counts most y → Counts most (if b then x else y)
of-two true most x y f g = f
of-two false most x y f g = g

of-sign : (at byte : ℕ) (bytes : List ℕ) → Counts (length (byte ∷ bytes)) (sign_taken at byte bytes)
of-sign at byte [] = of-single at _ (sign_of byte) (omega arith)
of-sign at byte (next ∷ bytes) =
    of-two ((byte == 46) && (next == 46)) _ _ _ (of-count _ 2 Range (omega arith) (omega arith)) (of-single at _ (sign_of byte) (omega arith))

name-first : (letter digit : Bool) → letter ≡ true → (letter || digit) ≡ true
name-first true digit is = refl
name-first false digit is = cc

of-word : (b : Bool) (byte : ℕ) (bytes : List ℕ) (other : Taken) → is_letter byte ≡ b → Counts (length (byte ∷ bytes)) other →
    Counts (length (byte ∷ bytes)) (if b then word_taken (take_while is_name_byte (byte ∷ bytes)) else other)
of-word true byte bytes other is h =
    of-count _ _ _ (some-first (is_name_byte byte) byte (prefix_len is_name_byte bytes) bytes (name-first (is_letter byte) (is_digit byte) is))
    (run-shorter is_name_byte (byte ∷ bytes))
of-word false byte bytes other is h = h

of-taken : (at byte : ℕ) (bytes : List ℕ) → Counts (length (byte ∷ bytes)) (taken at (byte ∷ bytes))
of-taken at byte bytes =
    let digits : length (take_while is_digit bytes) ≤ length bytes = run-shorter is_digit bytes in
    of-word (is_letter byte) byte bytes (if is_digit byte then number_taken at byte (take_while is_digit bytes) else sign_taken at byte bytes) refl
    (of-two (is_digit byte) _ _ _ (of-number at _ (length (take_while is_digit bytes)) (number_of (byte - 48) (take_while is_digit bytes)) (omega (arith, digits)))
    (of-sign at byte bytes))

-- ---- where tokens lie

-- a blank before
next-later : (at byte : ℕ) (bytes : List ℕ) (token : Token) → is_blank byte ≡ true → IsNext (at + 1) bytes token → IsNext at (byte ∷ bytes) token
next-later at byte bytes token blank next =
    let begins = next.begins in
    let ends = next.ends in
    let more : suc (token.start - (at + 1)) ≡ token.start - at = omega (arith, begins) in
    record {
      begins = omega (arith, begins);
      blanks = subst (λ n. AreBlank (take n (byte ∷ bytes))) more (blank, next.blanks);
      longest = subst (λ n. taken token.start (drop n (byte ∷ bytes)) ≡ Ok (token.symbol, token.end - token.start)) more next.longest;
      some = next.some;
      ends = omega (arith, ends);
    }

spans-later : (at byte : ℕ) (bytes : List ℕ) (tokens : List Token) → is_blank byte ≡ true → AreSpans (at + 1) bytes tokens → AreSpans at (byte ∷ bytes) tokens
spans-later at byte bytes [] blank spans = (blank, spans)
spans-later at byte bytes (token ∷ tokens) blank (next, rest) =
    let begins = next.begins in
    let some = next.some in
    let more : suc (token.end - (at + 1)) ≡ token.end - at = omega (arith, begins, some) in
    (next-later at byte bytes token blank next, subst (λ n. AreSpans token.end (drop n (byte ∷ bytes)) tokens) more rest)

-- the tokens after the first, where all are there
pub front_ok : (front : Token) (read : Result (List Token) ℕ) (tokens : List Token) → with_prefix (front ∷ []) read ≡ Ok tokens → (rest : List Token) × (read ≡ Ok rest) × (tokens ≡ front ∷ rest)
front_ok front (Ok rest) tokens e = (rest, refl, cc)
front_ok front (Err place) tokens e = cc

-- what holds of the tokens from each place after a byte
abbrev Goes : ℕ → List ℕ → Type 0
Goes at bytes = (inside : ℕ) (tokens : List Token) → inside ≤ length bytes → tokens_from (at + 1) inside bytes ≡ Ok tokens → AreSpans (at + 1 + inside) (drop inside bytes) tokens

-- a token of so many bytes and one
token-first : (at byte count : ℕ) (bytes : List ℕ) (symbol : Symbol) (tokens : List Token) → Goes at bytes → suc count ≤ length (byte ∷ bytes) →
    taken at (byte ∷ bytes) ≡ Ok (symbol, suc count) → with_prefix (record { symbol = symbol; start = at; end = at + suc count } ∷ []) (tokens_from (at + 1) count bytes) ≡ Ok tokens →
    AreSpans at (byte ∷ bytes) tokens
token-first at byte count bytes symbol tokens goes within is f =
    let front : Token = record { symbol = symbol; start = at; end = at + suc count } in
    let rest = front_ok front (tokens_from (at + 1) count bytes) tokens f in
    let fits : count ≤ length bytes = omega (arith, within) in
    let none : 0 ≡ at - at = omega arith in
    let wide : suc count ≡ (at + suc count) - at = omega arith in
    let place : at + 1 + count ≡ at + suc count = omega arith in
    let next : IsNext at (byte ∷ bytes) front = record {
      begins = omega arith;
      blanks = subst (λ n. AreBlank (take n (byte ∷ bytes))) none tt;
      longest = subst (λ n. taken at (drop n (byte ∷ bytes)) ≡ Ok (symbol, (at + suc count) - at)) none (is ∙ ap (λ n. Ok (symbol, n)) wide);
      some = omega arith;
      ends = omega (arith, within);
    } in
    let behind : AreSpans (at + suc count) (drop count bytes) rest.0 = subst (λ n. AreSpans n (drop count bytes) rest.0) place (goes count rest.0 fits rest.1) in
    subst (AreSpans at (byte ∷ bytes)) (sym rest.2) (next, subst (λ n. AreSpans (at + suc count) (drop n (byte ∷ bytes)) rest.0) wide behind)

token-of : (at byte count : ℕ) (bytes : List ℕ) (symbol : Symbol) (tokens : List Token) → Goes at bytes → (1 ≤ count) × (count ≤ length (byte ∷ bytes)) →
    taken at (byte ∷ bytes) ≡ Ok (symbol, count) → with_prefix (record { symbol = symbol; start = at; end = at + count } ∷ []) (tokens_from (at + 1) (count - 1) bytes) ≡ Ok tokens →
    AreSpans at (byte ∷ bytes) tokens
token-of at byte zero bytes symbol tokens goes (some, within) is f = absurd (omega (arith, some))
token-of at byte (suc count) bytes symbol tokens goes (some, within) is f =
    let less : suc count - 1 ≡ count = omega arith in
    token-first at byte count bytes symbol tokens goes within is
    (subst (λ n. with_prefix (record { symbol = symbol; start = at; end = at + suc count } ∷ []) (tokens_from (at + 1) n bytes) ≡ Ok tokens) less f)

token-there : (at byte : ℕ) (bytes : List ℕ) (tokens : List Token) → Goes at bytes → (t : Taken) → taken at (byte ∷ bytes) ≡ t →
    token_first at t (λ inside. tokens_from (at + 1) inside bytes) ≡ Ok tokens → AreSpans at (byte ∷ bytes) tokens
token-there at byte bytes tokens goes (Err place) is f = cc
token-there at byte bytes tokens goes (Ok (symbol, count)) is f = token-of at byte count bytes symbol tokens goes (of-taken at byte bytes symbol count is) is f

at-byte : (b : Bool) (at byte : ℕ) (bytes : List ℕ) (tokens : List Token) → is_blank byte ≡ b → Goes at bytes →
    (if b then tokens_from (at + 1) 0 bytes else token_first at (taken at (byte ∷ bytes)) (λ inside. tokens_from (at + 1) inside bytes)) ≡ Ok tokens → AreSpans at (byte ∷ bytes) tokens
at-byte true at byte bytes tokens is goes f =
    let none : at + 1 + 0 ≡ at + 1 = omega arith in
    spans-later at byte bytes tokens is (subst (λ n. AreSpans n bytes tokens) none (goes 0 tokens (omega arith) f))
at-byte false at byte bytes tokens is goes f = token-there at byte bytes tokens goes (taken at (byte ∷ bytes)) refl f

spans-from : (bytes : List ℕ) (at inside : ℕ) (tokens : List Token) → inside ≤ length bytes → tokens_from at inside bytes ≡ Ok tokens → AreSpans (at + inside) (drop inside bytes) tokens
spans-from [] at zero tokens within found = let none : [] ≡ tokens = cc in subst (AreSpans (at + 0) []) none tt
spans-from [] at (suc inside) tokens within found = absurd (omega (arith, within))
spans-from (byte ∷ bytes) at (suc inside) tokens within found =
    let same : at + 1 + inside ≡ at + suc inside = omega arith in
    subst (λ n. AreSpans n (drop inside bytes) tokens) same (spans-from bytes (at + 1) inside tokens (omega (arith, within)) found)
spans-from (byte ∷ bytes) at zero tokens within found =
    let none : at ≡ at + 0 = omega arith in
    subst (λ n. AreSpans n (byte ∷ bytes) tokens) none
    (at-byte (is_blank byte) at byte bytes tokens refl (λ inside tokens fits f. spans-from bytes (at + 1) inside tokens fits f) found)

pub spans : (text : List ℕ) (tokens : List Token) → tokens_from 0 0 text ≡ Ok tokens → AreSpans 0 text tokens
spans text tokens found = spans-from text 0 0 tokens (omega arith) found
