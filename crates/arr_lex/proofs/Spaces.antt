-- White space ends a token and changes no other: what was read before it stays, and what comes after it is read as at the text's beginning, further on.
use Rattle.std.proofs.Common.{◌≡◌, ℕ, zero, suc, ◌+◌, ◌-◌, ◌≤◌, ◌==◌, Bool, true, false, cond, ◌&&◌, ◌||◌, ◌⊎◌, inl, inr, List, [], ◌∷◌, ◌++◌, length, map, take, Option, Some, None, Result, Ok, Err, refl, ap, ap₂, sym, subst, ◌∙◌, arith}
use Rattle.std.specs.Prelude.{if◌then◌else◌}
use Rattle.std.specs.List.{take_while, prefix_len}
use Rattle.std.proofs.lemmas.Bool.{eqb-true}
use Rattle.arr_lex.specs.declared.token.Symbol.{Symbol}
use Rattle.arr_lex.specs.declared.token.Symbol.TheVariants.{Range}
use Rattle.arr_lex.specs.declared.token.Token.{Token}
use Rattle.arr_lex.specs.Byte.{is_blank, is_digit, is_letter, is_name_byte, sign_of}
use Rattle.arr_lex.specs.Lexing.{Taken, number_of, numbered, number_taken, word_taken, single_taken, sign_taken, taken, with_prefix, token_first, tokens_from}
use Rattle.arr_lex.specs.Moved.{moved_token, moved}
use Rattle.arr_lex.proofs.Passed.{with_prefix-append}
use Rattle.arr_lex.proofs.Spans.{run-shorter}
use Rattle.arr_lex.proofs.Spans.{front_ok}

-- ---- further on

abbrev moved_place : ℕ → Taken → Taken
moved_place distance (Ok found) = Ok found
moved_place distance (Err place) = Err (place + distance)

moved_if : (b : Bool) (distance : ℕ) (x y x' y' : Taken) → x' ≡ moved_place distance x → y' ≡ moved_place distance y → (if b then x' else y') ≡ moved_place distance (if b then x else y)
moved_if true distance x y x' y' e f = e
moved_if false distance x y x' y' e f = f

moved_number : (distance at : ℕ) (read : Result ℕ ℕ) (count : ℕ) → numbered (at + distance) read count ≡ moved_place distance (numbered at read count)
moved_number distance at (Ok value) count = refl
moved_number distance at (Err place) count = ap Err (omega arith)

moved_single : (distance at : ℕ) (sign : Option Symbol) → single_taken (at + distance) sign ≡ moved_place distance (single_taken at sign)
moved_single distance at None = refl
moved_single distance at (Some sign) = refl

moved_sign : (distance at byte : ℕ) (bytes : List ℕ) → sign_taken (at + distance) byte bytes ≡ moved_place distance (sign_taken at byte bytes)
moved_sign distance at byte [] = moved_single distance at (sign_of byte)
moved_sign distance at byte (next ∷ bytes) = moved_if ((byte == 46) && (next == 46)) distance _ _ _ _ refl (moved_single distance at (sign_of byte))

moved_taken : (distance at byte : ℕ) (bytes : List ℕ) → taken (at + distance) (byte ∷ bytes) ≡ moved_place distance (taken at (byte ∷ bytes))
moved_taken distance at byte bytes =
    moved_if (is_letter byte) distance _ _ _ _ refl
    (moved_if (is_digit byte) distance _ _ _ _ (moved_number distance at (number_of (byte - 48) (take_while is_digit bytes)) (length (take_while is_digit bytes))) (moved_sign distance at byte bytes))

moved_front : (distance at count : ℕ) (symbol : Symbol) (read : Result (List Token) ℕ) →
    with_prefix (record { symbol = symbol; start = at + distance; end = at + distance + count } ∷ []) (moved distance read) ≡ moved distance (with_prefix (record { symbol = symbol; start = at; end = at + count } ∷ []) read)
moved_front distance at count symbol (Ok tokens) =
    let same : at + distance + count ≡ at + count + distance = omega arith in
    ap (λ e. Ok (record { symbol = symbol; start = at + distance; end = e } ∷ map (moved_token distance) tokens)) same
moved_front distance at count symbol (Err place) = refl

moved_first : (distance at : ℕ) (found : Taken) (go_on go_on' : ℕ → Result (List Token) ℕ) → ((inside : ℕ) → go_on' inside ≡ moved distance (go_on inside)) →
    token_first (at + distance) (moved_place distance found) go_on' ≡ moved distance (token_first at found go_on)
moved_first distance at (Err place) go_on go_on' e = refl
moved_first distance at (Ok found) go_on go_on' e =
    ap (with_prefix (record { symbol = found.0; start = at + distance; end = at + distance + found.1 } ∷ [])) (e (found.1 - 1)) ∙ moved_front distance at found.1 found.0 (go_on (found.1 - 1))

moved_cond : (b : Bool) (distance : ℕ) (x y x' y' : Result (List Token) ℕ) → x' ≡ moved distance x → y' ≡ moved distance y → (if b then x' else y') ≡ moved distance (if b then x else y)
moved_cond true distance x y x' y' e f = e
moved_cond false distance x y x' y' e f = f

pub tokens_from-moved : (distance at inside : ℕ) (bytes : List ℕ) → tokens_from (at + distance) inside bytes ≡ moved distance (tokens_from at inside bytes)
tokens_from-moved distance at inside [] = refl
tokens_from-moved distance at (suc inside) (byte ∷ bytes) =
    let same : at + distance + 1 ≡ at + 1 + distance = omega arith in
    ap (λ a. tokens_from a inside bytes) same ∙ tokens_from-moved distance (at + 1) inside bytes
tokens_from-moved distance at zero (byte ∷ bytes) =
    let same : at + distance + 1 ≡ at + 1 + distance = omega arith in
    let behind : (inside : ℕ) → tokens_from (at + distance + 1) inside bytes ≡ moved distance (tokens_from (at + 1) inside bytes) =
    λ inside. ap (λ a. tokens_from a inside bytes) same ∙ tokens_from-moved distance (at + 1) inside bytes in
    moved_cond (is_blank byte) distance _ _ _ _ (behind 0)
    (ap (λ t. token_first (at + distance) t (λ inside. tokens_from (at + distance + 1) inside bytes)) (moved_taken distance at byte bytes)
    ∙ moved_first distance at (taken at (byte ∷ bytes)) (λ inside. tokens_from (at + 1) inside bytes) (λ inside. tokens_from (at + distance + 1) inside bytes) behind)

-- ---- a blank after

one_of : (a b : Bool) → (a || b) ≡ true → (a ≡ true) ⊎ (b ≡ true)
one_of true b e = inl refl
one_of false b e = inr e

-- what holds of the four blanks holds of each
each_blank : (P : ℕ → Type 0) → P 32 → P 9 → P 13 → P 10 → (blank : ℕ) → is_blank blank ≡ true → P blank
each_blank P space tab carriage feed blank e =
    elim (one_of ((blank == 32) || (blank == 9)) ((blank == 13) || (blank == 10)) e) [
      | inl f ↦ elim (one_of (blank == 32) (blank == 9) f) [ inl g ↦ subst P (sym (eqb-true blank 32 g)) space | inr g ↦ subst P (sym (eqb-true blank 9 g)) tab ]
      | inr f ↦ elim (one_of (blank == 13) (blank == 10) f) [ inl g ↦ subst P (sym (eqb-true blank 13 g)) carriage | inr g ↦ subst P (sym (eqb-true blank 10 g)) feed ]
    ]

run-cons_step : (b : Bool) (n x : ℕ) (xs : List ℕ) → take (cond b (1 + n) 0) (x ∷ xs) ≡ cond b (x ∷ take n xs) []
run-cons_step true n x xs = let same : 1 + n ≡ suc n = omega arith in ap (λ m. take m (x ∷ xs)) same
run-cons_step false n x xs = refl

run-cons : (p : ℕ → Bool) (x : ℕ) (xs : List ℕ) → take_while p (x ∷ xs) ≡ (if p x then x ∷ take_while p xs else [])
run-cons p x xs = run-cons_step (p x) (prefix_len p xs) x xs

run_step : (b : Bool) (x : ℕ) (xs ys : List ℕ) → xs ≡ ys → (if b then x ∷ xs else []) ≡ (if b then x ∷ ys else [])
run_step true x xs ys e = ap (λ l. x ∷ l) e
run_step false x xs ys e = refl

run-blank : (p : ℕ → Bool) (xs : List ℕ) (blank : ℕ) (back : List ℕ) → p blank ≡ false → take_while p (xs ++ blank ∷ back) ≡ take_while p xs
run-blank p [] blank back e = run-cons p blank back ∙ ap (λ b. cond b (blank ∷ take_while p back) []) e
run-blank p (x ∷ xs) blank back e = run-cons p x (xs ++ blank ∷ back) ∙ run_step (p x) x _ _ (run-blank p xs blank back e) ∙ sym (run-cons p x xs)

shorter : (b : Bool) (x : ℕ) (run xs : List ℕ) → length run ≤ length xs → length (cond b (x ∷ run) []) ≤ length (x ∷ xs)
shorter true x run xs h = omega arith
shorter false x run xs h = omega arith

no_range : (byte blank : ℕ) (r s : Taken) → (blank == 46) ≡ false → (if (byte == 46) && (blank == 46) then r else s) ≡ s
no_range byte blank r s e = by (byte == 46) (blank == 46) e
  where
    by : (a b : Bool) → b ≡ false → (if a && b then r else s) ≡ s
    by true b f = ap (λ c. if c then r else s) f
    by false b f = refl

sign-blank : (at byte : ℕ) (bytes : List ℕ) (blank : ℕ) (back : List ℕ) → is_blank blank ≡ true → sign_taken at byte (bytes ++ blank ∷ back) ≡ sign_taken at byte bytes
sign-blank at byte [] blank back e = no_range byte blank (Ok (Range, 2)) (single_taken at (sign_of byte)) (each_blank (λ b. (b == 46) ≡ false) refl refl refl refl blank e)
sign-blank at byte (next ∷ bytes) blank back e = refl

taken-blank : (at byte : ℕ) (bytes : List ℕ) (blank : ℕ) (back : List ℕ) → is_blank blank ≡ true → taken at (byte ∷ (bytes ++ blank ∷ back)) ≡ taken at (byte ∷ bytes)
taken-blank at byte bytes blank back e =
    ap₂ (λ word rest. if is_letter byte then word_taken word else rest) (run-blank is_name_byte (byte ∷ bytes) blank back (each_blank (λ b. is_name_byte b ≡ false) refl refl refl refl blank e))
    (ap₂ (λ digits sign. if is_digit byte then number_taken at byte digits else sign) (run-blank is_digit bytes blank back (each_blank (λ b. is_digit b ≡ false) refl refl refl refl blank e))
    (sign-blank at byte bytes blank back e))

-- a token is no longer than the text
abbrev IsWithin : ℕ → Taken → Type 0
IsWithin most found = (symbol : Symbol) (count : ℕ) → found ≡ Ok (symbol, count) → count ≤ most

within_if : (b : Bool) (most : ℕ) (x y : Taken) → IsWithin most x → IsWithin most y → IsWithin most (if b then x else y)
within_if true most x y f g = f
within_if false most x y f g = g

within_count : (most count : ℕ) (symbol : Symbol) → count ≤ most → IsWithin most (Ok (symbol, count))
within_count most count symbol h symbol' count' e =
    let same : ◌≡◌ {A = Symbol × ℕ} (symbol, count) (symbol', count') = cc in
    subst (λ (found : Symbol × ℕ). found.1 ≤ most) same h

within_number : (at most count : ℕ) (read : Result ℕ ℕ) → suc count ≤ most → IsWithin most (numbered at read count)
within_number at most count (Ok value) h = within_count most (suc count) _ h
within_number at most count (Err place) h = λ symbol found e. cc

within_single : (at most : ℕ) (sign : Option Symbol) → 1 ≤ most → IsWithin most (single_taken at sign)
within_single at most None h = λ symbol found e. cc
within_single at most (Some sign) h = within_count most 1 sign h

within_sign : (at byte : ℕ) (bytes : List ℕ) → IsWithin (length (byte ∷ bytes)) (sign_taken at byte bytes)
within_sign at byte [] = within_single at _ (sign_of byte) (omega arith)
within_sign at byte (next ∷ bytes) = within_if ((byte == 46) && (next == 46)) _ _ _ (within_count _ 2 Range (omega arith)) (within_single at _ (sign_of byte) (omega arith))

within_taken : (at byte : ℕ) (bytes : List ℕ) → IsWithin (length (byte ∷ bytes)) (taken at (byte ∷ bytes))
within_taken at byte bytes =
    let digits : length (take_while is_digit bytes) ≤ length bytes = run-shorter is_digit bytes in
    within_if (is_letter byte) _ _ _ (within_count _ _ _ (run-shorter is_name_byte (byte ∷ bytes)))
    (within_if (is_digit byte) _ _ _ (within_number at _ (length (take_while is_digit bytes)) (number_of (byte - 48) (take_while is_digit bytes)) (omega (arith, digits))) (within_sign at byte bytes))

with_prefix-none : (read : Result (List Token) ℕ) → with_prefix [] read ≡ read
with_prefix-none (Ok tokens) = refl
with_prefix-none (Err place) = refl

-- what the rest of the text gives after so many bytes, with white space and more after it
abbrev Goes : List ℕ → ℕ → ℕ → List ℕ → Type 0
Goes bytes at blank back = (inside : ℕ) (tokens : List Token) → inside ≤ length bytes → tokens_from (at + 1) inside bytes ≡ Ok tokens →
    tokens_from (at + 1) inside (bytes ++ blank ∷ back) ≡ with_prefix tokens (tokens_from (at + 1 + length bytes + 1) 0 back)

further : (byte : ℕ) (bytes : List ℕ) (at : ℕ) (back : List ℕ) (tokens : List Token) →
    with_prefix tokens (tokens_from (at + 1 + length bytes + 1) 0 back) ≡ with_prefix tokens (tokens_from (at + length (byte ∷ bytes) + 1) 0 back)
further byte bytes at back tokens = let same : at + 1 + length bytes + 1 ≡ at + length (byte ∷ bytes) + 1 = omega arith in ap (λ a. with_prefix tokens (tokens_from a 0 back)) same

after_token : (byte : ℕ) (bytes : List ℕ) (at blank : ℕ) (back : List ℕ) (tokens : List Token) → Goes bytes at blank back → (t : Taken) → taken at (byte ∷ bytes) ≡ t →
    token_first at t (λ inside. tokens_from (at + 1) inside bytes) ≡ Ok tokens →
    token_first at t (λ inside. tokens_from (at + 1) inside (bytes ++ blank ∷ back)) ≡ with_prefix tokens (tokens_from (at + length (byte ∷ bytes) + 1) 0 back)
after_token byte bytes at blank back tokens goes (Err place) is f = cc
after_token byte bytes at blank back tokens goes (Ok found) is f =
    let front : Token = record { symbol = found.0; start = at; end = at + found.1 } in
    let within : found.1 ≤ length (byte ∷ bytes) = within_taken at byte bytes found.0 found.1 is in
    let rest = front_ok front (tokens_from (at + 1) (found.1 - 1) bytes) tokens f in
    ap (with_prefix (front ∷ [])) (goes (found.1 - 1) rest.0 (omega (arith, within)) rest.1 ∙ further byte bytes at back rest.0)
    ∙ with_prefix-append (front ∷ []) rest.0 (tokens_from (at + length (byte ∷ bytes) + 1) 0 back)
    ∙ ap (λ all. with_prefix all (tokens_from (at + length (byte ∷ bytes) + 1) 0 back)) (sym rest.2)

at_token : (byte : ℕ) (bytes : List ℕ) (at blank : ℕ) (back : List ℕ) (tokens : List Token) → is_blank blank ≡ true → Goes bytes at blank back → (b : Bool) → is_blank byte ≡ b →
    (if b then tokens_from (at + 1) 0 bytes else token_first at (taken at (byte ∷ bytes)) (λ inside. tokens_from (at + 1) inside bytes)) ≡ Ok tokens →
    (if b then tokens_from (at + 1) 0 (bytes ++ blank ∷ back) else token_first at (taken at (byte ∷ (bytes ++ blank ∷ back))) (λ inside. tokens_from (at + 1) inside (bytes ++ blank ∷ back)))
    ≡ with_prefix tokens (tokens_from (at + length (byte ∷ bytes) + 1) 0 back)
at_token byte bytes at blank back tokens e goes true is f = goes 0 tokens (omega arith) f ∙ further byte bytes at back tokens
at_token byte bytes at blank back tokens e goes false is f =
    ap (λ t. token_first at t (λ inside. tokens_from (at + 1) inside (bytes ++ blank ∷ back))) (taken-blank at byte bytes blank back e)
    ∙ after_token byte bytes at blank back tokens goes (taken at (byte ∷ bytes)) refl f

pub tokens_from-blank : (front : List ℕ) (at inside blank : ℕ) (back : List ℕ) (tokens : List Token) → is_blank blank ≡ true → inside ≤ length front → tokens_from at inside front ≡ Ok tokens →
    tokens_from at inside (front ++ blank ∷ back) ≡ with_prefix tokens (tokens_from (at + length front + 1) 0 back)
tokens_from-blank [] at zero blank back tokens e h found =
    let none : [] ≡ tokens = cc in
    let same : at + 1 ≡ at + 0 + 1 = omega arith in
    ap (λ b. cond b (tokens_from (at + 1) 0 back) (token_first at (taken at (blank ∷ back)) (λ inside. tokens_from (at + 1) inside back))) e
    ∙ ap (λ a. tokens_from a 0 back) same ∙ sym (with_prefix-none (tokens_from (at + 0 + 1) 0 back)) ∙ ap (λ front. with_prefix front (tokens_from (at + 0 + 1) 0 back)) none
tokens_from-blank [] at (suc inside) blank back tokens e h found = absurd (omega (arith, h))
tokens_from-blank (byte ∷ bytes) at (suc inside) blank back tokens e h found =
    let same : at + 1 + length bytes + 1 ≡ at + length (byte ∷ bytes) + 1 = omega arith in
    tokens_from-blank bytes (at + 1) inside blank back tokens e (omega (arith, h)) found ∙ ap (λ a. with_prefix tokens (tokens_from a 0 back)) same
tokens_from-blank (byte ∷ bytes) at zero blank back tokens e h found =
    at_token byte bytes at blank back tokens e (λ inside tokens h f. tokens_from-blank bytes (at + 1) inside blank back tokens e h f) (is_blank byte) refl found
