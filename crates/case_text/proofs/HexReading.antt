-- What decoding all digits at once gives is what taking them one by one gives.
use Rattle.std.proofs.Common.{◌≡◌, ℕ, zero, suc, ◌+◌, ◌-◌, ◌*◌, ◌<◌, ◌≤◌, ◌⊎◌, inl, inr, Bool, true, false, ◌||◌, List, [], ◌∷◌, ◌++◌, length, take, drop, Option, Some, None, is_some, Result, Ok, Err, refl, sym, ◌∙◌, arith, if◌then◌else◌}
use Rattle.std.proofs.lemmas.List.{take-append-drop, length-take-le}
use Rattle.std.specs.Char.{is_ascii_hexdigit}
use Rattle.hex.specs.Hex.{hex_digit_value, decode_of, decode_pairs}
use Rattle.hex.proofs.HexLemmas.{decode_of-even}
use Rattle.hex.specs.Hex as decoded
use Rattle.hex.specs.declared.error.FromHexError.{FromHexError}
use Rattle.hex.specs.declared.error.FromHexError.TheVariants.{InvalidHexCharacter, OddLength, InvalidStringLength, OutOfMemory}
use Rattle.text_parts.specs.declared.due.DueKind.TheVariants.{Hex}
use Rattle.text_parts.specs.Parts.{Fails, Taking, ◌>>=◌, each_at, stopped}
use Rattle.case_text.specs.Reading.{hex_stop}
use Rattle.case_text.specs.Due.{digits_stop, hex_byte_at, hex_digit_at}

one_of_three : (p q r : Bool) (x y z : ℕ) → is_some (if p then Some x else if q then Some y else if r then Some z else None) ≡ ((r || p) || q)
one_of_three true true true x y z = refl
one_of_three true true false x y z = refl
one_of_three true false true x y z = refl
one_of_three true false false x y z = refl
one_of_three false true true x y z = refl
one_of_three false true false x y z = refl
one_of_three false false true x y z = refl
one_of_three false false false x y z = refl

-- a byte is a hex digit where it has a value
is_digit : (b : ℕ) → is_ascii_hexdigit b ≡ is_some (hex_digit_value b)
is_digit b = sym (one_of_three _ _ _ (b - 55) (b - 87) (b - 48))

goes_past : (b v : ℕ) (bytes : List ℕ) → hex_digit_value b ≡ Some v → digits_stop (b ∷ bytes) ≡ digits_stop bytes
unfolding digits_stop
goes_past b v bytes e = rw (is_digit b, e) refl

stops_at : (b : ℕ) (bytes : List ℕ) → hex_digit_value b ≡ None → digits_stop (b ∷ bytes) ≡ stopped Hex (b ∷ bytes)
unfolding digits_stop
stops_at b bytes e = rw (is_digit b, e) refl

-- what is taken where all digits decode so
abbrev pub taken : Result (List ℕ) FromHexError → List ℕ → List ℕ → Taking (List ℕ)
taken (Ok values) rest bytes = Ok (values, rest)
taken (Err e) rest bytes = Err (digits_stop bytes)

-- one byte more, before what follows it
in_front : (v : ℕ) (found : Result (List ℕ) FromHexError) (rest bytes more : List ℕ) → digits_stop more ≡ digits_stop bytes →
    (taken found rest bytes >>= λ others. Ok (v ∷ others.0, others.1)) ≡ taken (decoded.◌>>=◌ found (λ others. Ok (v ∷ others))) rest more
in_front v (Ok values) rest bytes more e = refl
in_front v (Err refused) rest bytes more e = rw e refl

one_byte : (n i high low : ℕ) (digits rest : List ℕ) (h l : Option ℕ) → hex_digit_value high ≡ h → hex_digit_value low ≡ l →
    each_at hex_byte_at n (digits ++ rest) ≡ taken (decode_pairs (i + 2) digits) rest (digits ++ rest) →
    each_at hex_byte_at (suc n) (high ∷ low ∷ (digits ++ rest)) ≡ taken (decode_pairs i (high ∷ low ∷ digits)) rest (high ∷ low ∷ (digits ++ rest))
unfolding each_at hex_byte_at hex_digit_at decode_pairs
one_byte n i high low digits rest None l eh el others = rw (eh, stops_at high (low ∷ (digits ++ rest)) eh) refl
one_byte n i high low digits rest (Some h) None eh el others =
    rw (eh, el, goes_past high h (low ∷ (digits ++ rest)) eh, stops_at low (digits ++ rest) el) refl
one_byte n i high low digits rest (Some h) (Some l) eh el others =
    rw (eh, el, others) (in_front (h * 16 + l) (decode_pairs (i + 2) digits) rest (digits ++ rest) (high ∷ low ∷ (digits ++ rest))
    (goes_past high h (low ∷ (digits ++ rest)) eh ∙ goes_past low l (digits ++ rest) el))

pub at_once : (n i : ℕ) (digits rest : List ℕ) → length digits ≡ 2 * n → each_at hex_byte_at n (digits ++ rest) ≡ taken (decode_pairs i digits) rest (digits ++ rest)
unfolding each_at decode_pairs
at_once zero i [] rest e = refl
at_once zero i (high ∷ digits) rest e = absurd (omega (arith, e))
at_once (suc n) i [] rest e = absurd (omega (arith, e))
at_once (suc n) i (high ∷ []) rest e = absurd (omega (arith, e))
at_once (suc n) i (high ∷ low ∷ digits) rest e =
    one_byte n i high low digits rest (hex_digit_value high) (hex_digit_value low) refl refl (at_once n (i + 2) digits rest (omega (arith, e)))

-- with too few digits, the first byte that is none decides, or the end
one_short : (n high low : ℕ) (bytes : List ℕ) (h l : Option ℕ) → hex_digit_value high ≡ h → hex_digit_value low ≡ l →
    each_at hex_byte_at n bytes ≡ Err (digits_stop bytes) → each_at hex_byte_at (suc n) (high ∷ low ∷ bytes) ≡ Err (digits_stop (high ∷ low ∷ bytes))
unfolding each_at hex_byte_at hex_digit_at
one_short n high low bytes None l eh el others = rw (eh, stops_at high (low ∷ bytes) eh) refl
one_short n high low bytes (Some h) None eh el others = rw (eh, el, goes_past high h (low ∷ bytes) eh, stops_at low bytes el) refl
one_short n high low bytes (Some h) (Some l) eh el others =
    rw (eh, el, others, goes_past high h (low ∷ bytes) eh, goes_past low l bytes el) refl

one_left : (n high : ℕ) (h : Option ℕ) → hex_digit_value high ≡ h → each_at hex_byte_at (suc n) (high ∷ []) ≡ Err (digits_stop (high ∷ []))
unfolding each_at hex_byte_at hex_digit_at digits_stop
one_left n high None e = rw (e, is_digit high, e) refl
one_left n high (Some h) e = rw (e, is_digit high, e) refl

none_left : (n : ℕ) → each_at hex_byte_at (suc n) [] ≡ Err (digits_stop [])
unfolding each_at hex_byte_at hex_digit_at digits_stop
none_left n = refl

pub too_few : (n : ℕ) (bytes : List ℕ) → length bytes < 2 * n → each_at hex_byte_at n bytes ≡ Err (digits_stop bytes)
too_few zero bytes lt = absurd (omega (arith, lt))
too_few (suc n) [] lt = none_left n
too_few (suc n) (high ∷ []) lt = one_left n high (hex_digit_value high) refl
too_few (suc n) (high ∷ low ∷ bytes) lt =
    one_short n high low bytes (hex_digit_value high) (hex_digit_value low) refl refl (too_few n bytes (omega (arith, lt)))

-- digits that are as many as due
pub all_there : (n : ℕ) (bytes : List ℕ) → 2 * n ≤ length bytes →
    each_at hex_byte_at n bytes ≡ taken (decode_of (take (2 * n) bytes)) (drop (2 * n) bytes) bytes
all_there n bytes le =
    let same : take (2 * n) bytes ++ drop (2 * n) bytes ≡ bytes = take-append-drop (2 * n) bytes in
    let long : length (take (2 * n) bytes) ≡ 2 * n = length-take-le (2 * n) bytes le in
    let even : decode_of (take (2 * n) bytes) ≡ decode_pairs 0 (take (2 * n) bytes) = decode_of-even (take (2 * n) bytes) (omega (arith, long)) in
    rw (sym even, same) at (at_once n 0 (take (2 * n) bytes) (drop (2 * n) bytes) long)

one_is_none : (n : ℕ) (bytes : List ℕ) (e : FromHexError) → 2 * n ≤ length bytes → decode_of (take (2 * n) bytes) ≡ Err e →
    each_at hex_byte_at n bytes ≡ Err (digits_stop bytes)
one_is_none n bytes e le failed = rw failed at (all_there n bytes le)

-- digits that don't decode, where memory didn't run out
pub fails : (e : FromHexError) (n : ℕ) (bytes : List ℕ) → 2 * n ≤ length bytes → (e ≡ OutOfMemory) ⊎ (decode_of (take (2 * n) bytes) ≡ Err e) →
    Fails (hex_stop e bytes) (each_at hex_byte_at n bytes)
fails OutOfMemory n bytes le h = tt
fails (InvalidHexCharacter c i) n bytes le (inl e) = absurd cc
fails (InvalidHexCharacter c i) n bytes le (inr e) = one_is_none n bytes (InvalidHexCharacter c i) le e
fails OddLength n bytes le (inl e) = absurd cc
fails OddLength n bytes le (inr e) = one_is_none n bytes OddLength le e
fails InvalidStringLength n bytes le (inl e) = absurd cc
fails InvalidStringLength n bytes le (inr e) = one_is_none n bytes InvalidStringLength le e
