-- The parts of a text: each takes bytes from the beginning, or stops at the first that isn't due.
use Rattle.std.specs.Prelude.{◌≡◌, ℕ, zero, suc, ◌+◌, ◌-◌, ◌*◌, List, [], ◌∷◌, length, take, drop, Bool, false, Option, Some, None, Result, Ok, Err, nat_lt, nat_le, ◌==◌, ◌&&◌, if◌then◌else◌}
use Rattle.text_parts.specs.declared.due.DueKind.{DueKind}
use Rattle.text_parts.specs.declared.due.DueKind.TheVariants.{End, Number, Rest}
use Rattle.text_parts.specs.declared.rule.Rule.{Rule}
use Rattle.text_parts.specs.declared.stop.Stop.{Stop}
use Rattle.text_parts.specs.declared.stop.ReadError.{ReadError}
use Rattle.text_parts.specs.declared.stop.ReadError.TheVariants as errors
use Rattle.text_parts.specs.Bytes.{digit_zero, digit_nine}
use Rattle.text_parts.specs.Rules.{after}

-- a value and the bytes after it, or where taking stops
abbrev pub Taking : Type 0 → Type 0
Taking A = Result (A × List ℕ) Stop

infixl 10 ◌>>=◌
abbrev pub ◌>>=◌ : {A B : Type 0} → Taking A → (A × List ℕ → Taking B) → Taking B
(Ok x) >>= f = f x
(Err s) >>= f = Err s

abbrev pub stopped : DueKind → List ℕ → Stop
stopped kind rest = record { left = length rest; kind = kind }

-- a fixed word, byte for byte
unfoldable pub word_at : DueKind → List ℕ → List ℕ → Taking (Unit {0})
word_at kind [] bytes = Ok (tt, bytes)
word_at kind (x ∷ xs) [] = Err (stopped End [])
word_at kind (x ∷ xs) (b ∷ bytes) =
    if b == x then word_at kind xs bytes else Err (stopped kind (b ∷ bytes))

abbrev pub is_digit : ℕ → Bool
is_digit b = nat_le digit_zero b && nat_le b digit_nine

-- n with one digit more
abbrev pub with_digit : ℕ → ℕ → ℕ
with_digit n b = 10 * n + (b - digit_zero)

-- the digits after those of n, and the byte after them
unfoldable pub digits_at : Rule → ℕ → List ℕ → Taking ℕ
digits_at rule n [] = Err (stopped End [])
digits_at rule n (b ∷ bytes) =
    if b == after rule n then Ok (n, bytes)
    else if is_digit b && nat_lt 0 n then
    if nat_lt (with_digit n b) rule.limit then digits_at rule (with_digit n b) bytes
    else Err (stopped rule.over (b ∷ bytes))
    else Err (stopped Number (b ∷ bytes))

-- a decimal without a leading zero, and the byte after it
unfoldable pub decimal_at : Rule → List ℕ → Taking ℕ
decimal_at rule [] = Err (stopped End [])
decimal_at rule (b ∷ bytes) =
    if is_digit b then
    if nat_lt (b - digit_zero) rule.limit then digits_at rule (b - digit_zero) bytes
    else Err (stopped rule.over (b ∷ bytes))
    else Err (stopped Number (b ∷ bytes))

-- this many bytes of any value
unfoldable pub counted_bytes_at : ℕ → List ℕ → Taking (List ℕ)
counted_bytes_at n bytes = if nat_lt (length bytes) n then Err (stopped End [])
    else Ok (take n bytes, drop n bytes)

-- one part, and then the part that its value asks for
abbrev pub in_order : {A B : Type 0} → (List ℕ → Taking A) → (A → List ℕ → Taking B) → List ℕ
    → Taking B
in_order first second bytes = first bytes >>= λ x. second x.0 x.1

-- this value, without a byte
abbrev pub given_at : {A : Type 0} → A → List ℕ → Taking A
given_at a bytes = Ok (a, bytes)

-- this many items, each by the number of those that follow it
unfoldable pub each_at : {A : Type 0} → (ℕ → List ℕ → Taking A) → ℕ → List ℕ → Taking (List A)
each_at item zero bytes = Ok ([], bytes)
each_at item (suc following) bytes = do
  first ← item following bytes
  others ← each_at item following first.1
  Ok (first.0 ∷ others.0, others.1)

-- where two parts may follow, the first byte picks one
unfoldable pub choice_at : {A : Type 0} → ℕ → (List ℕ → Taking A) → (List ℕ → Taking A) → List ℕ
    → Taking A
choice_at byte this that [] = Err (stopped End [])
choice_at byte this that (b ∷ bytes) = if b == byte then this (b ∷ bytes) else that (b ∷ bytes)

-- a part that may not begin with this byte
unfoldable pub except_at : {A : Type 0} → ℕ → DueKind → (List ℕ → Taking A) → List ℕ → Taking A
except_at byte kind part [] = Err (stopped End [])
except_at byte kind part (b ∷ bytes) =
    if b == byte then Err (stopped kind (b ∷ bytes)) else part (b ∷ bytes)

abbrev pub there : {A : Type 0} → (List ℕ → Taking A) → List ℕ → Taking (Option A)
there part bytes = part bytes >>= λ x. Ok (Some x.0, x.1)

abbrev pub absent : {A : Type 0} → List ℕ → Taking (Option A)
absent bytes = Ok (None, bytes)

-- a part that may be absent: its first byte says that it is there
abbrev pub optional_at : {A : Type 0} → ℕ → (List ℕ → Taking A) → List ℕ → Taking (Option A)
optional_at byte part = choice_at byte (there part) absent

-- at most this many items, each of which begins with this byte, and then the last part
unfoldable pub listed_at : {A : Type 0} → ℕ → (List ℕ → Taking A) → (List ℕ → Taking (Unit {0}))
    → ℕ → List ℕ → Taking (List A)
listed_at byte item last zero bytes = in_order last (λ u. given_at []) bytes
listed_at byte item last (suc more) bytes =
    choice_at byte (in_order item
    (λ a. in_order (listed_at byte item last more) (λ others. given_at (a ∷ others))))
    (in_order last (λ u. given_at [])) bytes

-- whether such an item follows, where this many more may
abbrev pub follows : ℕ → ℕ → List ℕ → Result Bool Stop
follows byte zero bytes = Ok false
follows byte (suc more) [] = Err (stopped End [])
follows byte (suc more) (b ∷ bytes) = Ok (b == byte)

-- nothing follows
abbrev pub at_end : {A : Type 0} → Taking A → Result A Stop
at_end (Ok (a, [])) = Ok a
at_end (Ok (a, b ∷ bytes)) = Err (stopped Rest (b ∷ bytes))
at_end (Err s) = Err s

-- What a function returned, seen by view, is what taking gives, unless memory ran out.
abbrev pub Fails : {Y : Type 0} → ReadError → Result Y Stop → Type 0
Fails errors.Memory taking = Unit {0}
Fails (errors.Stopped s) taking = taking ≡ Err s

abbrev pub Gives : {X Y : Type 0} → (X → Y) → Result X ReadError → Result Y Stop → Type 0
Gives view (Ok x) taking = taking ≡ Ok (view x)
Gives view (Err e) taking = Fails e taking
