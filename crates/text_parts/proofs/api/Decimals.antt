-- A decimal takes exactly the digits of its number, and the byte after them.
use Rattle.std.proofs.Common.{◌≡◌, ℕ, ◌+◌, ◌-◌, ◌*◌, ◌/◌, ◌%◌, ◌^◌, ◌<◌, ◌≤◌, inl, inr, Bool, true, false, cond, eqb, eq-eqb, ltb, leb, ◌&&◌, List, [], ◌∷◌, ◌++◌, Ok, Err, refl, sym, ap, subst, ◌∙◌, append_assoc, arith, decimal}
use Rattle.std.proofs.lemmas.Bool.{eqb-true, ltb-true, lt-ltb, le-leb, leb-true, ne_eqb, and_parts, and_from, both_ways}
use Rattle.std.proofs.lemmas.Fmt.{decimal_digit, decimal_step, decimal_by_steps}
use Rattle.text_parts.specs.declared.due.DueKind.TheVariants.{End, Number}
use Rattle.text_parts.specs.declared.rule.Rule.{Rule}
use Rattle.text_parts.specs.declared.stop.Stop.{Stop}
use Rattle.text_parts.specs.Rules.{after}
use Rattle.text_parts.specs.Parts.{stopped, is_digit, digits_at, decimal_at}
use Rattle.text_parts.specs.Places.{Begins}
use Rattle.text_parts.specs.Exact.{IsDecimal, IsSound, StopsAt, IsExact}
use Rattle.text_parts.proofs.api.Compose.{ok_parts, stops_at_end, stops_now, stops_later, not_at_end}
use Rattle.text_parts.proofs.api.Leaves.{chosen}

pub closes : (c : Bool) (x y : ℕ) → is_digit x ≡ false → is_digit y ≡ false → is_digit (cond c x y) ≡ false
closes true x y h k = h
closes false x y h k = k

not_after : (rule : Rule) (n b : ℕ) → IsSound rule → is_digit b ≡ true → eqb b (after rule n) ≡ false
not_after rule n b sound digit = ne_eqb b (after rule n) (λ same.
    both_ways (is_digit (after rule n)) (closes (eqb n 0) rule.after_zero rule.after_other sound.zero_closes sound.other_closes) (subst (λ (c : ℕ). is_digit c ≡ true) same digit))

digit_is : (d : ℕ) → d < 10 → is_digit (48 + d) ≡ true
digit_is d lt = and_from (leb 48 (48 + d)) (leb (48 + d) 57) (le-leb _ _ (omega arith)) (le-leb _ _ (omega arith))

decimal_more : (n d : ℕ) → 0 < n → d < 10 → 10 * n + d < 2 ^ 64 → decimal (10 * n + d) ≡ decimal n ++ (48 + d) ∷ []
decimal_more n d pos lt fits =
    let q : (10 * n + d) / 10 ≡ n = omega arith in
    let r : (10 * n + d) % 10 ≡ d = omega arith in
    decimal_step (10 * n + d) (omega arith) fits ∙ rw (q, r) refl

-- ---- the number that is spelled is taken

digit_taken : (rule : Rule) (n d : ℕ) (tail : List ℕ) → IsSound rule → 0 < n → d < 10 → 10 * n + d < rule.limit → digits_at rule n ((48 + d) ∷ tail) ≡ digits_at rule (10 * n + d) tail
unfolding digits_at
digit_taken rule n d tail sound pos lt fits =
    let other = not_after rule n (48 + d) sound (digit_is d lt) in
    let digit : (is_digit (48 + d) && ltb 0 n) ≡ true = and_from _ _ (digit_is d lt) (lt-ltb _ _ pos) in
    let value : 48 + d - 48 ≡ d = omega arith in
    let small : ltb (10 * n + d) rule.limit ≡ true = lt-ltb _ _ fits in
    rw (other, digit, value, small) refl

first_taken : (rule : Rule) (d : ℕ) (tail : List ℕ) → d < 10 → d < rule.limit → decimal_at rule ((48 + d) ∷ tail) ≡ digits_at rule d tail
unfolding decimal_at
first_taken rule d tail lt fits =
    let digit = digit_is d lt in
    let value : 48 + d - 48 ≡ d = omega arith in
    let small : ltb d rule.limit ≡ true = lt-ltb _ _ fits in
    rw (digit, value, small) refl

all_taken : (rule : Rule) → IsSound rule → (n : ℕ) → n < 2 ^ 64 → n < rule.limit → (tail : List ℕ) → decimal_at rule (decimal n ++ tail) ≡ digits_at rule n tail
all_taken rule sound = decimal_by_steps
    (λ n ds. n < rule.limit → (tail : List ℕ) → decimal_at rule (ds ++ tail) ≡ digits_at rule n tail)
    (λ n lt fits tail. first_taken rule n tail lt fits)
    (λ n ds ge before fits tail.
    let whole : 10 * (n / 10) + n % 10 ≡ n = omega arith in
    ap (decimal_at rule) (append_assoc ds ((48 + n % 10) ∷ []) tail)
    ∙ before (omega arith) ((48 + n % 10) ∷ tail)
    ∙ digit_taken rule (n / 10) (n % 10) tail sound (omega arith) (omega arith) (rw whole fits)
    ∙ rw whole refl)

closed : (rule : Rule) (n : ℕ) (rest : List ℕ) → digits_at rule n (after rule n ∷ rest) ≡ Ok (n, rest)
unfolding digits_at
closed rule n rest = rw (eq-eqb (after rule n) (after rule n) refl) refl

-- ---- what is taken is spelled

-- a digit, as a number and 48
digit_parts : (b : ℕ) → is_digit b ≡ true → (48 + (b - 48) ≡ b) × (b - 48 < 10)
digit_parts b digit =
    let ends = and_parts (leb 48 b) (leb b 57) digit in
    let low : 48 ≤ b = leb-true _ _ ends.0 in
    let high : b ≤ 57 = leb-true _ _ ends.1 in
    (omega arith, omega arith)

first_spelled : (b : ℕ) → is_digit b ≡ true → decimal (b - 48) ≡ b ∷ []
first_spelled b digit = let d = digit_parts b digit in decimal_digit (b - 48) d.1 ∙ rw d.0 refl

next_spelled : (rule : Rule) (n b : ℕ) → IsSound rule → (is_digit b && ltb 0 n) ≡ true → 10 * n + (b - 48) < rule.limit → decimal (10 * n + (b - 48)) ≡ decimal n ++ b ∷ []
next_spelled rule n b sound tests small =
    let t = and_parts (is_digit b) (ltb 0 n) tests in
    let d = digit_parts b t.0 in
    let fits = sound.fits in
    decimal_more n (b - 48) (ltb-true _ _ t.1) d.1 (omega arith) ∙ rw d.0 refl

abbrev Follows : Rule → ℕ → List ℕ → ℕ → List ℕ → Type 0
Follows rule n bytes m rest = (m < rule.limit) × (decimal n ++ bytes ≡ decimal m ++ after rule m ∷ rest)

digits_found : (rule : Rule) (n : ℕ) (bytes : List ℕ) (m : ℕ) (rest : List ℕ) → IsSound rule → n < rule.limit → digits_at rule n bytes ≡ Ok (m, rest) → Follows rule n bytes m rest
unfolding digits_at
digits_found rule n [] m rest sound lt e = absurd cc
digits_found rule n (b ∷ bytes) m rest sound lt e =
    let next = 10 * n + (b - 48) in
    elim (chosen (eqb b (after rule n)) _ _ _ e) [
      | inl h ↦
          let same : b ≡ after rule n = eqb-true _ _ h.0 in
          let parts = ok_parts n m bytes rest h.1 in
          subst (λ (k : ℕ). Follows rule n (b ∷ bytes) k rest) parts.0 (lt, ap (λ (xs : List ℕ). decimal n ++ xs) (rw (same, parts.1) refl))
      | inr h ↦
          elim (chosen (is_digit b && ltb 0 n) _ _ _ h.1) [
            | inl k ↦
                elim (chosen (ltb next rule.limit) _ _ _ k.1) [
                  | inl l ↦
                      let tests = and_parts (is_digit b) (ltb 0 n) k.0 in
                      let ends = and_parts (leb 48 b) (leb b 57) tests.0 in
                      let low : 48 ≤ b = leb-true _ _ ends.0 in
                      let high : b ≤ 57 = leb-true _ _ ends.1 in
                      let pos : 0 < n = ltb-true _ _ tests.1 in
                      let small : next < rule.limit = ltb-true _ _ l.0 in
                      let byte : 48 + (b - 48) ≡ b = omega arith in
                      let f = digits_found rule next bytes m rest sound small l.1 in
                      let fits = sound.fits in
                      let spelled : decimal next ≡ decimal n ++ b ∷ [] = decimal_more n (b - 48) pos (omega arith) (omega arith) ∙ rw byte refl in
                      (f.0, sym (append_assoc (decimal n) (b ∷ []) bytes) ∙ ap (λ (xs : List ℕ). xs ++ bytes) (sym spelled) ∙ f.1)
                  | inr l ↦ absurd (let f = l.1 in cc)
                ]
            | inr k ↦ absurd (let f = k.1 in cc)
          ]
    ]

decimal_found : (rule : Rule) (bytes : List ℕ) (m : ℕ) (rest : List ℕ) → IsSound rule → decimal_at rule bytes ≡ Ok (m, rest) → (m < rule.limit) × (bytes ≡ decimal m ++ after rule m ∷ rest)
unfolding decimal_at
decimal_found rule [] m rest sound e = absurd cc
decimal_found rule (b ∷ bytes) m rest sound e =
    elim (chosen (is_digit b) _ _ _ e) [
      | inl h ↦
          elim (chosen (ltb (b - 48) rule.limit) _ _ _ h.1) [
            | inl k ↦
                let ends = and_parts (leb 48 b) (leb b 57) h.0 in
                let low : 48 ≤ b = leb-true _ _ ends.0 in
                let high : b ≤ 57 = leb-true _ _ ends.1 in
                let byte : 48 + (b - 48) ≡ b = omega arith in
                let spelled : decimal (b - 48) ≡ b ∷ [] = decimal_digit (b - 48) (omega arith) ∙ rw byte refl in
                let f = digits_found rule (b - 48) bytes m rest sound (ltb-true _ _ k.0) k.1 in
                (f.0, ap (λ (xs : List ℕ). xs ++ bytes) (sym spelled) ∙ f.1)
            | inr k ↦ absurd (let f = k.1 in cc)
          ]
      | inr h ↦ absurd (let f = h.1 in cc)
    ]

-- ---- where it stops

digits_stop : (rule : Rule) (n : ℕ) (bytes : List ℕ) (s : Stop) → digits_at rule n bytes ≡ Err s → StopsAt (digits_at rule n) bytes s
unfolding digits_at
digits_stop rule n [] s e = stops_at_end (digits_at rule n) s (cc) refl
digits_stop rule n (b ∷ bytes) s e =
    let next = 10 * n + (b - 48) in
    elim (chosen (eqb b (after rule n)) _ _ _ e) [
      | inl h ↦ absurd (let f = h.1 in cc)
      | inr h ↦
          elim (chosen (is_digit b && ltb 0 n) _ _ _ h.1) [
            | inl k ↦
                elim (chosen (ltb next rule.limit) _ _ _ k.1) [
                  | inl l ↦ stops_later (digits_at rule n) (digits_at rule next) b bytes s (λ more. rw (h.0, k.0, l.0) refl) (digits_stop rule next bytes s l.1)
                  | inr l ↦ stops_now (digits_at rule n) rule.over b bytes s (let f = l.1 in cc) refl (λ more. rw (h.0, k.0, l.0) refl)
                ]
            | inr k ↦ stops_now (digits_at rule n) Number b bytes s (let f = k.1 in cc) refl (λ more. rw (h.0, k.0) refl)
          ]
    ]

decimal_stops : (rule : Rule) (bytes : List ℕ) (s : Stop) → decimal_at rule bytes ≡ Err s → StopsAt (decimal_at rule) bytes s
unfolding decimal_at
decimal_stops rule [] s e = stops_at_end (decimal_at rule) s (cc) refl
decimal_stops rule (b ∷ bytes) s e =
    elim (chosen (is_digit b) _ _ _ e) [
      | inl h ↦
          elim (chosen (ltb (b - 48) rule.limit) _ _ _ h.1) [
            | inl k ↦ stops_later (decimal_at rule) (digits_at rule (b - 48)) b bytes s (λ more. rw (h.0, k.0) refl) (digits_stop rule (b - 48) bytes s k.1)
            | inr k ↦ stops_now (decimal_at rule) rule.over b bytes s (let f = k.1 in cc) refl (λ more. rw (h.0, k.0) refl)
          ]
      | inr h ↦ stops_now (decimal_at rule) Number b bytes s (let f = h.1 in cc) refl (λ more. rw h.0 refl)
    ]

-- ---- what goes on where digits are wanting

digits_want : (rule : Rule) (n : ℕ) (bytes : List ℕ) → IsSound rule → n < rule.limit → digits_at rule n bytes ≡ Err (stopped End []) → (m : ℕ) × (more : List ℕ) × (m < rule.limit) × (decimal n ++ (bytes ++ more) ≡ decimal m ++ after rule m ∷ [])
unfolding digits_at
digits_want rule n [] sound lt e = (n, after rule n ∷ [], lt, refl)
digits_want rule n (b ∷ bytes) sound lt e =
    let next = 10 * n + (b - 48) in
    elim (chosen (eqb b (after rule n)) _ _ _ e) [
      | inl h ↦ absurd (let f = h.1 in cc)
      | inr h ↦
          elim (chosen (is_digit b && ltb 0 n) _ _ _ h.1) [
            | inl k ↦
                elim (chosen (ltb next rule.limit) _ _ _ k.1) [
                  | inl l ↦
                      let small : next < rule.limit = ltb-true _ _ l.0 in
                      let f = digits_want rule next bytes sound small l.1 in
                      (f.0, f.1, f.2, sym (append_assoc (decimal n) (b ∷ []) (bytes ++ f.1)) ∙ ap (λ (xs : List ℕ). xs ++ (bytes ++ f.1)) (sym (next_spelled rule n b sound k.0 small)) ∙ f.3)
                  | inr l ↦ absurd (not_at_end rule.over b bytes (let f = l.1 in cc))
                ]
            | inr k ↦ absurd (not_at_end Number b bytes (let f = k.1 in cc))
          ]
    ]

decimal_wants : (rule : Rule) (bytes : List ℕ) → IsSound rule → decimal_at rule bytes ≡ Err (stopped End []) → Begins (IsDecimal rule) bytes
unfolding decimal_at
decimal_wants rule [] sound e = record { value = 0; more = decimal 0 ++ after rule 0 ∷ []; spells = (sound.some, refl) }
decimal_wants rule (b ∷ bytes) sound e =
    elim (chosen (is_digit b) _ _ _ e) [
      | inl h ↦
          elim (chosen (ltb (b - 48) rule.limit) _ _ _ h.1) [
            | inl k ↦
                let f = digits_want rule (b - 48) bytes sound (ltb-true _ _ k.0) k.1 in
                record { value = f.0; more = f.1; spells = (f.2, ap (λ (xs : List ℕ). xs ++ (bytes ++ f.1)) (sym (first_spelled b h.0)) ∙ f.3) }
            | inr k ↦ absurd (not_at_end rule.over b bytes (let f = k.1 in cc))
          ]
      | inr h ↦ absurd (not_at_end Number b bytes (let f = h.1 in cc))
    ]

pub decimal_exact : (rule : Rule) → IsSound rule → IsExact (IsDecimal rule) (decimal_at rule)
decimal_exact rule sound = record {
  only = λ n text rest h.
      let fits = sound.fits in
      ap (decimal_at rule) (ap (λ (t : List ℕ). t ++ rest) h.1 ∙ append_assoc (decimal n) (after rule n ∷ []) rest)
      ∙ all_taken rule sound n (omega (arith, h.0)) h.0 (after rule n ∷ rest)
      ∙ closed rule n rest;
  found = λ bytes n rest e.
      let f = decimal_found rule bytes n rest sound e in
      record { text = decimal n ++ after rule n ∷ []; spells = (f.0, refl); parts = f.1 ∙ sym (append_assoc (decimal n) (after rule n ∷ []) rest) };
  stops = decimal_stops rule;
  wants = λ bytes e. decimal_wants rule bytes sound e;
  some = record { value = 0; more = decimal 0 ++ after rule 0 ∷ []; spells = (sound.some, refl) };
}
