-- The number that a word spells is the one whose decimal it is.
use Rattle.std.proofs.Common.{◌≡◌, ℕ, ◌<◌, ◌^◌, Bool, true, List, Some, None, Result, Ok, Err, inl, inr, sym, ap, subst, ◌∙◌, decimal, arith}
use Rattle.std.proofs.lemmas.Bool.{cases_Bool, cond-true, cond-false, false_from_ne_true, lt-ltb, ltb-true, and_parts, and_from}
use Rattle.std.proofs.lemmas.Fmt.{decimal_is_IsNumeral, parse-decimal}
use Rattle.std.proofs.lemmas.Slice.Eq.{bytes_eq-Decides}
use Rattle.std.specs.Prelude.{nat_lt, ◌&&◌}
use Rattle.std.specs.Str.{bytes_eq}
use Rattle.std.specs.Str.Parse.{digits_value, ParsesUnsigned}
use Rattle.gkr_words.specs.Commands.{number_if_spelled, number_of}

abbrev test : List ℕ → ℕ → Bool
test word m = nat_lt m (2 ^ 32) && bytes_eq word (decimal m)

pub number_taken : (word : List ℕ) (n : ℕ) → n < 2 ^ 32 → word ≡ decimal n → number_of word ≡ Some n
unfolding number_of
number_taken word n fits is =
    let value = ap (digits_value 10) is ∙ (decimal_is_IsNumeral n (omega arith)).1 in
    let passes : test word n ≡ true = and_from _ _ (lt-ltb n (2 ^ 32) fits) ((bytes_eq-Decides word (decimal n)).1 is) in
    ap (number_if_spelled word) value ∙ cond-true (test word n) (Some n) None passes

pub number_found : (word : List ℕ) (n : ℕ) → number_of word ≡ Some n → (n < 2 ^ 32) × (word ≡ decimal n)
unfolding number_of
number_found word n is =
    let m = digits_value 10 word in
    elim (cases_Bool (test word m)) [
      | inl t ↦
          let some : Some m ≡ Some n = sym (cond-true (test word m) (Some m) None t) ∙ is in
          let same : m ≡ n = cc in
          let parts = and_parts (nat_lt m (2 ^ 32)) (bytes_eq word (decimal m)) t in
          (subst (λ k. k < 2 ^ 32) same (ltb-true m (2 ^ 32) parts.0), (bytes_eq-Decides word (decimal m)).0 parts.1 ∙ ap decimal same)
      | inr f ↦ absurd (let none : None ≡ Some n = sym (cond-false (test word m) (Some m) None f) ∙ is in cc)
    ]

pub number_none : (word : List ℕ) → ((n : ℕ) → n < 2 ^ 32 → word ≡ decimal n → ⊥) → number_of word ≡ None
unfolding number_of
number_none word none =
    let m = digits_value 10 word in
    cond-false (test word m) (Some m) None (false_from_ne_true (test word m) (λ t.
    let parts = and_parts (nat_lt m (2 ^ 32)) (bytes_eq word (decimal m)) t in
    none m (ltb-true m (2 ^ 32) parts.0) ((bytes_eq-Decides word (decimal m)).0 parts.1)))

-- a word that doesn't parse spells none
pub unparsed : {E : Type 0} (word : List ℕ) (r : Result ℕ E) (e : E) → ParsesUnsigned 32 10 word r → r ≡ Err e → number_of word ≡ None
unparsed word r e parses is =
    number_none word (λ n fits spelled. let parsed = parse-decimal 32 n word r fits (omega arith) spelled parses in absurd (let both = is in cc))

-- nor does one that isn't the decimal of what it parses as
pub misspelled : {E : Type 0} (word : List ℕ) (r : Result ℕ E) (m : ℕ) → ParsesUnsigned 32 10 word r → r ≡ Ok m → (word ≡ decimal m → ⊥) → number_of word ≡ None
misspelled word r m parses is other =
    number_none word (λ n fits spelled. let parsed = parse-decimal 32 n word r fits (omega arith) spelled parses in let same : n ≡ m = cc in other (spelled ∙ ap decimal same))
