-- What stops a prover, and how many challenges are due
use Rattle.std.proofs.Common.{◌≡◌, ℕ, zero, suc, ◌+◌, ◌-◌, ◌*◌, ◌<◌, ◌≤◌, min, List, [], ◌++◌, length, take, drop, get_or, Bool, true, false, if◌then◌else◌, ◌==◌, Option, Some, None, inl, inr, refl, sym, ◌∙◌, ap, arith, append-nil, length-append, length-drop, length-take}
use Rattle.std.specs.Prelude.{nat_le, nat_lt}
use Rattle.std.proofs.lemmas.Bool.{cases_lt, eq-eqb, le-leb, lt-leb, lt-ltb, le-ltb}
use Rattle.std.proofs.lemmas.Bool.Decides.{nat_tests}
use Rattle.std.proofs.lemmas.List.{drop-append-le, get_or_append_left, get_or_past, get_or-take, take_all, take_at}
use Rattle.field_ext.specs.Field.{K}
use Rattle.circuit_core.proofs.api.Faultless.{height_bounds, none_from_test}
use Rattle.circuit_core.proofs.api.Sizes.{size_of}
use Rattle.circuit_core.specs.Parts.{height}
use Rattle.circuit_core.specs.Sound.{SoundCircuit, exponent_at}
use Rattle.gkr_layers.proofs.api.Circuits.{below_more, below_none, circuit_count}
use Rattle.gkr_layers.specs.Layers.{challenges_of, layers_below, total_exponent}
use Rattle.live_session.specs.Elements.{has_element, leading}
use Rattle.live_session.specs.Proving.{stop_of}
use Rattle.live_session.specs.declared.progress.LiveFault.{LiveFault}
use Rattle.live_session.specs.declared.progress.LiveFault.TheVariants.{Range, Extra}
use Rattle.live_session.proofs.api.ElementSteps.{has_more, leading_none, leading-fits, leading-more, leading-most, leading-stops}
use Rattle.live_session.proofs.api.VerifierSteps.{leading_nothing, leading_take}

few_below : (c : SoundCircuit) (n i : ℕ) → i + n ≡ height c.parts → total_exponent (layers_below c.parts i) ≤ 20 * n
few_below c zero i e = let none : total_exponent (layers_below c.parts i) ≡ 0 = ap total_exponent (below_none c.parts i (omega (arith, e))) in omega (arith, none)
few_below c (suc n) i e =
    let more : total_exponent (layers_below c.parts i) ≡ exponent_at c.parts (i + 1) + total_exponent (layers_below c.parts (i + 1)) = ap total_exponent (below_more c.parts i (omega (arith, e))) in
    omega (arith, more, few_below c n (i + 1) (omega (arith, e)), (size_of c (i + 1) (omega (arith, e))).2)

-- challenges are few
pub few_words : (c : SoundCircuit) → challenges_of c.parts < 4294967296
few_words c =
    omega (arith, circuit_count c.parts, few_below c (height c.parts) 0 (omega arith), (height_bounds c.parts (none_from_test _ c.faultless)).1, (size_of c 0 (omega arith)).2)

-- what stops, by how many challenges are there, how many bytes, and the byte after all challenges
abbrev told : ℕ → ℕ → ℕ → ℕ → Option LiveFault
told due words fed last =
    if words == due then (if nat_lt 1 last then Some (Range (8 * due)) else (if nat_le (8 * due + 2) fed then Some (Extra (8 * due + 1)) else None))
    else (if nat_le (8 * words + 8) fed then Some (Range (8 * words)) else None)

module _ (due words fed last : ℕ) where
  at_first : (b : Bool) → (words == due) ≡ b → told due words fed last ≡ (if b then (if nat_lt 1 last then Some (Range (8 * due)) else (if nat_le (8 * due + 2) fed then Some (Extra (8 * due + 1)) else None))
      else (if nat_le (8 * words + 8) fed then Some (Range (8 * words)) else None))
  at_first b e = ap (λ (t : Bool). if t then (if nat_lt 1 last then Some (Range (8 * due)) else (if nat_le (8 * due + 2) fed then Some (Extra (8 * due + 1)) else None)) else (if nat_le (8 * words + 8) fed then Some (Range (8 * words)) else None)) e

  differs : words < due → (words == due) ≡ false
  differs u = grind (arith, nat_tests)

  pub told_early : words < due → 8 * words + 8 ≤ fed → told due words fed last ≡ Some (Range (8 * words))
  told_early u v = at_first false (differs u) ∙ ap (λ (t : Bool). if t then Some (Range (8 * words)) else None) (le-leb (8 * words + 8) fed v)

  pub told_waiting : words < due → fed < 8 * words + 8 → told due words fed last ≡ None
  told_waiting u v = at_first false (differs u) ∙ ap (λ (t : Bool). if t then Some (Range (8 * words)) else None) (lt-leb (8 * words + 8) fed v)

  pub told_last : words ≡ due → 1 < last → told due words fed last ≡ Some (Range (8 * due))
  told_last u v = at_first true (eq-eqb words due u) ∙ ap (λ (t : Bool). if t then Some (Range (8 * due)) else (if nat_le (8 * due + 2) fed then Some (Extra (8 * due + 1)) else None)) (lt-ltb 1 last v)

  good : words ≡ due → last ≤ 1 → told due words fed last ≡ (if nat_le (8 * due + 2) fed then Some (Extra (8 * due + 1)) else None)
  good u v = at_first true (eq-eqb words due u) ∙ ap (λ (t : Bool). if t then Some (Range (8 * due)) else (if nat_le (8 * due + 2) fed then Some (Extra (8 * due + 1)) else None)) (le-ltb 1 last v)

  pub told_extra : words ≡ due → last ≤ 1 → 8 * due + 2 ≤ fed → told due words fed last ≡ Some (Extra (8 * due + 1))
  told_extra u v w = good u v ∙ ap (λ (t : Bool). if t then Some (Extra (8 * due + 1)) else None) (le-leb (8 * due + 2) fed w)

  pub told_end : words ≡ due → last ≤ 1 → fed < 8 * due + 2 → told due words fed last ≡ None
  told_end u v w = good u v ∙ ap (λ (t : Bool). if t then Some (Extra (8 * due + 1)) else None) (lt-leb (8 * due + 2) fed w)

  -- where nothing stops, there are no more bytes than are due
  pub no_more : words ≤ due → told due words fed last ≡ None → fed ≤ 8 * due + 1
  no_more u e = elim (cases_lt words due) [
    | inl v ↦ elim (cases_lt fed (8 * words + 8)) [
      | inl w ↦ omega arith
      | inr w ↦ absurd (let f : Some (Range (8 * words)) ≡ None = sym (told_early v w) ∙ e in cc)
    ]
    | inr v ↦ elim (cases_lt 1 last) [
      | inl w ↦ absurd (let f : Some (Range (8 * due)) ≡ None = sym (told_last (omega arith) w) ∙ e in cc)
      | inr w ↦ elim (cases_lt fed (8 * due + 2)) [
        | inl x ↦ omega arith
        | inr x ↦ absurd (let f : Some (Extra (8 * due + 1)) ≡ None = sym (told_extra (omega arith) w x) ∙ e in cc)
      ]
    ]
  ]

told_kept : (due words fed last : ℕ) → words ≤ due → told due words (min (8 * due + 2) fed) last ≡ told due words fed last
told_kept due words fed last u = elim (cases_lt words due) [
  | inl v ↦ elim (cases_lt fed (8 * words + 8)) [
    | inl w ↦ told_waiting due words (min (8 * due + 2) fed) last v (omega arith) ∙ sym (told_waiting due words fed last v w)
    | inr w ↦ told_early due words (min (8 * due + 2) fed) last v (omega arith) ∙ sym (told_early due words fed last v w)
  ]
  | inr v ↦ elim (cases_lt 1 last) [
    | inl w ↦ told_last due words (min (8 * due + 2) fed) last (omega arith) w ∙ sym (told_last due words fed last (omega arith) w)
    | inr w ↦ elim (cases_lt fed (8 * due + 2)) [
      | inl x ↦ told_end due words (min (8 * due + 2) fed) last (omega arith) w (omega arith) ∙ sym (told_end due words fed last (omega arith) w x)
      | inr x ↦ told_extra due words (min (8 * due + 2) fed) last (omega arith) w (omega arith) ∙ sym (told_extra due words fed last (omega arith) w x)
    ]
  ]
]

-- two bytes after the challenges say all
pub stop_kept : (due : ℕ) (bytes : List ℕ) → stop_of due (take (8 * due + 2) bytes) ≡ stop_of due bytes
stop_kept due bytes =
    (λ j. told due (length (leading_take due (8 * due + 2) bytes (omega arith) j)) (length-take (8 * due + 2) bytes j) (get_or-take (8 * due + 2) bytes (8 * due) 0 (omega arith) j))
    ∙ told_kept due (length (leading due bytes)) (length bytes) (get_or bytes (8 * due) 0) (leading-most due bytes)

pub stop_none : (due : ℕ) (bytes : List ℕ) → stop_of due bytes ≡ None → length bytes ≤ 8 * due + 1
stop_none due bytes e = no_more due (length (leading due bytes)) (length bytes) (get_or bytes (8 * due) 0) (leading-most due bytes) e

-- so that where nothing stops, all bytes are kept
pub all_kept : (due : ℕ) (bytes : List ℕ) → stop_of due (take (8 * due + 2) bytes) ≡ None → (stop_of due bytes ≡ None) × (take (8 * due + 2) bytes ≡ bytes)
all_kept due bytes e =
    let none = sym (stop_kept due bytes) ∙ e in (
      none,
      take_all (8 * due + 2) bytes (omega (arith, stop_none due bytes none)),
    )

-- a fault is the lowest with more bytes after them, too
module _ (due : ℕ) (before more : List ℕ) (fault : LiveFault) (stops : stop_of due before ≡ Some fault) where
  abbrev words : ℕ
  words = length (leading due before)

  abbrev fed : ℕ
  fed = length before

  abbrev last : ℕ
  last = get_or before (8 * due) 0

  longer : length before ≤ length (before ++ more)
  longer = omega (arith, length-append before more)

  same_last : 8 * due < length before → get_or (before ++ more) (8 * due) 0 ≡ get_or before (8 * due) 0
  same_last u = get_or_append_left before more 0 (8 * due) u

  stays_early : length (leading due before) < due → stop_of due (before ++ more) ≡ Some fault
  stays_early u = elim (cases_lt (length before) (8 * length (leading due before) + 8)) [
    | inl v ↦ absurd (let f : None ≡ Some fault = sym (told_waiting due words fed last u v) ∙ stops in cc)
    | inr v ↦
        let none : has_element (drop (8 * words) (before ++ more)) ≡ false =
        ap has_element (drop-append-le (8 * words) before more (leading-fits due before)) ∙ has_more (drop (8 * words) before) more (omega (arith, length-drop (8 * words) before, v)) ∙ leading-stops due before u in
        let same : leading due (before ++ more) ≡ leading due before =
        leading-more due before more ∙ ap (λ (xs : List K). leading due before ++ xs) (leading_none due words (before ++ more) u none) ∙ append-nil (leading due before) in
        ap (λ (xs : List K). told due (length xs) (length (before ++ more)) (get_or (before ++ more) (8 * due) 0)) same
        ∙ told_early due words (length (before ++ more)) (get_or (before ++ more) (8 * due) 0) u (omega (arith, v, longer))
        ∙ sym (told_early due words fed last u v) ∙ stops
  ]

  stays_late : length (leading due before) ≡ due → stop_of due (before ++ more) ≡ Some fault
  stays_late u =
      let rest : List K = leading (due - words) (drop (8 * words) (before ++ more)) in
      let all : length (leading due (before ++ more)) ≡ due =
      omega (arith, u, leading-most due (before ++ more), ap length (leading-more due before more), length-append (leading due before) rest) in
      elim (cases_lt 1 (get_or before (8 * due) 0)) [
        | inl v ↦ elim (cases_lt (8 * due) (length before)) [
          | inl w ↦
              ap (told due (length (leading due (before ++ more))) (length (before ++ more))) (same_last w)
              ∙ told_last due (length (leading due (before ++ more))) (length (before ++ more)) last all v
              ∙ sym (told_last due words fed last u v) ∙ stops
          | inr w ↦ absurd (omega (arith, v, get_or_past before (8 * due) 0 w))
        ]
        | inr v ↦ elim (cases_lt (length before) (8 * due + 2)) [
          | inl w ↦ absurd (let f : None ≡ Some fault = sym (told_end due words fed last u v w) ∙ stops in cc)
          | inr w ↦
              ap (told due (length (leading due (before ++ more))) (length (before ++ more))) (same_last (omega (arith, w)))
              ∙ told_extra due (length (leading due (before ++ more))) (length (before ++ more)) last all v (omega (arith, w, longer))
              ∙ sym (told_extra due words fed last u v w) ∙ stops
        ]
      ]

  pub stop_stays : stop_of due (before ++ more) ≡ Some fault
  stop_stays = elim (cases_lt (length (leading due before)) due) [
    | inl u ↦ stays_early u
    | inr u ↦ stays_late (omega (arith, u, leading-most due before))
  ]

-- the challenges before are the first of those with more bytes
pub words_before : (due : ℕ) (bytes more : List ℕ) → (take (length (leading due bytes)) (leading due (take (8 * due + 2) (bytes ++ more))) ≡ leading due bytes) × (length (leading due bytes) ≤ length (leading due (take (8 * due + 2) (bytes ++ more))))
words_before due bytes more =
    let n = length (leading due bytes) in
    let rest : List K = leading (due - n) (drop (8 * n) (bytes ++ more)) in
    let all : leading due (take (8 * due + 2) (bytes ++ more)) ≡ leading due bytes ++ rest = leading_take due (8 * due + 2) (bytes ++ more) (omega arith) ∙ leading-more due bytes more in (
      ap (take n) all ∙ take_at (leading due bytes) rest n refl,
      omega (arith, ap length all, length-append (leading due bytes) rest),
    )

-- at the start nothing stops
pub nothing_stops : (c : SoundCircuit) (bytes : List ℕ) → bytes ≡ [] → (stop_of (challenges_of c.parts) bytes ≡ None) × (length (leading (challenges_of c.parts) bytes) < exponent_at c.parts 0)
nothing_stops c bytes e =
    let due = challenges_of c.parts in
    let words : length (leading (challenges_of c.parts) bytes) ≡ 0 = ap length (ap (leading (challenges_of c.parts)) e ∙ leading_nothing (challenges_of c.parts)) in
    let least = (size_of c 0 (omega arith)).1 in (
      told_waiting due (length (leading due bytes)) (length bytes) (get_or bytes (8 * due) 0) (omega (arith, words, least)) (omega (arith, words, ap length e)),
      omega (arith, words, least),
    )
