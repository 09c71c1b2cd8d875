-- A list beside a list of names still answers where names are after one more name, and after the last is forgotten.
use Rattle.std.proofs.Common.{◌≡◌, ◌≢◌, ◌==◌, ℕ, ◌+◌, ◌<◌, Bool, true, false, List, [], ◌∷◌, ◌++◌, length, set, Option, Some, None, get_or, refl, ap, sym, subst, ◌∙◌, inl, inr, arith}
use Rattle.std.specs.Prelude.{if◌then◌else◌, zero, suc, IsSome}
use Rattle.std.specs.Option.{option_eq}
use Rattle.std.proofs.Math.Dec.{eqb}
use Rattle.std.proofs.lemmas.Bool.{cases_eq, eqb-true, eq-eqb, ne_eqb}
use Rattle.std.proofs.lemmas.List.{get_or-set_same, get_or-set_other}
use Rattle.arr_scope.specs.declared.bound.Bound.{Bound}
use Rattle.arr_scope.specs.Places.{Answers}
use Rattle.arr_scope.specs.Scope.{Names, binding_of, place_from, place_of, with_binding}

-- ---- where names are

abbrev or_place : Option ℕ → Option ℕ → Option ℕ
or_place None other = other
or_place (Some place) other = Some place

append_step : (b : Bool) (place : ℕ) (rest longer last : Option ℕ) → longer ≡ or_place rest last → (if b then Some place else longer) ≡ or_place (if b then Some place else rest) last
append_step true place rest longer last e = refl
append_step false place rest longer last e = e

place_from-append : {A : Type 0} (place name : ℕ) (names : Names A) (last : ℕ) (binding : Bound A) →
    place_from place name (names ++ (last, binding) ∷ []) ≡ or_place (place_from place name names) (if last == name then Some (place + length names) else None)
place_from-append place name [] last binding = let same : place ≡ place + 0 = omega arith in ap (λ p. if last == name then Some p else None) same
place_from-append place name (entry ∷ names) last binding =
    let same : place + 1 + length names ≡ place + length (entry ∷ names) = omega arith in
    append_step (entry.0 == name) place (place_from (place + 1) name names) _ _
    (place_from-append (place + 1) name names last binding ∙ ap (λ p. or_place (place_from (place + 1) name names) (if last == name then Some p else None)) same)

-- the entry at a place has what the name stands for
abbrev Found : {A : Type 0} → ℕ → ℕ → Names A → ℕ → Type 0
Found {A} from name names place =
    (index : ℕ) × (place ≡ from + index) × (index < length names) × ((d : ℕ × Bound A) → binding_of name names ≡ Some (get_or names index d).1)

found_step : {A : Type 0} (b : Bool) (from place name : ℕ) (entry : ℕ × Bound A) (names : Names A) →
    (place_from (from + 1) name names ≡ Some place → Found (from + 1) name names place) →
    (if b then Some from else place_from (from + 1) name names) ≡ Some place →
    (index : ℕ) × (place ≡ from + index) × (index < length (entry ∷ names))
    × ((d : ℕ × Bound A) → (if b then Some entry.1 else binding_of name names) ≡ Some (get_or (entry ∷ names) index d).1)
found_step true from place name entry names rest e = let same : from ≡ place = cc in (0, omega arith, omega arith, λ d. refl)
found_step false from place name entry names rest e = let found = rest e in (suc found.0, omega (arith, found.1), omega (arith, found.2), found.3)

found_from : {A : Type 0} (from place name : ℕ) (names : Names A) → place_from from name names ≡ Some place → Found from name names place
found_from from place name [] e = cc
found_from from place name (entry ∷ names) e = found_step (entry.0 == name) from place name entry names (found_from (from + 1) place name names) e

pub place-below : {A : Type 0} (place name : ℕ) (names : Names A) → place_of name names ≡ Some place → place < length names
place-below place name names e = let found = found_from 0 place name names e in omega (arith, found.1, found.2)

pub binding-at : {A : Type 0} (place name : ℕ) (names : Names A) (d : ℕ × Bound A) → place_of name names ≡ Some place → binding_of name names ≡ Some (get_or names place d).1
binding-at place name names d e =
    let found = found_from 0 place name names e in
    let same : found.0 ≡ place = omega (arith, found.1) in
    found.3 d ∙ ap (λ i. Some (get_or names i d).1) same

missing_step : {A : Type 0} (b : Bool) (place : ℕ) (binding : Bound A) (rest : Option ℕ) (others : Option (Bound A)) → (rest ≡ None → others ≡ None) →
    (if b then Some place else rest) ≡ None → (if b then Some binding else others) ≡ None
missing_step true place binding rest others h e = cc
missing_step false place binding rest others h e = h e

missing_from : {A : Type 0} (from name : ℕ) (names : Names A) → place_from from name names ≡ None → binding_of name names ≡ None
missing_from from name [] e = refl
missing_from from name (entry ∷ names) e = missing_step (entry.0 == name) from entry.1 (place_from (from + 1) name names) (binding_of name names) (missing_from (from + 1) name names) e

pub binding-missing : {A : Type 0} (name : ℕ) (names : Names A) → place_of name names ≡ None → binding_of name names ≡ None
binding-missing name names e = missing_from 0 name names e

-- what a name stands for after one more name, by whether it is that name
module _ {A : Type 0} (names : Names A) (last : ℕ) (binding : Bound A) where
  place-other : (name : ℕ) → (last == name) ≡ false → place_of name (names ++ (last, binding) ∷ []) ≡ place_of name names
  place-other name n = place_from-append 0 name names last binding ∙ ap (λ b. or_place (place_of name names) (if b then Some (0 + length names) else None)) n ∙ unchanged (place_of name names)
    where
      unchanged : (place : Option ℕ) → or_place place None ≡ place
      unchanged None = refl
      unchanged (Some place) = refl

  place-found : (name place : ℕ) → place_of name names ≡ Some place → place_of name (names ++ (last, binding) ∷ []) ≡ Some place
  place-found name place e = place_from-append 0 name names last binding ∙ ap (λ found. or_place found (if last == name then Some (0 + length names) else None)) e

  place-last : place_of last names ≡ None → place_of last (names ++ (last, binding) ∷ []) ≡ Some (length names)
  place-last e =
      let here : (last == last) ≡ true = eq-eqb last last refl in
      let same : 0 + length names ≡ length names = omega arith in
      place_from-append 0 last names last binding ∙ ap (λ found. or_place found (if last == last then Some (0 + length names) else None)) e
      ∙ ap (λ b. if b then Some (0 + length names) else None) here ∙ ap Some same

-- ---- the list after a change

-- capacity after the last place changes no answer
pub more_room : (places : List (Option ℕ)) (name : ℕ) → get_or (places ++ None ∷ []) name None ≡ get_or places name None
more_room [] zero = refl
more_room [] (suc name) = refl
more_room (place ∷ places) zero = refl
more_room (place ∷ places) (suc name) = more_room places name

module _ {A : Type 0} (names : Names A) (last : ℕ) (binding : Bound A) where
  -- a name that was in scope is still found where it was
  again : (places : List (Option ℕ)) → Answers places names → (found : Option ℕ) → place_of last names ≡ found → IsSome found → Answers places (names ++ (last, binding) ∷ [])
  again places answers None e h = cc
  again places answers (Some place) e h = λ name. elim (cases_eq name last) [
    | inl same ↦
        subst (λ n. get_or places n None ≡ place_of n (names ++ (last, binding) ∷ [])) (sym same)
        (answers last ∙ e ∙ sym (place-found names last binding last place e))
    | inr other ↦ answers name ∙ sym (place-other names last binding name (ne_eqb last name (λ e. other (sym e))))
  ]

  pub declared_again : (places : List (Option ℕ)) → Answers places names → IsSome (place_of last names) → Answers places (names ++ (last, binding) ∷ [])
  declared_again places answers some = again places answers (place_of last names) refl some

  -- a name that wasn't is found after the others
  pub declared_new : (places : List (Option ℕ)) → Answers places names → place_of last names ≡ None → last < length places → Answers (set places last (Some (length names))) (names ++ (last, binding) ∷ [])
  declared_new places answers none capacity name = elim (cases_eq name last) [
    | inl same ↦
        subst (λ n. get_or (set places last (Some (length names))) n None ≡ place_of n (names ++ (last, binding) ∷ [])) (sym same)
        (get_or-set_same places last (Some (length names)) None capacity ∙ sym (place-last names last binding none))
    | inr other ↦
        get_or-set_other places last name (Some (length names)) None other ∙ answers name
        ∙ sym (place-other names last binding name (ne_eqb last name (λ e. other (sym e))))
  ]

  -- without the last name, which was the only one of its number
  pub forgotten_only : (places : List (Option ℕ)) → Answers places (names ++ (last, binding) ∷ []) → get_or places last None ≡ Some (length names) → last < length places → Answers (set places last None) names
  forgotten_only places answers here capacity = by (place_of last names) refl
    where
      by : (found : Option ℕ) → place_of last names ≡ found → Answers (set places last None) names
      by (Some place) e =
          let below = place-below place last names e in
          let found : Some place ≡ Some (length names) = sym (place-found names last binding last place e) ∙ sym (answers last) ∙ here in
          let same : place ≡ length names = cc in
          absurd (omega (arith, below, same))
      by None e = λ name. elim (cases_eq name last) [
        | inl same ↦ subst (λ n. get_or (set places last None) n None ≡ place_of n names) (sym same) (get_or-set_same places last None None capacity ∙ sym e)
        | inr other ↦
            get_or-set_other places last name None None other ∙ answers name
            ∙ place-other names last binding name (ne_eqb last name (λ e. other (sym e)))
      ]

  -- without the last name, of whose number an older one is found
  pub forgotten_again : (places : List (Option ℕ)) → Answers places (names ++ (last, binding) ∷ []) → (get_or places last None ≢ Some (length names)) → Answers places names
  forgotten_again places answers other = by (place_of last names) refl
    where
      by : (found : Option ℕ) → place_of last names ≡ found → Answers places names
      by None e = absurd (other (answers last ∙ place-last names last binding e))
      by (Some place) e = λ name. elim (cases_eq name last) [
        | inl same ↦ subst (λ n. get_or places n None ≡ place_of n names) (sym same) (answers last ∙ place-found names last binding last place e ∙ sym e)
        | inr apart ↦ answers name ∙ place-other names last binding name (ne_eqb last name (λ e. apart (sym e)))
      ]

-- ---- the same, as the calls have it

room_for : (places : List (Option ℕ)) (name place : ℕ) → get_or places name None ≡ Some place → name < length places
room_for [] zero place e = cc
room_for [] (suc name) place e = cc
room_for (found ∷ places) zero place e = omega arith
room_for (found ∷ places) (suc name) place e = let more = room_for places name place e in omega (arith, more)

pub only_forgotten : {A : Type 0} (places after : List (Option ℕ)) (old new : Names A) (last : ℕ) (binding : Bound A) (place : ℕ) → Answers places old → old ≡ new ++ (last, binding) ∷ [] → place ≡ length new
    → get_or places last None ≡ Some place → after ≡ set places last None → Answers after new
only_forgotten {A} places after old new last binding place answers is_old is_place here is_after =
    subst (λ (places : List (Option ℕ)). Answers places new) (sym is_after)
    (forgotten_only new last binding places (subst (λ (names : Names A). Answers places names) is_old answers) (here ∙ ap Some is_place) (room_for places last place here))

pub again_forgotten : {A : Type 0} (places : List (Option ℕ)) (old new : Names A) (last : ℕ) (binding : Bound A) (place : ℕ) → Answers places old → old ≡ new ++ (last, binding) ∷ [] → place ≡ length new
    → (get_or places last None ≢ Some place) → Answers places new
again_forgotten {A} places old new last binding place answers is_old is_place other =
    forgotten_again new last binding places (subst (λ (names : Names A). Answers places names) is_old answers) (λ e. other (e ∙ ap Some (sym is_place)))

pub equal_place : (found : Option ℕ) (place : ℕ) → option_eq eqb found (Some place) ≡ true → found ≡ Some place
equal_place None place e = cc
equal_place (Some other) place e = ap Some (eqb-true other place e)

pub other_place : (found : Option ℕ) (place : ℕ) → option_eq eqb found (Some place) ≡ false → found ≢ Some place
other_place None place e same = cc
other_place (Some other) place e same = let equal : other ≡ place = cc in let yes = eq-eqb other place equal in cc

-- ---- another thing that a name stands for

set_step : {A : Type 0} (b : Bool) (from place name : ℕ) (new : Bound A) (entry : ℕ × Bound A) (names : Names A) →
    (place_from (from + 1) name names ≡ Some place → (index : ℕ) × (place ≡ from + 1 + index) × (with_binding name new names ≡ set names index (name, new))) →
    (if b then Some from else place_from (from + 1) name names) ≡ Some place →
    (index : ℕ) × (place ≡ from + index) × ((if b then (name, new) ∷ names else entry ∷ with_binding name new names) ≡ set (entry ∷ names) index (name, new))
set_step true from place name new entry names rest e = let same : from ≡ place = cc in (0, omega arith, refl)
set_step false from place name new entry names rest e = let found = rest e in (suc found.0, omega (arith, found.1), ap (λ names. entry ∷ names) found.2)

set_from : {A : Type 0} (from place name : ℕ) (new : Bound A) (names : Names A) → place_from from name names ≡ Some place → (index : ℕ) × (place ≡ from + index) × (with_binding name new names ≡ set names index (name, new))
set_from from place name new [] e = cc
set_from from place name new (entry ∷ names) e = set_step (entry.0 == name) from place name new entry names (set_from (from + 1) place name new names) e

pub with_binding-at : {A : Type 0} (place name : ℕ) (new : Bound A) (names : Names A) → place_of name names ≡ Some place → with_binding name new names ≡ set names place (name, new)
with_binding-at place name new names e =
    let found = set_from 0 place name new names e in
    let same : found.0 ≡ place = omega (arith, found.1) in
    found.2 ∙ ap (λ i. set names i (name, new)) same

kept_step : {A : Type 0} (b : Bool) (from name : ℕ) (new : Bound A) (entry : ℕ × Bound A) (names : Names A) →
    (place_from (from + 1) name names ≡ None → with_binding name new names ≡ names) →
    (if b then Some from else place_from (from + 1) name names) ≡ None → (if b then (name, new) ∷ names else entry ∷ with_binding name new names) ≡ entry ∷ names
kept_step true from name new entry names rest e = cc
kept_step false from name new entry names rest e = ap (λ names. entry ∷ names) (rest e)

kept_from : {A : Type 0} (from name : ℕ) (new : Bound A) (names : Names A) → place_from from name names ≡ None → with_binding name new names ≡ names
kept_from from name new [] e = refl
kept_from from name new (entry ∷ names) e = kept_step (entry.0 == name) from name new entry names (kept_from (from + 1) name new names) e

pub with_binding-missing : {A : Type 0} (name : ℕ) (new : Bound A) (names : Names A) → place_of name names ≡ None → with_binding name new names ≡ names
with_binding-missing name new names e = kept_from 0 name new names e

same_step : {A : Type 0} (b : Bool) (from other name : ℕ) (new : Bound A) (entry : ℕ × Bound A) (names : Names A) → (entry.0 == name) ≡ b →
    place_from (from + 1) other (with_binding name new names) ≡ place_from (from + 1) other names →
    place_from from other (if b then (name, new) ∷ names else entry ∷ with_binding name new names) ≡ place_from from other (entry ∷ names)
same_step true from other name new entry names e rest = ap (λ n. if n == other then Some from else place_from (from + 1) other names) (sym (eqb-true entry.0 name e))
same_step false from other name new entry names e rest = ap (λ place. if entry.0 == other then Some from else place) rest

same_from : {A : Type 0} (from other name : ℕ) (new : Bound A) (names : Names A) → place_from from other (with_binding name new names) ≡ place_from from other names
same_from from other name new [] = refl
same_from from other name new (entry ∷ names) = same_step (entry.0 == name) from other name new entry names refl (same_from (from + 1) other name new names)

pub answers-with_binding : {A : Type 0} (places : List (Option ℕ)) (name : ℕ) (new : Bound A) (names : Names A) → Answers places names → Answers places (with_binding name new names)
answers-with_binding places name new names answers other = answers other ∙ sym (same_from 0 other name new names)
