-- Lists with their changes: as long as without them, read at a place, with one change more, and made from the list.
use Rattle.std.proofs.Common.{◌≡◌, ℕ, zero, suc, ◌+◌, ◌<◌, ◌≤◌, ◌/◌, ◌%◌, ◌≢◌, ◌⊎◌, inl, inr, Bool, true, false, cond, nat_eq, List, [], ◌∷◌, length, get_or, set, Some, None, refl, ap, sym, ◌∙◌, arith}
use Rattle.std.specs.declared.option.Option.{Option}
use Rattle.std.proofs.Math.ListN.{length-set}
use Rattle.std.proofs.lemmas.List.{ext_get_or, get_or-set_same, get_or-set_other, set_past}
use Rattle.std.proofs.lemmas.Bool.{cases_eq, cases_lt}
use Rattle.std.proofs.lemmas.Bool.Decides.{nat_tests}
use Rattle.shared_list.specs.declared.changes.Changes.{Changes, Unchanged, Changed'}
use Rattle.shared_list.specs.Changes.{change_at, item_after, changed_from, changed, Proceeds, Settles}
use Rattle.shared_list.proofs.api.Transposes.{get_or-past}

from-length : {A : Type 0} (changes : Changes A) (place : ℕ) (items : List A) → length (changed_from changes place items) ≡ length items
from-length changes place [] = refl
from-length changes place (item ∷ items) = omega (arith, from-length changes (suc place) items)

from-read : {A : Type 0} (changes : Changes A) (place : ℕ) (items : List A) (k : ℕ) (past : A) → k < length items →
    get_or (changed_from changes place items) k past ≡ item_after (change_at changes (place + k) (place + k)) (get_or items k past)
from-read changes place [] k past inside = absurd (omega (arith, inside))
from-read changes place (item ∷ items) zero past inside =
    let start : place ≡ place + 0 = omega arith in ap (λ at. item_after (change_at changes at at) item) start
from-read changes place (item ∷ items) (suc k) past inside =
    let next : suc place + k ≡ place + suc k = omega arith in
    from-read changes (suc place) items k past (omega (arith, inside))
    ∙ ap (λ at. item_after (change_at changes at at) (get_or items k past)) next

from-unchanged : {A : Type 0} (place : ℕ) (items : List A) → changed_from Unchanged place items ≡ items
from-unchanged place [] = refl
from-unchanged place (item ∷ items) = ap (λ rest. item ∷ rest) (from-unchanged (suc place) items)

-- a list without a change
pub changed-none : {A : Type 0} (items : List A) → changed Unchanged items ≡ items
unfolding changed
changed-none items = from-unchanged 0 items

pub changed-length : {A : Type 0} (changes : Changes A) (items : List A) → length (changed changes items) ≡ length items
unfolding changed
changed-length changes items = from-length changes 0 items

changed-read : {A : Type 0} (changes : Changes A) (items : List A) (k : ℕ) (past : A) → k < length items →
    get_or (changed changes items) k past ≡ item_after (change_at changes k k) (get_or items k past)
unfolding changed
changed-read changes items k past inside =
    let start : 0 + k ≡ k = omega arith in
    from-read changes 0 items k past inside
    ∙ ap (λ at. item_after (change_at changes at at) (get_or items k past)) start

-- an item that is changed, one that is not, and past the end
pub changed-here : {A : Type 0} (changes : Changes A) (items : List A) (k : ℕ) (item past : A) → k < length items → change_at changes k k ≡ Some item →
    get_or (changed changes items) k past ≡ item
changed-here changes items k item past inside found =
    changed-read changes items k past inside ∙ ap (λ there. item_after there (get_or items k past)) found

pub changed-kept : {A : Type 0} (changes : Changes A) (items : List A) (k : ℕ) (past : A) → k < length items → change_at changes k k ≡ None →
    get_or (changed changes items) k past ≡ get_or items k past
changed-kept changes items k past inside none =
    changed-read changes items k past inside ∙ ap (λ there. item_after there (get_or items k past)) none

pub changed-past : {A : Type 0} (changes : Changes A) (items : List A) (k : ℕ) (past : A) → length items ≤ k → get_or (changed changes items) k past ≡ past
changed-past changes items k past outside =
    get_or-past (changed changes items) k past (omega (arith, outside, changed-length changes items))

-- the change at a place, if it is this one
change-same : {A : Type 0} (changes : Changes A) (place k : ℕ) (item : A) → k ≡ place → change_at changes place place ≡ Some item → change_at changes k k ≡ Some item
change-same changes place k item same here = ap (λ at. change_at changes at at) same ∙ here

-- with one change more: at the place, and at all others
more-here : {A : Type 0} (new : Changes A) (old items : List A) (place k : ℕ) (item past : A) → length old ≡ length items → change_at new place place ≡ Some item → k < length items → k ≡ place →
    get_or (changed new items) k past ≡ get_or (set old place item) k past
more-here new old items place k item past long here inside same =
    let within : place < length old = omega (arith, inside, same, long) in
    changed-here new items k item past inside (change-same new place k item same here)
    ∙ sym (get_or-set_same old place item past within)
    ∙ ap (λ at. get_or (set old place item) at past) (sym same)

more-other : {A : Type 0} (old new : Changes A) (items : List A) (place k : ℕ) (item past : A) → ((other digits : ℕ) → other ≢ place → change_at new other digits ≡ change_at old other digits) → k < length items → k ≢ place →
    get_or (changed new items) k past ≡ get_or (set (changed old items) place item) k past
more-other old new items place k item past others inside apart =
    changed-read new items k past inside
    ∙ ap (λ found. item_after found (get_or items k past)) (others k k apart)
    ∙ sym (changed-read old items k past inside)
    ∙ sym (get_or-set_other (changed old items) place k item past apart)

pub changed-more : {A : Type 0} (old new : Changes A) (items : List A) (place : ℕ) (item : A) → change_at new place place ≡ Some item → ((other digits : ℕ) → other ≢ place → change_at new other digits ≡ change_at old other digits) →
    changed new items ≡ set (changed old items) place item
changed-more old new items place item here others =
    ext_get_or item (changed new items) (set (changed old items) place item)
    (changed-length new items ∙ sym (length-set (changed old items) place item ∙ changed-length old items))
    (λ k within.
    let inside : k < length items = omega (arith, within, changed-length new items) in
    elim (cases_eq k place) [
      | inl same ↦ more-here new (changed old items) items place k item item (changed-length old items) here inside same
      | inr apart ↦ more-other old new items place k item item others inside apart
    ])

-- a list that is being changed: left as it is, with one item set, and in two steps
pub proceeds-none : {A : Type 0} (changes : Changes A) (items : List A) → Proceeds changes items items
proceeds-none changes items = record { same = refl; stays = λ k past there. there }

set-same : {A : Type 0} (changes : Changes A) (before : List A) (place : ℕ) (item : A) → change_at changes place place ≡ Some item →
    changed changes (set before place item) ≡ changed changes before
set-same changes before place item here =
    ext_get_or item (changed changes (set before place item)) (changed changes before)
    (changed-length changes (set before place item) ∙ length-set before place item ∙ sym (changed-length changes before))
    (λ k within.
    let inside : k < length (set before place item) = omega (arith, within, changed-length changes (set before place item)) in
    let inside_before : k < length before = omega (arith, inside, length-set before place item) in
    elim (cases_eq k place) [
      | inl same ↦
          changed-here changes (set before place item) k item item inside (change-same changes place k item same here)
          ∙ sym (changed-here changes before k item item inside_before (change-same changes place k item same here))
      | inr apart ↦
          changed-read changes (set before place item) k item inside
          ∙ ap (λ there. item_after (change_at changes k k) there) (get_or-set_other before place k item item apart)
          ∙ sym (changed-read changes before k item inside_before)
    ])

set-here : {A : Type 0} (changes : Changes A) (before : List A) (place k : ℕ) (item past : A) → change_at changes place place ≡ Some item → k ≡ place → k < length before →
    get_or (set before place item) k past ≡ get_or (changed changes before) k past
set-here changes before place k item past here same inside =
    let within : place < length before = omega (arith, inside, same) in
    ap (λ at. get_or (set before place item) at past) same
    ∙ get_or-set_same before place item past within
    ∙ sym (changed-here changes before k item past inside (change-same changes place k item same here))

set-stays : {A : Type 0} (changes : Changes A) (before : List A) (place : ℕ) (item : A) → change_at changes place place ≡ Some item → (k : ℕ) (past : A) → get_or before k past ≡ get_or (changed changes before) k past →
    get_or (set before place item) k past ≡ get_or (changed changes before) k past
set-stays changes before place item here k past there =
    elim (cases_eq k place) [
      | inl same ↦
          elim (cases_lt k (length before)) [
            | inl inside ↦ set-here changes before place k item past here same inside
            | inr outside ↦
                let past_end : length before ≤ place = omega (arith, outside, same) in
                ap (λ items. get_or items k past) (set_past before place item past_end) ∙ there
          ]
      | inr apart ↦ get_or-set_other before place k item past apart ∙ there
    ]

pub proceeds-set : {A : Type 0} (changes : Changes A) (before after : List A) (place : ℕ) (item : A) → after ≡ set before place item → change_at changes place place ≡ Some item →
    Proceeds changes before after
proceeds-set changes before after place item written here =
    record {
      same = ap (changed changes) written ∙ set-same changes before place item here;
      stays = λ k past there. ap (λ items. get_or items k past) written ∙ set-stays changes before place item here k past there;
    }

pub set-settled : {A : Type 0} (changes : Changes A) (before after : List A) (place : ℕ) (item past : A) → after ≡ set before place item → change_at changes place place ≡ Some item → place < length before →
    get_or after place past ≡ get_or (changed changes before) place past
set-settled changes before after place item past written here inside =
    ap (λ items. get_or items place past) written ∙ set-here changes before place place item past here refl inside

proceeds-length : {A : Type 0} (changes : Changes A) (before after : List A) → Proceeds changes before after → length after ≡ length before
proceeds-length changes before after p =
    sym (changed-length changes after) ∙ ap length p.same ∙ changed-length changes before

proceeds-stays : {A : Type 0} (changes : Changes A) (before after : List A) (k : ℕ) (past : A) → Proceeds changes before after → get_or before k past ≡ get_or (changed changes before) k past →
    get_or after k past ≡ get_or (changed changes after) k past
proceeds-stays changes before after k past p there =
    p.stays k past there ∙ sym (ap (λ items. get_or items k past) p.same)

proceeds-twice : {A : Type 0} (changes : Changes A) (before between after : List A) → Proceeds changes before between → Proceeds changes between after → Proceeds changes before after
proceeds-twice changes before between after p q =
    record {
      same = q.same ∙ p.same;
      stays = λ k past there.
          q.stays k past (proceeds-stays changes before between k past p there)
          ∙ ap (λ items. get_or items k past) p.same;
    }

-- the item that a place is changed to, by where it stands
chosen : {A : Type 0} (b : Bool) (x y z : A) → cond b x y ≡ z → ((b ≡ true) × (x ≡ z)) ⊎ ((b ≡ false) × (y ≡ z))
chosen true x y z is = inl (refl, is)
chosen false x y z is = inr (refl, is)

is_same : (a b : ℕ) → nat_eq a b ≡ true → a ≡ b
is_same a b is = grind (arith, nat_tests)

pub settles-none : {A : Type 0} (part changes : Changes A) (items : List A) → part ≡ Unchanged → Settles part changes items items
settles-none part changes items none =
    record {
      proceeds = proceeds-none changes items;
      settled = λ k way item past inside found. absurd (no_change part k way item none found);
    }
  where
    no_change : {B : Type 0} (p : Changes B) (k way : ℕ) (item : B) → p ≡ Unchanged → change_at p k way ≡ Some item → ⊥
    no_change p k way item is found =
        let nothing : change_at p k way ≡ None = ap (λ q. change_at q k way) is in cc

-- what a node of the changes is about: its own place, and the places on both sides
pub settles-changed : {A : Type 0} (part changes even odd : Changes A) (here : ℕ) (own : A) (p : _) (q : _) (before one two after : List A) → part ≡ Changed' here own p even q odd → Proceeds changes before one →
    ((past : A) → here < length before → get_or one here past ≡ get_or (changed changes before) here past) → Settles even changes one two → Settles odd changes two after → Settles part changes before after
settles-changed part changes even odd here own p q before one two after is first at_here evens odds =
    let later : Proceeds changes one after = proceeds-twice changes one two after evens.proceeds odds.proceeds in
    let whole : Proceeds changes before after = proceeds-twice changes before one after first later in
    record {
      proceeds = whole;
      settled = λ k way item past inside found.
          let same_length : length one ≡ length before = proceeds-length changes before one first in
          let same_later : length two ≡ length one = proceeds-length changes one two evens.proceeds in
          let here_found : change_at (Changed' here own p even q odd) k way ≡ Some item = sym (ap (λ r. change_at r k way) is) ∙ found in
          let in_the_end : get_or after k past ≡ get_or (changed changes after) k past → get_or after k past ≡ get_or (changed changes before) k past =
          λ there. there ∙ ap (λ items. get_or items k past) whole.same in
          elim (chosen (nat_eq k here) (Some own) (cond (nat_eq (way % 2) 0) (change_at even k (way / 2)) (change_at odd k (way / 2))) (Some item) here_found) [
            | inl own_place ↦
                let place_is : k ≡ here = is_same k here own_place.0 in
                let within : here < length before = omega (arith, inside, place_is) in
                let there : get_or one k past ≡ get_or (changed changes before) k past =
                ap (λ at. get_or one at past) place_is ∙ at_here past within ∙ ap (λ at. get_or (changed changes before) at past) (sym place_is) in
                in_the_end (proceeds-stays changes one after k past later (there ∙ sym (ap (λ items. get_or items k past) first.same)))
            | inr below ↦
                elim (chosen (nat_eq (way % 2) 0) (change_at even k (way / 2)) (change_at odd k (way / 2)) (Some item) below.1) [
                  | inl on_even ↦
                      let there : get_or two k past ≡ get_or (changed changes one) k past = evens.settled k (way / 2) item past (omega (arith, inside, same_length)) on_even.1 in
                      in_the_end (proceeds-stays changes two after k past odds.proceeds (there ∙ sym (ap (λ items. get_or items k past) evens.proceeds.same)))
                  | inr on_odd ↦
                      let there : get_or after k past ≡ get_or (changed changes two) k past = odds.settled k (way / 2) item past (omega (arith, inside, same_length, same_later)) on_odd.1 in
                      in_the_end (there ∙ sym (ap (λ items. get_or items k past) odds.proceeds.same))
                ]
          ];
    }

settled-at : {A : Type 0} (changes : Changes A) (before after : List A) (k : ℕ) (past : A) (found : Option A) → Settles changes changes before after → change_at changes k k ≡ found → k < length before →
    get_or after k past ≡ get_or (changed changes before) k past
settled-at changes before after k past None s is inside =
    s.proceeds.stays k past (sym (changed-kept changes before k past inside is))
settled-at changes before after k past (Some item) s is inside = s.settled k k item past inside is

empty : {A : Type 0} (items : List A) → length items ≡ 0 → items ≡ []
empty [] none = refl
empty (item ∷ items) none = absurd (omega (arith, none))

settled-list : {A : Type 0} (changes : Changes A) (before after : List A) → Settles changes changes before after → after ≡ changed changes before
settled-list changes [] after s =
    let long : length after ≡ 0 = proceeds-length changes [] after s.proceeds in
    empty after long ∙ sym (empty (changed changes []) (changed-length changes []))
settled-list changes (item ∷ items) after s =
    let long : length after ≡ length (item ∷ items) = proceeds-length changes (item ∷ items) after s.proceeds in
    ext_get_or item after (changed changes (item ∷ items)) (long ∙ sym (changed-length changes (item ∷ items)))
    (λ k within. settled-at changes (item ∷ items) after k item (change_at changes k k) s refl (omega (arith, within, long)))

-- a list in which all changes are settled
pub settled-all : {A : Type 0} (changes : Changes A) (base before after : List A) → before ≡ base → Settles changes changes before after → after ≡ changed changes base
settled-all changes base before after same s = settled-list changes before after s ∙ ap (changed changes) same

pub ruleset of_lengths = (changed-length)

pub ruleset of_none = (changed-none)

pub ruleset of_more = (changed-more)

pub ruleset of_one_settled = (proceeds-none, proceeds-set, set-settled, changed-kept)

pub ruleset of_settling = (settles-none, settles-changed)

pub ruleset of_settled = (settled-all)
