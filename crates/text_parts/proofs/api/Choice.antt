-- Where the first byte picks one of two parts, they take exactly the texts of both.
use Rattle.std.proofs.Common.{◌≡◌, ℕ, Bool, true, false, cond, eqb, ◌⊎◌, inl, inr, List, [], ◌∷◌, ◌++◌, Ok, Err, refl, subst, ◌∙◌}
use Rattle.text_parts.specs.declared.due.DueKind.{DueKind}
use Rattle.text_parts.specs.declared.due.DueKind.TheVariants.{End}
use Rattle.text_parts.specs.declared.stop.Stop.{Stop}
use Rattle.text_parts.specs.Parts.{Taking, stopped, choice_at}
use Rattle.text_parts.specs.Places.{Begins}
use Rattle.text_parts.specs.Exact.{Blocks, StopsAt, Found, IsExact}
use Rattle.text_parts.proofs.api.Compose.{stops_at_end}
use Rattle.text_parts.proofs.api.Leaves.{chosen}

-- the text has a first byte, and it passes a test
abbrev pub FirstIs : (ℕ → Bool) → List ℕ → Type 0
FirstIs test [] = ⊥
FirstIs test (b ∷ text) = test b ≡ true

pub first_append : (test : ℕ → Bool) (xs ys : List ℕ) → FirstIs test xs → FirstIs test (xs ++ ys)
first_append test [] ys h = absurd h
first_append test (x ∷ xs) ys h = h

abbrev pub Either : {A : Type 0} → (A → List ℕ → Type 0) → (A → List ℕ → Type 0) → A → List ℕ → Type 0
Either This That a text = This a text ⊎ That a text

pub head_is : (a b : ℕ) (xs ys : List ℕ) → a ∷ xs ≡ b ∷ ys → a ≡ b
head_is a b xs ys e = cc

-- two parts that agree on what begins with a byte stop alike there
as_blocks : {A : Type 0} (taking other : List ℕ → Taking A) (c : ℕ) (bytes taken : List ℕ) (kind : DueKind) (rest : List ℕ) → ((xs : List ℕ) → taking (c ∷ xs) ≡ other (c ∷ xs)) → c ∷ bytes ≡ taken ++ rest → Blocks other taken kind rest → Blocks taking taken kind rest
as_blocks taking other c bytes taken kind [] same parts h = h
as_blocks {A} taking other c bytes [] kind (b ∷ rest) same parts h = λ more.
    let is : c ≡ b = head_is c b bytes rest parts in
    subst (λ (x : ℕ). taking (x ∷ more) ≡ other (x ∷ more)) is (same more) ∙ h more
as_blocks {A} taking other c bytes (x ∷ taken) kind (b ∷ rest) same parts h = λ more.
    let is : c ≡ x = head_is c x bytes (taken ++ b ∷ rest) parts in
    subst (λ (y : ℕ). taking (y ∷ (taken ++ b ∷ more)) ≡ other (y ∷ (taken ++ b ∷ more))) is (same (taken ++ b ∷ more)) ∙ h more

as_due : {A : Type 0} (taking other : List ℕ → Taking A) (c : ℕ) (bytes taken rest : List ℕ) → ((xs : List ℕ) → taking (c ∷ xs) ≡ other (c ∷ xs)) → taking [] ≡ Err (stopped End []) → c ∷ bytes ≡ taken ++ rest → other taken ≡ Err (stopped End []) → taking taken ≡ Err (stopped End [])
as_due taking other c bytes [] rest same none parts h = none
as_due taking other c bytes (x ∷ taken) rest same none parts h =
    let is : c ≡ x = head_is c x bytes (taken ++ rest) parts in
    subst (λ (y : ℕ). taking (y ∷ taken) ≡ other (y ∷ taken)) is (same taken) ∙ h

pub stops_alike : {A : Type 0} (taking other : List ℕ → Taking A) (c : ℕ) (bytes : List ℕ) (s : Stop) → ((xs : List ℕ) → taking (c ∷ xs) ≡ other (c ∷ xs)) → taking [] ≡ Err (stopped End []) → StopsAt other (c ∷ bytes) s → StopsAt taking (c ∷ bytes) s
stops_alike taking other c bytes s same none t = record {
  taken = t.taken;
  rest = t.rest;
  parts = t.parts;
  place = t.place;
  due = as_due taking other c bytes t.taken t.rest same none t.parts t.due;
  blocks = as_blocks taking other c bytes t.taken s.kind t.rest same t.parts t.blocks;
}

picked : {A : Type 0} (byte : ℕ) (this that : List ℕ → Taking A) (c : ℕ) → eqb c byte ≡ true → (xs : List ℕ) → choice_at byte this that (c ∷ xs) ≡ this (c ∷ xs)
unfolding choice_at
picked byte this that c is xs = rw is refl

passed : {A : Type 0} (byte : ℕ) (this that : List ℕ → Taking A) (c : ℕ) → eqb c byte ≡ false → (xs : List ℕ) → choice_at byte this that (c ∷ xs) ≡ that (c ∷ xs)
unfolding choice_at
passed byte this that c is xs = rw is refl

none_left : {A : Type 0} (byte : ℕ) (this that : List ℕ → Taking A) → choice_at byte this that [] ≡ Err (stopped End [])
unfolding choice_at
none_left byte this that = refl

-- which part takes what begins with a byte
abbrev pub IsOther : ℕ → ℕ → Bool
IsOther byte c = cond (eqb c byte) false true

pub not_byte : (byte c : ℕ) → IsOther byte c ≡ true → eqb c byte ≡ false
not_byte byte c e = elim (chosen (eqb c byte) false true true e) [ inl h ↦ absurd (let f = h.1 in cc) | inr h ↦ h.0 ]

choice_only : {A : Type 0} (byte : ℕ) (This That : A → List ℕ → Type 0) (this that : List ℕ → Taking A) → IsExact This this → IsExact That that
    → ((a : A) (t : List ℕ) → This a t → FirstIs (λ c. eqb c byte) t) → ((a : A) (t : List ℕ) → That a t → FirstIs (IsOther byte) t)
    → (a : A) (text rest : List ℕ) → Either This That a text → choice_at byte this that (text ++ rest) ≡ Ok (a, rest)
choice_only byte This That this that exact_this exact_that begins_this begins_that a [] rest (inl h) = absurd (begins_this a [] h)
choice_only byte This That this that exact_this exact_that begins_this begins_that a (b ∷ text) rest (inl h) =
    picked byte this that b (begins_this a (b ∷ text) h) (text ++ rest) ∙ exact_this.only a (b ∷ text) rest h
choice_only byte This That this that exact_this exact_that begins_this begins_that a [] rest (inr h) = absurd (begins_that a [] h)
choice_only byte This That this that exact_this exact_that begins_this begins_that a (b ∷ text) rest (inr h) =
    passed byte this that b (not_byte byte b (begins_that a (b ∷ text) h)) (text ++ rest) ∙ exact_that.only a (b ∷ text) rest h

choice_found : {A : Type 0} (byte : ℕ) (This That : A → List ℕ → Type 0) (this that : List ℕ → Taking A) → IsExact This this → IsExact That that
    → (bytes : List ℕ) (a : A) (rest : List ℕ) → choice_at byte this that bytes ≡ Ok (a, rest) → Found (Either This That) bytes a rest
unfolding choice_at
choice_found byte This That this that exact_this exact_that [] a rest e = absurd cc
choice_found byte This That this that exact_this exact_that (b ∷ bytes) a rest e =
    elim (chosen (eqb b byte) (this (b ∷ bytes)) (that (b ∷ bytes)) _ e) [
      | inl h ↦ let f = exact_this.found (b ∷ bytes) a rest h.1 in record { text = f.text; spells = inl f.spells; parts = f.parts }
      | inr h ↦ let f = exact_that.found (b ∷ bytes) a rest h.1 in record { text = f.text; spells = inr f.spells; parts = f.parts }
    ]

choice_stops : {A : Type 0} (byte : ℕ) (This That : A → List ℕ → Type 0) (this that : List ℕ → Taking A) → IsExact This this → IsExact That that
    → (bytes : List ℕ) (s : Stop) → choice_at byte this that bytes ≡ Err s → StopsAt (choice_at byte this that) bytes s
unfolding choice_at
choice_stops byte This That this that exact_this exact_that [] s e = stops_at_end (choice_at byte this that) s (cc) (none_left byte this that)
choice_stops byte This That this that exact_this exact_that (b ∷ bytes) s e =
    elim (chosen (eqb b byte) (this (b ∷ bytes)) (that (b ∷ bytes)) _ e) [
      | inl h ↦ stops_alike (choice_at byte this that) this b bytes s (picked byte this that b h.0) (none_left byte this that) (exact_this.stops (b ∷ bytes) s h.1)
      | inr h ↦ stops_alike (choice_at byte this that) that b bytes s (passed byte this that b h.0) (none_left byte this that) (exact_that.stops (b ∷ bytes) s h.1)
    ]

choice_wants : {A : Type 0} (byte : ℕ) (This That : A → List ℕ → Type 0) (this that : List ℕ → Taking A) → IsExact This this → IsExact That that
    → (bytes : List ℕ) → choice_at byte this that bytes ≡ Err (stopped End []) → Begins (Either This That) bytes
unfolding choice_at
choice_wants byte This That this that exact_this exact_that [] e = let g = exact_this.some in record { value = g.value; more = g.more; spells = inl g.spells }
choice_wants byte This That this that exact_this exact_that (b ∷ bytes) e =
    elim (chosen (eqb b byte) (this (b ∷ bytes)) (that (b ∷ bytes)) _ e) [
      | inl h ↦ let g = exact_this.wants (b ∷ bytes) h.1 in record { value = g.value; more = g.more; spells = inl g.spells }
      | inr h ↦ let g = exact_that.wants (b ∷ bytes) h.1 in record { value = g.value; more = g.more; spells = inr g.spells }
    ]

pub choice_exact : {A : Type 0} (byte : ℕ) (This That : A → List ℕ → Type 0) (this that : List ℕ → Taking A) → IsExact This this → IsExact That that
    → ((a : A) (t : List ℕ) → This a t → FirstIs (λ c. eqb c byte) t) → ((a : A) (t : List ℕ) → That a t → FirstIs (IsOther byte) t)
    → IsExact (Either This That) (choice_at byte this that)
choice_exact byte This That this that exact_this exact_that begins_this begins_that = record {
  only = choice_only byte This That this that exact_this exact_that begins_this begins_that;
  found = choice_found byte This That this that exact_this exact_that;
  stops = choice_stops byte This That this that exact_this exact_that;
  wants = choice_wants byte This That this that exact_this exact_that;
  some = let g = exact_this.some in record { value = g.value; more = g.more; spells = inl g.spells };
}
