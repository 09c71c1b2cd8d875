-- A part that may not begin with one byte takes exactly its other texts.
use Rattle.std.proofs.Common.{◌≡◌, ℕ, true, false, eqb, inl, inr, List, [], ◌∷◌, ◌++◌, Ok, Err, refl}
use Rattle.text_parts.specs.declared.due.DueKind.{DueKind}
use Rattle.text_parts.specs.declared.due.DueKind.TheVariants.{End}
use Rattle.text_parts.specs.declared.stop.Stop.{Stop}
use Rattle.text_parts.specs.Parts.{Taking, except_at, stopped}
use Rattle.text_parts.specs.Places.{Begins}
use Rattle.text_parts.specs.Exact.{Found, IsExact, StopsAt}
use Rattle.text_parts.proofs.api.Compose.{not_at_end, stops_at_end, stops_now}
use Rattle.text_parts.proofs.api.Choice.{FirstIs, IsOther, head_is, not_byte, stops_alike}
use Rattle.text_parts.proofs.api.Leaves.{chosen}
use Rattle.std.proofs.Common.{subst, ◌∙◌}

abbrev pub Except : {A : Type 0} → ℕ → (A → List ℕ → Type 0) → A → List ℕ → Type 0
Except byte Text a text = Text a text × FirstIs (IsOther byte) text

module _ {A : Type 0} (byte : ℕ) (kind : DueKind) (Text : A → List ℕ → Type 0) (part : List ℕ → Taking A) (exact : IsExact Text part) where
  passed : (b : ℕ) → eqb b byte ≡ false → (more : List ℕ) → except_at byte kind part (b ∷ more) ≡ part (b ∷ more)
  unfolding except_at
  passed b other more = rw other refl

  other_is : (b : ℕ) → eqb b byte ≡ false → IsOther byte b ≡ true
  other_is b other = rw other refl

  only : (a : A) (text rest : List ℕ) → Except byte Text a text → except_at byte kind part (text ++ rest) ≡ Ok (a, rest)
  only a [] rest h = absurd h.1
  only a (b ∷ text) rest h = passed b (not_byte byte b h.1) (text ++ rest) ∙ exact.only a (b ∷ text) rest h.0

  -- a text of the part is not empty
  found_first : (b : ℕ) (bytes text rest : List ℕ) (a : A) → eqb b byte ≡ false → Text a text → b ∷ bytes ≡ text ++ rest → ((a : A) → Text a [] → ⊥) → Except byte Text a text
  found_first b bytes [] rest a other h e none = absurd (none a h)
  found_first b bytes (c ∷ text) rest a other h e none = (h, subst (λ (x : ℕ). IsOther byte x ≡ true) (head_is b c bytes (text ++ rest) e) (other_is b other))

  found : ((a : A) → Text a [] → ⊥) → (bytes : List ℕ) (a : A) (rest : List ℕ) → except_at byte kind part bytes ≡ Ok (a, rest) → Found (Except byte Text) bytes a rest
  unfolding except_at
  found none [] a rest e = absurd cc
  found none (b ∷ bytes) a rest e =
      elim (chosen (eqb b byte) (Err (stopped kind (b ∷ bytes))) (part (b ∷ bytes)) _ e) [
        | inl h ↦ absurd (let f = h.1 in cc)
        | inr h ↦ let f = exact.found (b ∷ bytes) a rest h.1 in record { text = f.text; spells = found_first b bytes f.text rest a h.0 f.spells f.parts none; parts = f.parts }
      ]

  stops : (bytes : List ℕ) (s : Stop) → except_at byte kind part bytes ≡ Err s → StopsAt (except_at byte kind part) bytes s
  unfolding except_at
  stops [] s e = stops_at_end (except_at byte kind part) s (cc) refl
  stops (b ∷ bytes) s e =
      elim (chosen (eqb b byte) (Err (stopped kind (b ∷ bytes))) (part (b ∷ bytes)) _ e) [
        | inl h ↦ stops_now (except_at byte kind part) kind b bytes s (let f = h.1 in cc) refl (λ more. rw h.0 refl)
        | inr h ↦ stops_alike (except_at byte kind part) part b bytes s (λ more. rw h.0 refl) refl (exact.stops (b ∷ bytes) s h.1)
      ]

  wants : Begins (Except byte Text) [] → (bytes : List ℕ) → except_at byte kind part bytes ≡ Err (stopped End []) → Begins (Except byte Text) bytes
  unfolding except_at
  wants some [] e = some
  wants some (b ∷ bytes) e =
      elim (chosen (eqb b byte) (Err (stopped kind (b ∷ bytes))) (part (b ∷ bytes)) _ e) [
        | inl h ↦ absurd (not_at_end kind b bytes (let f = h.1 in cc))
        | inr h ↦ let g = exact.wants (b ∷ bytes) h.1 in record { value = g.value; more = g.more; spells = (g.spells, other_is b h.0) }
      ]

  -- where the part has no empty text, and some text that begins otherwise
  pub except_exact : ((a : A) → Text a [] → ⊥) → Begins (Except byte Text) [] → IsExact (Except byte Text) (except_at byte kind part)
  except_exact none some = record { only = only; found = found none; stops = stops; wants = wants some; some = some }
