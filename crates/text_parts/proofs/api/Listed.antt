-- Items, each of which begins with one byte, and then a last word: they take exactly their texts, as a loop does.
use Rattle.std.proofs.Common.{◌≡◌, ℕ, zero, suc, ◌-◌, ◌≤◌, Bool, true, false, cond, eqb, inl, inr, List, [], ◌∷◌, ◌++◌, length, Result, Ok, Err, refl, sym, ap, ◌∙◌, arith}
use Rattle.std.proofs.lemmas.List.{append-nil}
use Rattle.text_parts.specs.declared.due.DueKind.{DueKind}
use Rattle.text_parts.specs.declared.stop.Stop.{Stop}
use Rattle.text_parts.specs.declared.stop.ReadError.{ReadError}
use Rattle.text_parts.specs.declared.stop.ReadError.TheVariants as errors
use Rattle.text_parts.specs.Parts.{Fails, Taking, choice_at, follows, given_at, in_order, listed_at, word_at}
use Rattle.text_parts.specs.Exact.{IsExact}
use Rattle.text_parts.specs.Listed.{AreListed}
use Rattle.text_parts.proofs.api.Compose.{Joined, done_exact, in_order_exact, same_texts}
use Rattle.text_parts.proofs.api.Choice.{Either, FirstIs, IsOther, choice_exact, first_append}
use Rattle.text_parts.proofs.api.Loops.{regroup, with_prefix}
use Rattle.text_parts.proofs.api.Rows.{Spelled, made_row, word_row}
use Rattle.std.proofs.Common.{subst}

module _ {A : Type 0} (byte : ℕ) (Text : A → List ℕ → Type 0) (item : List ℕ → Taking A) (kind : DueKind) (last : List ℕ) where
  abbrev pub AreUpTo : ℕ → List A → List ℕ → Type 0
  AreUpTo most items text = (length items ≤ most) × AreListed Text last items text

  -- an item, and at most this many more
  abbrev pub More : ℕ → List A → List ℕ → Type 0
  More most items text = (a : A) × (others : List A) × (items ≡ a ∷ others) × (s : List ℕ) × (t : List ℕ) × Text a s × AreUpTo most others t × (text ≡ s ++ t)

  abbrev pub more_at : ℕ → List ℕ → Taking (List A)
  more_at most = in_order item (λ a. in_order (listed_at byte item (word_at kind last) most) (λ others. given_at (a ∷ others)))

  abbrev Ended : List A → List ℕ → Type 0
  Ended = Spelled (λ (w : Unit {0}) items. items ≡ []) (λ w items. last ++ [])

  ended_exact : IsExact Ended (in_order (word_at kind last) (λ u. given_at []))
  ended_exact = word_row kind last (made_row [])

  ended_to : (most : ℕ) (items : List A) (text : List ℕ) → Ended items text → AreUpTo most items text
  ended_to most items text h = rw h.holds (omega arith, h.parts ∙ append-nil last)

  ended_from : (text : List ℕ) → text ≡ last → Ended [] text
  ended_from text e = record { way = tt; holds = refl; parts = e ∙ sym (append-nil last) }

  more_from : (most : ℕ) (items : List A) (text : List ℕ) → AreUpTo (suc most) items text → Either (More most) Ended items text
  more_from most [] text h = inr (ended_from text h.1)
  more_from most (a ∷ others) text h = let e = h.1 in inl (a, others, refl, e.0, e.1, e.2, (omega (arith, h.0), e.3), e.4)

  none_from : (items : List A) (text : List ℕ) → AreUpTo 0 items text → Ended items text
  none_from [] text h = ended_from text h.1
  none_from (a ∷ others) text h = absurd (omega (arith, h.0))

  -- an item that is exact, and those after it
  pub item_step : IsExact Text item → (most : ℕ) → IsExact (AreUpTo most) (listed_at byte item (word_at kind last) most) → IsExact (More most) (more_at most)
  item_step exact most exact_others = same_texts _ (More most) (more_at most)
      (λ items text h.
      let k = h.second in
      (h.value, k.value, k.second.0, h.left, k.left, h.first, k.first, h.parts ∙ ap (λ (t : List ℕ). h.left ++ t) (k.parts ∙ ap (λ (t : List ℕ). k.left ++ t) k.second.1 ∙ append-nil k.left)))
      (λ items text h. record {
        value = h.0;
        left = h.3;
        right = h.4;
        first = h.5;
        second = record { value = h.1; left = h.4; right = []; first = h.6; second = (h.2, refl); parts = sym (append-nil h.4) };
        parts = h.7;
      })
      (in_order_exact Text (λ a. Joined (AreUpTo most) (λ others items text. (items ≡ a ∷ others) × (text ≡ []))) item (λ a. in_order (listed_at byte item (word_at kind last) most) (λ others. given_at (a ∷ others))) exact
      (λ a s h. in_order_exact (AreUpTo most) (λ others items text. (items ≡ a ∷ others) × (text ≡ [])) (listed_at byte item (word_at kind last) most) (λ others. given_at (a ∷ others)) exact_others (λ others t k. done_exact (a ∷ others))))

  pub listed_exact : FirstIs (IsOther byte) last → ((a : A) (s : List ℕ) → Text a s → FirstIs (λ b. eqb b byte) s)
      → ((most : ℕ) → IsExact (AreUpTo most) (listed_at byte item (word_at kind last) most) → IsExact (More most) (more_at most))
      → (most : ℕ) → IsExact (AreUpTo most) (listed_at byte item (word_at kind last) most)
  unfolding listed_at
  listed_exact other begins step zero = same_texts Ended (AreUpTo 0) (listed_at byte item (word_at kind last) 0) (ended_to 0) none_from ended_exact
  listed_exact other begins step (suc most) = same_texts (Either (More most) Ended) (AreUpTo (suc most)) (listed_at byte item (word_at kind last) (suc most))
      (λ items text h. elim h [
        | inl m ↦ rw m.2 (let few = m.6.0 in omega arith, (m.3, m.4, m.5, m.6.1, m.7))
        | inr e ↦ ended_to (suc most) items text e
      ])
      (more_from most)
      (choice_exact byte (More most) Ended (more_at most) (in_order (word_at kind last) (λ u. given_at []))
      (step most (listed_exact other begins step most))
      ended_exact
      (λ items t m. subst (FirstIs (λ b. eqb b byte)) (sym m.7) (first_append (λ b. eqb b byte) m.3 m.4 (begins m.0 m.3 m.5)))
      (λ items t e. subst (FirstIs (IsOther byte)) (sym e.parts) (first_append (IsOther byte) last [] other)))

-- ---- as a loop takes them

module _ {A : Type 0} (byte : ℕ) (item : List ℕ → Taking A) (last : List ℕ → Taking (Unit {0})) where
  abbrev listed : ℕ → List ℕ → Taking (List A)
  listed = listed_at byte item last

  -- what is taken, by whether an item follows
  by_test : Result Bool Stop → ℕ → List ℕ → Taking (List A)
  by_test (Ok true) left rest = in_order item (λ a. in_order (listed (left - 1)) (λ others. given_at (a ∷ others))) rest
  by_test (Ok false) left rest = in_order last (λ u. given_at []) rest
  by_test (Err s) left rest = Err s

  listed_is : (left : ℕ) (rest : List ℕ) → listed left rest ≡ by_test (follows byte left rest) left rest
  unfolding listed_at choice_at by_test
  listed_is zero rest = refl
  listed_is (suc left) [] = refl
  listed_is (suc left) (b ∷ rest) = by_byte (eqb b byte) left (omega arith)
    where
      by_byte : (c : Bool) (k : ℕ) → suc k - 1 ≡ k → cond c (in_order item (λ a. in_order (listed k) (λ others. given_at (a ∷ others))) (b ∷ rest)) (in_order last (λ u. given_at []) (b ∷ rest)) ≡ by_test (Ok c) (suc k) (b ∷ rest)
      by_byte true k e = rw e refl
      by_byte false k e = refl

  carried : (e : ReadError) (prefix : List A) (taking total : Taking (List A)) → with_prefix prefix taking ≡ total → Fails e taking → Fails e total
  carried errors.Memory prefix taking total so_far h = tt
  carried (errors.Stopped s) prefix taking total so_far h = sym so_far ∙ ap (with_prefix prefix) h

  item_stops : (e : ReadError) (left : ℕ) (rest : List ℕ) → follows byte left rest ≡ Ok true → Fails e (item rest) → Fails e (listed left rest)
  unfolding by_test
  item_stops errors.Memory left rest f h = tt
  item_stops (errors.Stopped s) left rest f h = rw (listed_is left rest, f, h) refl

  last_stops : (e : ReadError) (left : ℕ) (rest : List ℕ) → follows byte left rest ≡ Ok false → Fails e (last rest) → Fails e (listed left rest)
  unfolding by_test
  last_stops errors.Memory left rest f h = tt
  last_stops (errors.Stopped s) left rest f h = rw (listed_is left rest, f, h) refl

  test_stops : (e : ReadError) (left : ℕ) (rest : List ℕ) → Fails e (follows byte left rest) → Fails e (listed left rest)
  unfolding by_test
  test_stops errors.Memory left rest f = tt
  test_stops (errors.Stopped s) left rest f = rw (listed_is left rest, f) refl

  pub item_goes_on : (prefix : List A) (left : ℕ) (rest : List ℕ) (a : A) (after : List ℕ) (total : Taking (List A)) → follows byte left rest ≡ Ok true → item rest ≡ Ok (a, after)
      → with_prefix prefix (listed left rest) ≡ total → with_prefix (prefix ++ a ∷ []) (listed (left - 1) after) ≡ total
  unfolding by_test
  item_goes_on prefix left rest a after total f h so_far = sym (rw (listed_is left rest, f, h) (regroup prefix a (listed (left - 1) after))) ∙ so_far

  pub item_fails : (e : ReadError) (prefix : List A) (left : ℕ) (rest : List ℕ) (total : Taking (List A)) → follows byte left rest ≡ Ok true → Fails e (item rest) → with_prefix prefix (listed left rest) ≡ total → Fails e total
  item_fails e prefix left rest total f h so_far = carried e prefix (listed left rest) total so_far (item_stops e left rest f h)

  pub test_fails : (e : ReadError) (prefix : List A) (left : ℕ) (rest : List ℕ) (total : Taking (List A)) → Fails e (follows byte left rest) → with_prefix prefix (listed left rest) ≡ total → Fails e total
  test_fails e prefix left rest total f so_far = carried e prefix (listed left rest) total so_far (test_stops e left rest f)

  pub last_fails : (e : ReadError) (prefix : List A) (left : ℕ) (rest : List ℕ) (total : Taking (List A)) → follows byte left rest ≡ Ok false → Fails e (last rest) → with_prefix prefix (listed left rest) ≡ total → Fails e total
  last_fails e prefix left rest total f h so_far = carried e prefix (listed left rest) total so_far (last_stops e left rest f h)

  pub last_taken : (prefix : List A) (left : ℕ) (rest after : List ℕ) (total : Taking (List A)) → follows byte left rest ≡ Ok false → last rest ≡ Ok (tt, after) → with_prefix prefix (listed left rest) ≡ total → total ≡ Ok (prefix, after)
  unfolding by_test
  last_taken prefix left rest after total f h so_far = sym so_far ∙ rw (listed_is left rest, f, h) (ap (λ (items : List A). Ok (items, after)) (append-nil prefix))
