-- A format by rows: each part is exact with its texts spelled by the value, and so are rows of parts.
use Rattle.std.proofs.Common.{Ok, Err, ◌≡◌, ℕ, Bool, true, false, cond, eqb, inl, inr, List, [], ◌∷◌, ◌++◌, Option, Some, None, refl, sym, ap, subst, ◌∙◌, decimal, ◌<◌, length}
use Rattle.std.specs.Prelude.{IfSome}
use Rattle.text_parts.specs.declared.due.DueKind.{DueKind}
use Rattle.text_parts.specs.declared.rule.Rule.{Rule}
use Rattle.text_parts.specs.Rules.{after}
use Rattle.text_parts.specs.Parts.{Taking, word_at, decimal_at, counted_bytes_at, each_at, choice_at, there, absent, in_order, given_at, ◌>>=◌}
use Rattle.text_parts.specs.Exact.{IsCounted, IsDecimal, IsExact, IsSound, IsWord}
use Rattle.text_parts.proofs.api.Compose.{Joined, in_order_exact, done_exact, same_texts}
use Rattle.text_parts.proofs.api.Leaves.{counted_bytes_exact, word_exact}
use Rattle.text_parts.proofs.api.Decimals.{decimal_exact}
use Rattle.text_parts.proofs.api.Choice.{Either, FirstIs, IsOther, choice_exact, first_append}
use Rattle.text_parts.proofs.api.Each.{AreItems, EachText, each_exact}
use Rattle.text_parts.proofs.api.Optional.{alike_exact, choice_next, there_next}

-- The text is spelled by the value and a way to spell it, where both are good. A part that leaves nothing open has one way.
pub record Spelled {W A : Type 0} (good : W → A → Type 0) (spell : W → A → List ℕ) (a : A) (text : List ℕ) : Type 0 where
  pub way : W
  pub holds : good way a
  pub parts : text ≡ spell way a

-- the same texts, with what is good and how it is spelled in other words
pub said : {V W A : Type 0} {good : V → A → Type 0} {spell : V → A → List ℕ} {also : W → A → Type 0} {says : W → A → List ℕ} {taking : List ℕ → Taking A}
    → ((v : V) (a : A) → good v a → (w : W) × also w a × (spell v a ≡ says w a)) → ((w : W) (a : A) → also w a → (v : V) × good v a × (says w a ≡ spell v a))
    → IsExact (Spelled good spell) taking → IsExact (Spelled also says) taking
said {V} {W} {A} {good} {spell} {also} {says} {taking} to from exact = same_texts (Spelled good spell) (Spelled also says) taking
    (λ a text h. let t = to h.way a h.holds in record { way = t.0; holds = t.1; parts = h.parts ∙ t.2 })
    (λ a text h. let t = from h.way a h.holds in record { way = t.0; holds = t.1; parts = h.parts ∙ t.2 })
    exact

-- a part whose texts are a relation: the text is the way to spell the value
pub as_row : {A : Type 0} {Text : A → List ℕ → Type 0} {taking : List ℕ → Taking A} → IsExact Text taking → IsExact (Spelled (λ t a. Text a t) (λ t a. t)) taking
as_row {A} {Text} {taking} exact = same_texts Text (Spelled (λ t a. Text a t) (λ t a. t)) taking
    (λ a text h. record { way = text; holds = h; parts = refl })
    (λ a text h. subst (Text a) (sym h.parts) h.holds)
    exact

-- nothing is left to take
pub made_row : {A : Type 0} (a : A) → IsExact (Spelled (λ (w : Unit {0}) b. b ≡ a) (λ w b. [])) (given_at a)
made_row {A} a = same_texts (λ b text. (b ≡ a) × (text ≡ [])) (Spelled (λ (w : Unit {0}) b. b ≡ a) (λ w b. [])) (given_at a)
    (λ b text h. record { way = tt; holds = h.0; parts = h.1 })
    (λ b text h. (h.holds, h.parts))
    (done_exact a)

-- a word by itself
pub lone_word_row : (kind : DueKind) (word : List ℕ) → IsExact (Spelled (λ (w : Unit {0}) (u : Unit {0}). Unit {0}) (λ w u. word)) (word_at kind word)
lone_word_row kind word = same_texts (IsWord word) (Spelled (λ (w : Unit {0}) (u : Unit {0}). Unit {0}) (λ w u. word)) (word_at kind word)
    (λ u text h. record { way = tt; holds = tt; parts = h })
    (λ u text h. h.parts)
    (word_exact kind word)

-- a word, and the rows after it
pub word_row : {W A : Type 0} {good : W → A → Type 0} {spell : W → A → List ℕ} {next : List ℕ → Taking A} (kind : DueKind) (word : List ℕ)
    → IsExact (Spelled good spell) next → IsExact (Spelled good (λ w a. word ++ spell w a)) (in_order (word_at kind word) (λ u. next))
word_row {W} {A} {good} {spell} {next} kind word exact = same_texts (Joined (IsWord word) (λ u. Spelled good spell)) (Spelled good (λ w a. word ++ spell w a)) (in_order (word_at kind word) (λ u. next))
    (λ a text h. record { way = h.second.way; holds = h.second.holds; parts = rw (h.parts, h.first, h.second.parts) refl })
    (λ a text h. record { value = tt; left = word; right = spell h.way a; first = refl; second = record { way = h.way; holds = h.holds; parts = refl }; parts = h.parts })
    (in_order_exact (IsWord word) (λ u. Spelled good spell) (word_at kind word) (λ u. next) (word_exact kind word) (λ u t h. exact))

-- a part that a piece of the value spells, and the rows after it
pub part_row : {V W A C : Type 0} {good : V → A → Type 0} {spell : V → A → List ℕ} {fits : A → W → C → Type 0} {says : A → W → C → List ℕ} {part : List ℕ → Taking A} {next : A → List ℕ → Taking C}
    (piece : C → A) → IsExact (Spelled good spell) part → ((a : A) (v : V) → good v a → IsExact (Spelled (fits a) (says a)) (next a)) → ((a : A) (v : V) (w : W) (c : C) → good v a → fits a w c → piece c ≡ a)
    → IsExact (Spelled (λ (w : V × W) c. good w.0 (piece c) × fits (piece c) w.1 c) (λ w c. spell w.0 (piece c) ++ says (piece c) w.1 c)) (in_order part next)
part_row {V} {W} {A} {C} {good} {spell} {fits} {says} {part} {next} piece exact exact_next is_piece = same_texts (Joined (Spelled good spell) Next) Rows (in_order part next)
    (λ c text h.
    let g = h.first in
    let k = h.second in
    let same = sym (is_piece h.value g.way k.way c g.holds k.holds) in
    record {
      way = (g.way, k.way);
      holds = (subst (good g.way) same g.holds, subst (λ (a : A). fits a k.way c) same k.holds);
      parts = rw (h.parts, g.parts, k.parts) (ap (λ (a : A). spell g.way a ++ says a k.way c) same);
    })
    (λ c text h. record {
      value = piece c;
      left = spell h.way.0 (piece c);
      right = says (piece c) h.way.1 c;
      first = record { way = h.way.0; holds = h.holds.0; parts = refl };
      second = record { way = h.way.1; holds = h.holds.1; parts = refl };
      parts = h.parts;
    })
    (in_order_exact (Spelled good spell) Next part next exact (λ a t h. exact_next a h.way h.holds))
  where
    Next : A → C → List ℕ → Type 0
    Next a = Spelled (fits a) (says a)

    Rows : C → List ℕ → Type 0
    Rows = Spelled (λ (w : V × W) c. good w.0 (piece c) × fits (piece c) w.1 c) (λ w c. spell w.0 (piece c) ++ says (piece c) w.1 c)

-- any part, and the rows after it: its value is a part of the way
pub any_row : {V W A C : Type 0} {good : V → A → Type 0} {spell : V → A → List ℕ} {fits : A → W → C → Type 0} {says : A → W → C → List ℕ} {part : List ℕ → Taking A} {next : A → List ℕ → Taking C}
    → IsExact (Spelled good spell) part → ((a : A) (v : V) → good v a → IsExact (Spelled (fits a) (says a)) (next a))
    → IsExact (Spelled (λ (w : A × V × W) c. good w.1 w.0 × fits w.0 w.2 c) (λ w c. spell w.1 w.0 ++ says w.0 w.2 c)) (in_order part next)
any_row {V} {W} {A} {C} {good} {spell} {fits} {says} {part} {next} exact exact_next = same_texts (Joined (Spelled good spell) (λ a. Spelled (fits a) (says a))) (Spelled (λ (w : A × V × W) c. good w.1 w.0 × fits w.0 w.2 c) (λ w c. spell w.1 w.0 ++ says w.0 w.2 c)) (in_order part next)
    (λ c text h. record { way = (h.value, h.first.way, h.second.way); holds = (h.first.holds, h.second.holds); parts = rw (h.parts, h.first.parts, h.second.parts) refl })
    (λ c text h. record {
      value = h.way.0;
      left = spell h.way.1 h.way.0;
      right = says h.way.0 h.way.2 c;
      first = record { way = h.way.1; holds = h.holds.0; parts = refl };
      second = record { way = h.way.2; holds = h.holds.1; parts = refl };
      parts = h.parts;
    })
    (in_order_exact (Spelled good spell) (λ a. Spelled (fits a) (says a)) part next exact (λ a t h. exact_next a h.way h.holds))

-- a decimal
pub decimal_row : (rule : Rule) → IsSound rule → IsExact (Spelled (λ (w : Unit {0}) n. n < rule.limit) (λ w n. decimal n ++ after rule n ∷ [])) (decimal_at rule)
decimal_row rule sound = same_texts (IsDecimal rule) (Spelled (λ (w : Unit {0}) n. n < rule.limit) (λ w n. decimal n ++ after rule n ∷ [])) (decimal_at rule)
    (λ n text h. record { way = tt; holds = h.0; parts = h.1 })
    (λ n text h. (h.holds, h.parts))
    (decimal_exact rule sound)

-- counted bytes
pub counted_bytes_row : (n : ℕ) → IsExact (Spelled (λ (w : Unit {0}) bytes. length bytes ≡ n) (λ w bytes. bytes)) (counted_bytes_at n)
counted_bytes_row n = same_texts (IsCounted n) (Spelled (λ (w : Unit {0}) bytes. length bytes ≡ n) (λ w bytes. bytes)) (counted_bytes_at n)
    (λ bytes text h. record { way = tt; holds = h.0; parts = h.1 })
    (λ bytes text h. (h.holds, h.parts))
    (counted_bytes_exact n)

-- ---- a decimal after which one byte comes, whatever the number

same_both : (b : Bool) (x : ℕ) → cond b x x ≡ x
same_both true x = refl
same_both false x = refl

abbrev pub IsNumber : ℕ → ℕ → ℕ → List ℕ → Type 0
IsNumber limit close = Spelled (λ (w : Unit {0}) n. n < limit) (λ w n. decimal n ++ close ∷ [])

pub number_row : (rule : Rule) (close : ℕ) → IsSound rule → rule.after_zero ≡ close → rule.after_other ≡ close → IsExact (IsNumber rule.limit close) (decimal_at rule)
number_row rule close sound at_zero other =
    let same : (n : ℕ) → after rule n ≡ close = λ n. rw (at_zero, other) (same_both (eqb n 0) close) in
    said (λ v n h. (tt, h, ap (λ (b : ℕ). decimal n ++ b ∷ []) (same n))) (λ w n h. (tt, h, ap (λ (b : ℕ). decimal n ++ b ∷ []) (sym (same n)))) (decimal_row rule sound)

-- ---- items one after another, each by the number of those that follow it

module _ {A : Type 0} (spell : ℕ → A → List ℕ) (texts : List A → List ℕ) (none : texts [] ≡ []) (more : (x : A) (xs : List A) → texts (x ∷ xs) ≡ spell (length xs) x ++ texts xs) where
  abbrev Item : ℕ → A → List ℕ → Type 0
  Item k = Spelled (λ (w : Unit {0}) x. Unit {0}) (λ w. spell k)

  items_to : (xs : List A) (text : List ℕ) → EachText Item xs text → text ≡ texts xs
  items_to [] text h = h ∙ sym none
  items_to (x ∷ xs) text h = rw (h.4, h.2.parts, items_to xs h.1 h.3) (sym (more x xs))

  items_from : (xs : List A) (text : List ℕ) → text ≡ texts xs → EachText Item xs text
  items_from [] text e = e ∙ none
  items_from (x ∷ xs) text e = (spell (length xs) x, texts xs, record { way = tt; holds = tt; parts = refl }, items_from xs (texts xs) refl, e ∙ more x xs)

  pub each_row : (item : ℕ → List ℕ → Taking A) → ((k : ℕ) → IsExact (Item k) (item k)) → (n : ℕ) → IsExact (Spelled (λ (w : Unit {0}) xs. length xs ≡ n) (λ w. texts)) (each_at item n)
  each_row item exact n = same_texts (AreItems Item n) (Spelled (λ (w : Unit {0}) xs. length xs ≡ n) (λ w. texts)) (each_at item n)
      (λ xs text h. record { way = tt; holds = h.0; parts = items_to xs text h.1 })
      (λ xs text h. (h.holds, items_from xs text h.parts))
      (each_exact Item item exact n)

-- ---- a part that may be absent, and the rows after it

-- a text that begins with a part that may be absent
pub optional_first : {A : Type 0} (test : ℕ → Bool) (texts : Option A → List ℕ) (rest : List ℕ) → texts None ≡ [] → ((a : A) → FirstIs test (texts (Some a))) → FirstIs test rest → (o : Option A) → FirstIs test (texts o ++ rest)
optional_first test texts rest none some h None = subst (λ (t : List ℕ). FirstIs test (t ++ rest)) (sym none) h
optional_first test texts rest none some h (Some a) = first_append test (texts (Some a)) rest (some a)

module _ {V W A C : Type 0} {good : V → A → Type 0} {spell : V → A → List ℕ} {fits : Option A → W → C → Type 0} {says : Option A → W → C → List ℕ} {part : List ℕ → Taking A} {next : Option A → List ℕ → Taking C}
    (piece : C → Option A) (texts : V → Option A → List ℕ) (none : (v : V) → texts v None ≡ []) (some : (v : V) (a : A) → texts v (Some a) ≡ spell v a)
    (exact : IsExact (Spelled good spell) part) (exact_next : (o : Option A) → IsExact (Spelled (fits o) (says o)) (next o)) (is_piece : (o : Option A) (w : W) (c : C) → fits o w c → piece c ≡ o) where
  -- the rows, where the option is allowed
  abbrev OptionRows : (Option A → Type 0) → C → List ℕ → Type 0
  OptionRows allowed = Spelled (λ (w : V × W) c. allowed (piece c) × IfSome (piece c) (good w.0) × fits (piece c) w.1 c) (λ w c. texts w.0 (piece c) ++ says (piece c) w.1 c)

  abbrev Absent : C → List ℕ → Type 0
  Absent = Spelled (fits None) (says None)

  abbrev There : C → List ℕ → Type 0
  There = Joined (Spelled good spell) (λ a. Spelled (fits (Some a)) (says (Some a)))

  absent_to : (allowed : Option A → Type 0) → allowed None → (c : C) (text : List ℕ) → Absent c text → OptionRows allowed c text
  absent_to allowed may c text h =
      let v = exact.some.spells.way in
      let same : None ≡ piece c = sym (is_piece None h.way c h.holds) in
      record {
        way = (v, h.way);
        holds = (subst allowed same may, subst (λ (o : Option A). IfSome o (good v)) same tt, subst (λ (o : Option A). fits o h.way c) same h.holds);
        parts = h.parts ∙ ap (λ (t : List ℕ). t ++ says None h.way c) (sym (none v)) ∙ ap (λ (o : Option A). texts v o ++ says o h.way c) same;
      }

  there_to : (allowed : Option A → Type 0) → ((a : A) → allowed (Some a)) → (c : C) (text : List ℕ) → There c text → OptionRows allowed c text
  there_to allowed may c text h =
      let a = h.value in
      let v = h.first.way in
      let w = h.second.way in
      let same : Some a ≡ piece c = sym (is_piece (Some a) w c h.second.holds) in
      record {
        way = (v, w);
        holds = (subst allowed same (may a), subst (λ (o : Option A). IfSome o (good v)) same h.first.holds, subst (λ (o : Option A). fits o w c) same h.second.holds);
        parts = rw (h.parts, h.first.parts, h.second.parts) (ap (λ (t : List ℕ). t ++ says (Some a) w c) (sym (some v a)) ∙ ap (λ (o : Option A). texts v o ++ says o w c) same);
      }

  one_of : (o : Option A) (v : V) (w : W) (c : C) (text : List ℕ) → IfSome o (good v) → fits o w c → text ≡ texts v o ++ says o w c → Either There Absent c text
  one_of None v w c text g f e = inr (record { way = w; holds = f; parts = e ∙ ap (λ (t : List ℕ). t ++ says None w c) (none v) })
  one_of (Some a) v w c text g f e = inl (record {
    value = a;
    left = texts v (Some a);
    right = says (Some a) w c;
    first = record { way = v; holds = g; parts = some v a };
    second = record { way = w; holds = f; parts = refl };
    parts = e;
  })

  either_from : (allowed : Option A → Type 0) (c : C) (text : List ℕ) → OptionRows allowed c text → Either There Absent c text
  either_from allowed c text h = one_of (piece c) h.way.0 h.way.1 c text h.holds.1 h.holds.2 h.parts

  there_exact : IsExact There (in_order (there part) next)
  there_exact = alike_exact There (in_order (there part) next) (in_order part (λ a. next (Some a))) (there_next part next)
      (in_order_exact (Spelled good spell) (λ a. Spelled (fits (Some a)) (says (Some a))) part (λ a. next (Some a)) exact (λ a t h. exact_next (Some a)))

  -- it is never there
  pub absent_row : (allowed : Option A → Type 0) → allowed None → ((a : A) → allowed (Some a) → ⊥) → IsExact (OptionRows allowed) (in_order absent next)
  absent_row allowed may never = same_texts Absent (OptionRows allowed) (in_order absent next) (absent_to allowed may)
      (λ c text h. elim (either_from allowed c text h) [
        | inl t ↦ absurd (never t.value (subst allowed (is_piece (Some t.value) t.second.way c t.second.holds) h.holds.0))
        | inr n ↦ n
      ])
      (exact_next None)

  -- it is always there
  pub there_row : (allowed : Option A → Type 0) → (allowed None → ⊥) → ((a : A) → allowed (Some a)) → IsExact (OptionRows allowed) (in_order (there part) next)
  there_row allowed never may = same_texts There (OptionRows allowed) (in_order (there part) next) (there_to allowed may)
      (λ c text h. elim (either_from allowed c text h) [
        | inl t ↦ t
        | inr n ↦ absurd (never (subst allowed (is_piece None n.way c n.holds) h.holds.0))
      ])
      there_exact

  -- its first byte says that it is there
  pub optional_row : (allowed : Option A → Type 0) → ((o : Option A) → allowed o) → (byte : ℕ) → ((v : V) (a : A) → FirstIs (λ b. eqb b byte) (spell v a)) → ((w : W) (c : C) → fits None w c → FirstIs (IsOther byte) (says None w c))
      → IsExact (OptionRows allowed) (in_order (choice_at byte (there part) absent) next)
  optional_row allowed may byte begins other = same_texts (Either There Absent) (OptionRows allowed) (in_order (choice_at byte (there part) absent) next)
      (λ c text h. elim h [ inl t ↦ there_to allowed (λ a. may (Some a)) c text t | inr n ↦ absent_to allowed (may None) c text n ])
      (either_from allowed)
      (alike_exact (Either There Absent) (in_order (choice_at byte (there part) absent) next) (choice_at byte (in_order part (λ a. next (Some a))) (next None)) (choice_next byte part next)
      (choice_exact byte There Absent (in_order part (λ a. next (Some a))) (next None)
      (in_order_exact (Spelled good spell) (λ a. Spelled (fits (Some a)) (says (Some a))) part (λ a. next (Some a)) exact (λ a t h. exact_next (Some a)))
      (exact_next None)
      (λ c t h. subst (FirstIs (λ b. eqb b byte)) (sym (h.parts ∙ ap (λ (x : List ℕ). x ++ h.right) h.first.parts)) (first_append (λ b. eqb b byte) (spell h.first.way h.value) h.right (begins h.first.way h.value)))
      (λ c t h. subst (FirstIs (IsOther byte)) (sym h.parts) (other h.way c h.holds))))

-- parts in order, grouped the other way
pub grouped : {A B C : Type 0} (p : List ℕ → Taking A) (q : A → List ℕ → Taking B) (r : B → List ℕ → Taking C) (bytes : List ℕ) → in_order (in_order p q) r bytes ≡ in_order p (λ a. in_order (q a) r) bytes
grouped {A} {B} {C} p q r bytes = by_first (p bytes) where
  by_first : (t : Taking A) → ((t >>= λ x. q x.0 x.1) >>= λ y. r y.0 y.1) ≡ (t >>= λ x. (q x.0 x.1 >>= λ y. r y.0 y.1))
  by_first (Ok x) = refl
  by_first (Err s) = refl
