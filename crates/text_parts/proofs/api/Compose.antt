-- A part that takes exactly its texts, and parts in order.
use Rattle.std.proofs.Common.{◌≡◌, ℕ, suc, length, arith, List, [], ◌∷◌, ◌++◌, ◌⊎◌, inl, inr, Ok, Err, refl, sym, ap, subst, ◌∙◌, append_assoc}
use Rattle.text_parts.specs.declared.due.DueKind.{DueKind}
use Rattle.text_parts.specs.declared.due.DueKind.TheVariants.{End}
use Rattle.text_parts.specs.declared.stop.Stop.{Stop}
use Rattle.text_parts.specs.Parts.{Taking, ◌>>=◌, stopped, in_order}
use Rattle.text_parts.specs.Places.{Begins}
use Rattle.text_parts.specs.Exact.{Blocks, StopsAt, IsExact}

-- ---- one part after another

pub bind_ok : {A B : Type 0} (r : Taking A) (f : A × List ℕ → Taking B) (y : B × List ℕ) → (r >>= f) ≡ Ok y → (x : A × List ℕ) × (r ≡ Ok x) × (f x ≡ Ok y)
bind_ok (Ok x) f y e = (x, refl, e)
bind_ok (Err s) f y e = absurd cc

pub bind_err : {A B : Type 0} (r : Taking A) (f : A × List ℕ → Taking B) (s : Stop) → (r >>= f) ≡ Err s → (r ≡ Err s) ⊎ ((x : A × List ℕ) × (r ≡ Ok x) × (f x ≡ Err s))
bind_err (Ok x) f s e = inr (x, refl, e)
bind_err (Err t) f s e = inl cc

pub record Joined {A B : Type 0} (First : A → List ℕ → Type 0) (Second : A → B → List ℕ → Type 0) (b : B) (text : List ℕ) : Type 0 where
  pub value : A
  pub left : List ℕ
  pub right : List ℕ
  pub first : First value left
  pub second : Second value b right
  pub parts : text ≡ left ++ right

blocks_first : {A B : Type 0} (p : List ℕ → Taking A) (q : A → List ℕ → Taking B) (taken : List ℕ) (kind : DueKind) (rest : List ℕ) → Blocks p taken kind rest → Blocks (in_order p q) taken kind rest
blocks_first p q taken kind [] h = h
blocks_first {A} p q taken kind (b ∷ rest) h = λ more. ap (λ (r : Taking A). r >>= λ x. q x.0 x.1) (h more)

second_due : {A B : Type 0} (p : List ℕ → Taking A) (q : A → List ℕ → Taking B) (a : A) (prefix bytes : List ℕ) (t : Taking B) → ((more : List ℕ) → p (prefix ++ more) ≡ Ok (a, more)) → q a bytes ≡ t → in_order p q (prefix ++ bytes) ≡ t
second_due {A} p q a prefix bytes t goes h = ap (λ (r : Taking A). r >>= λ x. q x.0 x.1) (goes bytes) ∙ h

joined_wants : {A B : Type 0} (First : A → List ℕ → Type 0) (Second : A → B → List ℕ → Type 0) (p : List ℕ → Taking A) (q : A → List ℕ → Taking B)
    → IsExact First p → ((a : A) (t : List ℕ) → First a t → IsExact (Second a) (q a)) → (bytes : List ℕ) → in_order p q bytes ≡ Err (stopped End []) → Begins (Joined First Second) bytes
joined_wants {A} {B} First Second p q exact_p exact_q bytes e =
    elim (bind_err (p bytes) (λ x. q x.0 x.1) (stopped End []) e) [
      | inl h ↦
          let f = exact_p.wants bytes h in
          let g = (exact_q f.value (bytes ++ f.more) f.spells).some in
          record { value = g.value; more = f.more ++ g.more; spells = record { value = f.value; left = bytes ++ f.more; right = g.more; first = f.spells; second = g.spells; parts = sym (append_assoc bytes f.more g.more) } }
      | inr x ↦
          let f = exact_p.found bytes x.0.0 x.0.1 x.1 in
          let g = (exact_q x.0.0 f.text f.spells).wants x.0.1 x.2 in
          record { value = g.value; more = g.more; spells = record { value = x.0.0; left = f.text; right = x.0.1 ++ g.more; first = f.spells; second = g.spells; parts = ap (λ (t : List ℕ). t ++ g.more) f.parts ∙ append_assoc f.text x.0.1 g.more } }
    ]

joined_some : {A B : Type 0} (First : A → List ℕ → Type 0) (Second : A → B → List ℕ → Type 0) → Begins First [] → ((a : A) (t : List ℕ) → First a t → Begins (Second a) []) → Begins (Joined First Second) []
joined_some First Second f g =
    let h = g f.value f.more f.spells in
    record { value = h.value; more = f.more ++ h.more; spells = record { value = f.value; left = f.more; right = h.more; first = f.spells; second = h.spells; parts = refl } }

blocks_second : {A B : Type 0} (p : List ℕ → Taking A) (q : A → List ℕ → Taking B) (a : A) (prefix taken : List ℕ) (kind : DueKind) (rest : List ℕ) → ((more : List ℕ) → p (prefix ++ more) ≡ Ok (a, more)) → Blocks (q a) taken kind rest → Blocks (in_order p q) (prefix ++ taken) kind rest
blocks_second p q a prefix taken kind [] goes h = h
blocks_second {A} p q a prefix taken kind (b ∷ rest) goes h = λ more.
    ap (in_order p q) (append_assoc prefix taken (b ∷ more)) ∙ ap (λ (r : Taking A). r >>= λ x. q x.0 x.1) (goes (taken ++ b ∷ more)) ∙ h more

pub in_order_exact : {A B : Type 0} (First : A → List ℕ → Type 0) (Second : A → B → List ℕ → Type 0) (p : List ℕ → Taking A) (q : A → List ℕ → Taking B)
    → IsExact First p → ((a : A) (t : List ℕ) → First a t → IsExact (Second a) (q a)) → IsExact (Joined First Second) (in_order p q)
in_order_exact {A} {B} First Second p q exact_p exact_q =
    let k = λ (x : A × List ℕ). q x.0 x.1 in
    record {
      only = λ b text rest h.
          ap (in_order p q) (ap (λ (t : List ℕ). t ++ rest) h.parts ∙ append_assoc h.left h.right rest)
          ∙ ap (λ (r : Taking A). r >>= k) (exact_p.only h.value h.left (h.right ++ rest) h.first)
          ∙ (exact_q h.value h.left h.first).only b h.right rest h.second;
      found = λ bytes b rest e.
          let x = bind_ok (p bytes) k (b, rest) e in
          let f = exact_p.found bytes x.0.0 x.0.1 x.1 in
          let g = (exact_q x.0.0 f.text f.spells).found x.0.1 b rest x.2 in
          record {
            text = f.text ++ g.text;
            spells = record { value = x.0.0; left = f.text; right = g.text; first = f.spells; second = g.spells; parts = refl };
            parts = f.parts ∙ ap (λ (t : List ℕ). f.text ++ t) g.parts ∙ sym (append_assoc f.text g.text rest);
          };
      stops = λ bytes s e.
          elim (bind_err (p bytes) k s e) [
            | inl h ↦
                let t = exact_p.stops bytes s h in
                record { taken = t.taken; rest = t.rest; parts = t.parts; place = t.place; due = ap (λ (r : Taking A). r >>= k) t.due; blocks = blocks_first p q t.taken s.kind t.rest t.blocks }
            | inr x ↦
                let f = exact_p.found bytes x.0.0 x.0.1 x.1 in
                let t = (exact_q x.0.0 f.text f.spells).stops x.0.1 s x.2 in
                record {
                  taken = f.text ++ t.taken;
                  rest = t.rest;
                  parts = f.parts ∙ ap (λ (r : List ℕ). f.text ++ r) t.parts ∙ sym (append_assoc f.text t.taken t.rest);
                  place = t.place;
                  due = second_due p q x.0.0 f.text t.taken (Err (stopped End [])) (λ more. exact_p.only x.0.0 f.text more f.spells) t.due;
                  blocks = blocks_second p q x.0.0 f.text t.taken s.kind t.rest (λ more. exact_p.only x.0.0 f.text more f.spells) t.blocks;
                }
          ];
      wants = joined_wants First Second p q exact_p exact_q;
      some = joined_some First Second exact_p.some (λ a t h. (exact_q a t h).some);
    }

-- the value and the rest of a part that went well
pub ok_parts : {A : Type 0} (a b : A) (xs ys : List ℕ) → (let r : Taking A = Ok (a, xs) in let t : Taking A = Ok (b, ys) in r ≡ t) → (a ≡ b) × (xs ≡ ys)
ok_parts {A} a b xs ys e =
    let pairs : (A × List ℕ) = (a, xs) in
    let others : (A × List ℕ) = (b, ys) in
    let same : pairs ≡ others = cc in
    (ap (λ (p : A × List ℕ). p.0) same, ap (λ (p : A × List ℕ). p.1) same)

-- a value that takes nothing
pub done_exact : {B : Type 0} (v : B) → IsExact (λ b text. (b ≡ v) × (text ≡ [])) (λ bytes. Ok (v, bytes))
done_exact {B} v = record {
  only = λ b text rest h. rw (h.0, h.1) refl;
  found = λ bytes b rest e. let same = ok_parts v b bytes rest e in record { text = []; spells = (sym same.0, refl); parts = same.1 };
  stops = λ bytes s e. absurd cc;
  wants = λ bytes e. absurd cc;
  some = record { value = v; more = []; spells = (refl, refl) };
}

-- the same texts in other words
pub same_texts : {A : Type 0} (Text Other : A → List ℕ → Type 0) (taking : List ℕ → Taking A) → ((a : A) (text : List ℕ) → Text a text → Other a text) → ((a : A) (text : List ℕ) → Other a text → Text a text) → IsExact Text taking → IsExact Other taking
same_texts Text Other taking to from exact = record {
  only = λ a text rest h. exact.only a text rest (from a text h);
  found = λ bytes a rest e. let f = exact.found bytes a rest e in record { text = f.text; spells = to a f.text f.spells; parts = f.parts };
  stops = exact.stops;
  wants = λ bytes e. let g = exact.wants bytes e in record { value = g.value; more = g.more; spells = to g.value (bytes ++ g.more) g.spells };
  some = let g = exact.some in record { value = g.value; more = g.more; spells = to g.value g.more g.spells };
}

-- ---- where a part stops, by its first byte

-- no byte is left
pub stops_at_end : {A : Type 0} (taking : List ℕ → Taking A) (s : Stop) → stopped End [] ≡ s → taking [] ≡ Err (stopped End []) → StopsAt taking [] s
stops_at_end taking s same due = subst (StopsAt taking []) same (record { taken = []; rest = []; parts = refl; place = refl; due = due; blocks = refl })

-- the first byte isn't taken
pub stops_now : {A : Type 0} (taking : List ℕ → Taking A) (kind : DueKind) (b : ℕ) (bytes : List ℕ) (s : Stop) → stopped kind (b ∷ bytes) ≡ s → taking [] ≡ Err (stopped End []) → ((more : List ℕ) → taking (b ∷ more) ≡ Err (stopped kind (b ∷ more))) → StopsAt taking (b ∷ bytes) s
stops_now taking kind b bytes s same due h = subst (StopsAt taking (b ∷ bytes)) same (record { taken = []; rest = b ∷ bytes; parts = refl; place = refl; due = due; blocks = h })

blocks_later : {A : Type 0} (taking after : List ℕ → Taking A) (b : ℕ) (taken : List ℕ) (kind : DueKind) (rest : List ℕ) → ((more : List ℕ) → taking (b ∷ more) ≡ after more) → Blocks after taken kind rest → Blocks taking (b ∷ taken) kind rest
blocks_later taking after b taken kind [] goes h = h
blocks_later taking after b taken kind (c ∷ rest) goes h = λ more. goes (taken ++ c ∷ more) ∙ h more

-- the first byte is taken
pub stops_later : {A : Type 0} (taking after : List ℕ → Taking A) (b : ℕ) (bytes : List ℕ) (s : Stop) → ((more : List ℕ) → taking (b ∷ more) ≡ after more) → StopsAt after bytes s → StopsAt taking (b ∷ bytes) s
stops_later taking after b bytes s goes t = record {
  taken = b ∷ t.taken;
  rest = t.rest;
  parts = ap (λ (r : List ℕ). b ∷ r) t.parts;
  place = t.place;
  due = goes t.taken ∙ t.due;
  blocks = blocks_later taking after b t.taken s.kind t.rest goes t.blocks;
}

-- a stop at a byte is none at the end
pub not_at_end : (kind : DueKind) (b : ℕ) (bytes : List ℕ) → stopped kind (b ∷ bytes) ≡ stopped End [] → ⊥
not_at_end kind b bytes e = let left : suc (length bytes) ≡ 0 = ap (λ (s : Stop). s.left) e in omega arith
