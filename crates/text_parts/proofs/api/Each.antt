-- Items one after another take exactly their texts.
use Rattle.std.proofs.Common.{◌≡◌, ℕ, zero, suc, List, [], ◌∷◌, ◌++◌, length, Ok, refl, sym, ap, ◌∙◌, arith}
use Rattle.std.proofs.lemmas.List.{append-nil}
use Rattle.text_parts.specs.Parts.{Taking, each_at, in_order}
use Rattle.text_parts.specs.Exact.{IsExact}
use Rattle.text_parts.proofs.api.Compose.{Joined, in_order_exact, done_exact, same_texts}

-- the text of each item, by the number of those that follow it
abbrev pub EachText : {A : Type 0} → (ℕ → A → List ℕ → Type 0) → List A → List ℕ → Type 0
EachText Text [] text = text ≡ []
EachText Text (x ∷ xs) text = (s : List ℕ) × (t : List ℕ) × Text (length xs) x s × EachText Text xs t × (text ≡ s ++ t)

abbrev pub AreItems : {A : Type 0} → (ℕ → A → List ℕ → Type 0) → ℕ → List A → List ℕ → Type 0
AreItems Text n xs text = (length xs ≡ n) × EachText Text xs text

abbrev Ends : {A : Type 0} → A → List A → List A → List ℕ → Type 0
Ends x xs ys text = (ys ≡ x ∷ xs) × (text ≡ [])

abbrev More : {A : Type 0} → (ℕ → A → List ℕ → Type 0) → ℕ → List A → List ℕ → Type 0
More Text n = Joined (Text n) (λ x. Joined (AreItems Text n) (Ends x))

more_to : {A : Type 0} (Text : ℕ → A → List ℕ → Type 0) (n : ℕ) (xs : List A) (text : List ℕ) → More Text n xs text → AreItems Text (suc n) xs text
more_to Text n xs text h =
    let others = h.second in
    rw others.second.0 (ap suc others.first.0, (h.left, others.left, rw others.first.0 h.first, others.first.1, h.parts ∙ ap (λ (t : List ℕ). h.left ++ t) (others.parts ∙ ap (λ (t : List ℕ). others.left ++ t) others.second.1 ∙ append-nil others.left)))

more_from : {A : Type 0} (Text : ℕ → A → List ℕ → Type 0) (n : ℕ) (xs : List A) (text : List ℕ) → AreItems Text (suc n) xs text → More Text n xs text
more_from Text n [] text h = absurd (omega (arith, h.0))
more_from Text n (x ∷ xs) text h =
    let len : length xs ≡ n = omega (arith, h.0) in
    let e = h.1 in
    record {
      value = x;
      left = e.0;
      right = e.1;
      first = rw (← len) e.2;
      second = record { value = xs; left = e.1; right = []; first = (len, e.3); second = (refl, refl); parts = sym (append-nil e.1) };
      parts = e.4;
    }

none_to : {A : Type 0} (Text : ℕ → A → List ℕ → Type 0) (xs : List A) (text : List ℕ) → (let none : List A = [] in xs ≡ none) × (text ≡ []) → AreItems Text 0 xs text
none_to Text xs text h = rw h.0 (refl, h.1)

none_from : {A : Type 0} (Text : ℕ → A → List ℕ → Type 0) (xs : List A) (text : List ℕ) → AreItems Text 0 xs text → (let none : List A = [] in xs ≡ none) × (text ≡ [])
none_from Text [] text h = (refl, h.1)
none_from Text (x ∷ xs) text h = absurd (omega (arith, h.0))

pub each_exact : {A : Type 0} (Text : ℕ → A → List ℕ → Type 0) (item : ℕ → List ℕ → Taking A) → ((k : ℕ) → IsExact (Text k) (item k)) → (n : ℕ) → IsExact (AreItems Text n) (each_at item n)
unfolding each_at
each_exact {A} Text item exact zero = same_texts (λ xs text. (xs ≡ []) × (text ≡ [])) (AreItems Text 0) (each_at item 0) (none_to Text) (none_from Text) (done_exact [])
each_exact {A} Text item exact (suc n) =
    same_texts (More Text n) (AreItems Text (suc n)) (each_at item (suc n)) (more_to Text n) (more_from Text n)
    (in_order_exact (Text n) (λ x. Joined (AreItems Text n) (Ends x)) (item n) (λ x. in_order (each_at item n) (λ xs bytes. Ok (x ∷ xs, bytes))) (exact n)
    (λ x t h. in_order_exact (AreItems Text n) (Ends x) (each_at item n) (λ xs bytes. Ok (x ∷ xs, bytes)) (each_exact Text item exact n) (λ xs u g. done_exact (x ∷ xs))))
