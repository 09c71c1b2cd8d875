-- A part that takes all of the bytes: what it gives is spelled, what is spelled it gives, and where it is refused.
use Rattle.std.proofs.Common.{◌≡◌, ℕ, zero, suc, ◌-◌, ◌+◌, ◌<◌, ◌≤◌, ◌⊎◌, inl, inr, List, [], ◌∷◌, ◌++◌, length, take, Result, Ok, Err, refl, sym, ap, subst, ◌∙◌, append_assoc, arith}
use Rattle.std.proofs.lemmas.List.{append-nil, length-append, take_at}
use Rattle.text_parts.specs.declared.due.DueKind.{DueKind}
use Rattle.text_parts.specs.declared.due.DueKind.TheVariants.{Rest}
use Rattle.text_parts.specs.declared.stop.Stop.{Stop}
use Rattle.text_parts.specs.declared.stop.ReadError.{ReadError}
use Rattle.text_parts.specs.declared.stop.ReadError.TheVariants as errors
use Rattle.text_parts.specs.Parts.{Fails, Taking, at_end, stopped}
use Rattle.text_parts.specs.Places.{Begins, IsPlace}
use Rattle.text_parts.specs.Exact.{Blocks, IsExact}

ok_is : {A : Type 0} (a b : A) → (let x : Result A Stop = Ok a in let y : Result A Stop = Ok b in x ≡ y) → a ≡ b
ok_is a b e = cc

-- a part that went well, with nothing after it
ended : {A : Type 0} (taking : Taking A) (a : A) → at_end taking ≡ Ok a → taking ≡ Ok (a, [])
ended {A} (Ok (b, [])) a e = ap (λ (x : A). Ok (x, [])) (ok_is b a e)
ended (Ok (b, c ∷ bytes)) a e = absurd cc
ended (Err s) a e = absurd cc

end_stops : {A : Type 0} (taking : Taking A) (s : Stop) → at_end taking ≡ Err s → (taking ≡ Err s) ⊎ ((a : A) × (b : ℕ) × (rest : List ℕ) × (taking ≡ Ok (a, b ∷ rest)) × (s ≡ stopped Rest (b ∷ rest)))
end_stops (Ok (a, [])) s e = absurd cc
end_stops (Ok (a, b ∷ bytes)) s e = inr (a, b, bytes, refl, cc)
end_stops (Err t) s e = inl cc

-- after a part that went well, all ends where nothing is left
pub end_taken : {A : Type 0} (taking : Taking A) (a : A) (rest : List ℕ) (u : Unit {0}) → taking ≡ Ok (a, rest) → at_end {A = Unit {0}} (Ok (tt, rest)) ≡ Ok u → at_end taking ≡ Ok a
end_taken taking a [] u e h = rw e refl
end_taken taking a (b ∷ rest) u e h = absurd cc

pub end_fails : {A : Type 0} (error : ReadError) (taking : Taking A) (a : A) (rest : List ℕ) → taking ≡ Ok (a, rest) → Fails error (at_end {A = Unit {0}} (Ok (tt, rest))) → Fails error (at_end taking)
end_fails errors.Memory taking a rest e h = tt
end_fails (errors.Stopped s) taking a [] e h = absurd cc
end_fails {A} (errors.Stopped s) taking a (b ∷ rest) e h = let same : stopped Rest (b ∷ rest) ≡ s = cc in rw e (ap (λ (t : Stop). Err t) same)

pub whole_found : {A : Type 0} (Text : A → List ℕ → Type 0) (taking : List ℕ → Taking A) → IsExact Text taking → (bytes : List ℕ) (a : A) → at_end (taking bytes) ≡ Ok a → Text a bytes
whole_found Text taking exact bytes a e =
    let f = exact.found bytes a [] (ended (taking bytes) a e) in
    subst (Text a) (sym (f.parts ∙ append-nil f.text)) f.spells

pub whole_only : {A : Type 0} (Text : A → List ℕ → Type 0) (taking : List ℕ → Taking A) → IsExact Text taking → (bytes : List ℕ) (a : A) → Text a bytes → at_end (taking bytes) ≡ Ok a
whole_only Text taking exact bytes a h = ap at_end (ap taking (sym (append-nil bytes)) ∙ exact.only a bytes [] h)

-- a text is that of one value
pub whole_one : {A : Type 0} (Text : A → List ℕ → Type 0) (taking : List ℕ → Taking A) → IsExact Text taking → (bytes : List ℕ) (a b : A) → Text a bytes → Text b bytes → a ≡ b
whole_one Text taking exact bytes a b h k = ok_is a b (sym (whole_only Text taking exact bytes a h) ∙ whole_only Text taking exact bytes b k)

-- a part that went well in all of the bytes has nothing after it
nothing_after : {A : Type 0} (a b : A) (more : List ℕ) → at_end (Ok (a, more)) ≡ Ok b → more ≡ []
nothing_after a b [] e = refl
nothing_after a b (c ∷ more) e = absurd cc

-- no text begins another
pub whole_alone : {A : Type 0} (Text : A → List ℕ → Type 0) (taking : List ℕ → Taking A) → IsExact Text taking → (text more : List ℕ) (a b : A) → Text a text → Text b (text ++ more) → more ≡ []
whole_alone Text taking exact text more a b h k = nothing_after a b more (ap at_end (sym (exact.only a text more h)) ∙ whole_only Text taking exact (text ++ more) b k)

-- ---- the place of a stop

-- more of a list than its first part
take_past : (xs : List ℕ) (b : ℕ) (ys : List ℕ) (n : ℕ) → length xs < n → (k : ℕ) × (take n (xs ++ b ∷ ys) ≡ xs ++ b ∷ take k ys)
take_past xs b ys zero lt = absurd (omega arith)
take_past [] b ys (suc n) lt = (n, refl)
take_past (x ∷ xs) b ys (suc n) lt = let h = take_past xs b ys n (omega arith) in (h.0, ap (λ (t : List ℕ). x ∷ t) h.1)

-- no text goes on with this byte
nothing_longer : {A : Type 0} (Text : A → List ℕ → Type 0) (prefix : List ℕ) (b : ℕ) (rest : List ℕ) → ((more : List ℕ) (a : A) → Text a (prefix ++ b ∷ more) → ⊥) → (n : ℕ) → length prefix < n → Begins Text (take n (prefix ++ b ∷ rest)) → ⊥
nothing_longer Text prefix b rest none n lt h =
    let cut = take_past prefix b rest n lt in
    let whole : take n (prefix ++ b ∷ rest) ++ h.more ≡ prefix ++ b ∷ (take cut.0 rest ++ h.more) = ap (λ (t : List ℕ). t ++ h.more) cut.1 ∙ append_assoc prefix (b ∷ take cut.0 rest) h.more in
    none (take cut.0 rest ++ h.more) h.value (subst (Text h.value) whole h.spells)

place_at : {A : Type 0} (Text : A → List ℕ → Type 0) (prefix rest : List ℕ) → Begins Text prefix → ((n : ℕ) → length prefix < n → n ≤ length (prefix ++ rest) → Begins Text (take n (prefix ++ rest)) → ⊥) → IsPlace Text (prefix ++ rest) (length prefix)
place_at Text prefix rest begins longest = record {
  within = omega (arith, length-append prefix rest);
  begins = rw (take_at prefix rest (length prefix) refl) begins;
  longest = longest;
}

blocked : {A : Type 0} (Text : A → List ℕ → Type 0) (taking : List ℕ → Taking A) → IsExact Text taking → (prefix : List ℕ) (kind : DueKind) (rest : List ℕ) → Blocks taking prefix kind rest → (n : ℕ) → length prefix < n → n ≤ length (prefix ++ rest) → Begins Text (take n (prefix ++ rest)) → ⊥
blocked Text taking exact prefix kind [] h n lt le begins = omega (arith, ap length (append-nil prefix))
blocked {A} Text taking exact prefix kind (b ∷ rest) h n lt le begins =
    nothing_longer Text prefix b rest (λ more a spelled.
    let stop : at_end (taking (prefix ++ b ∷ more)) ≡ Err (stopped kind (b ∷ more)) = ap at_end (h more) in
    let both = sym stop ∙ whole_only Text taking exact (prefix ++ b ∷ more) a spelled in cc) n lt begins

pub stop_place : {A : Type 0} (Text : A → List ℕ → Type 0) (taking : List ℕ → Taking A) → IsExact Text taking → (bytes : List ℕ) (s : Stop) → at_end (taking bytes) ≡ Err s → (s.left ≤ length bytes) × IsPlace Text bytes (length bytes - s.left)
stop_place {A} Text taking exact bytes s e =
    elim (end_stops (taking bytes) s e) [
      | inl h ↦
          let t = exact.stops bytes s h in
          let g = exact.wants t.taken t.due in
          let begins : Begins Text t.taken = record { value = g.value; more = g.more; spells = g.spells } in
          let left : s.left ≡ length t.rest = ap (λ (x : Stop). x.left) t.place in
          let len : length bytes ≡ length t.taken + length t.rest = ap length t.parts ∙ length-append t.taken t.rest in
          let place : length t.taken ≡ length bytes - s.left = omega arith in
          (omega arith, subst (λ (n : ℕ). IsPlace Text bytes n) place (subst (λ (bs : List ℕ). IsPlace Text bs (length t.taken)) (sym t.parts) (place_at Text t.taken t.rest begins (blocked Text taking exact t.taken s.kind t.rest t.blocks))))
      | inr h ↦
          let f = exact.found bytes h.0 (h.1 ∷ h.2) h.3 in
          let begins : Begins Text f.text = record { value = h.0; more = []; spells = rw append-nil f.spells } in
          let left : s.left ≡ length (h.1 ∷ h.2) = ap (λ (x : Stop). x.left) h.4 in
          let len : length bytes ≡ length f.text + length (h.1 ∷ h.2) = ap length f.parts ∙ length-append f.text (h.1 ∷ h.2) in
          let place : length f.text ≡ length bytes - s.left = omega arith in
          let none = λ (more : List ℕ) (a : A) (g : Text a (f.text ++ h.1 ∷ more)).
          let rest : at_end (taking (f.text ++ h.1 ∷ more)) ≡ Err (stopped Rest (h.1 ∷ more)) = ap at_end (exact.only h.0 f.text (h.1 ∷ more) f.spells) in
          let both = sym rest ∙ whole_only Text taking exact (f.text ++ h.1 ∷ more) a g in absurd cc in
          (omega arith, subst (λ (n : ℕ). IsPlace Text bytes n) place (subst (λ (bs : List ℕ). IsPlace Text bs (length f.text)) (sym f.parts) (place_at Text f.text (h.1 ∷ h.2) begins (λ n lt le b. nothing_longer Text f.text h.1 h.2 none n lt b))))
    ]
