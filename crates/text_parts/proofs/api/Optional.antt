-- A part that may be absent, and what follows it.
use Rattle.std.proofs.Common.{◌≡◌, ℕ, Bool, true, false, cond, eqb, List, [], ◌∷◌, ◌++◌, Option, Some, None, Ok, Err, refl, sym, ap, ◌∙◌}
use Rattle.text_parts.specs.declared.due.DueKind.{DueKind}
use Rattle.text_parts.specs.Parts.{Taking, ◌>>=◌, choice_at, there, absent, in_order}
use Rattle.text_parts.specs.Exact.{Blocks, IsExact}

-- ---- parts that take the same are exact alike

alike_blocks : {A : Type 0} (taking other : List ℕ → Taking A) (taken : List ℕ) (kind : DueKind) (rest : List ℕ) → ((xs : List ℕ) → taking xs ≡ other xs) → Blocks other taken kind rest → Blocks taking taken kind rest
alike_blocks taking other taken kind [] same h = h
alike_blocks taking other taken kind (b ∷ rest) same h = λ more. same (taken ++ b ∷ more) ∙ h more

pub alike_exact : {A : Type 0} (Text : A → List ℕ → Type 0) (taking other : List ℕ → Taking A) → ((xs : List ℕ) → taking xs ≡ other xs) → IsExact Text other → IsExact Text taking
alike_exact Text taking other same exact = record {
  only = λ a text rest h. same (text ++ rest) ∙ exact.only a text rest h;
  found = λ bytes a rest e. exact.found bytes a rest (sym (same bytes) ∙ e);
  stops = λ bytes s e.
      let t = exact.stops bytes s (sym (same bytes) ∙ e) in
      record { taken = t.taken; rest = t.rest; parts = t.parts; place = t.place; due = same t.taken ∙ t.due; blocks = alike_blocks taking other t.taken s.kind t.rest same t.blocks };
  wants = λ bytes e. exact.wants bytes (sym (same bytes) ∙ e);
  some = exact.some;
}

pub there_next : {A B : Type 0} (part : List ℕ → Taking A) (next : Option A → List ℕ → Taking B) (bytes : List ℕ) → in_order (there part) next bytes ≡ in_order part (λ a. next (Some a)) bytes
there_next part next bytes = there_goes (part bytes) next
  where
    there_goes : {A B : Type 0} (r : Taking A) (next : Option A → List ℕ → Taking B) → ((r >>= λ x. Ok (Some x.0, x.1)) >>= λ x. next x.0 x.1) ≡ (r >>= λ x. next (Some x.0) x.1)
    there_goes (Ok x) next = refl
    there_goes (Err s) next = refl

branch : {A B : Type 0} (b : Bool) (x y : Taking A) (f : A × List ℕ → Taking B) → (cond b x y >>= f) ≡ cond b (x >>= f) (y >>= f)
branch true x y f = refl
branch false x y f = refl

pub choice_next : {A B : Type 0} (byte : ℕ) (part : List ℕ → Taking A) (next : Option A → List ℕ → Taking B) (bytes : List ℕ) → in_order (choice_at byte (there part) absent) next bytes ≡ choice_at byte (in_order part (λ a. next (Some a))) (next None) bytes
unfolding choice_at
choice_next byte part next [] = refl
choice_next {A} {B} byte part next (b ∷ bytes) =
    branch (eqb b byte) (there part (b ∷ bytes)) (absent (b ∷ bytes)) (λ x. next x.0 x.1)
    ∙ ap (λ (t : Taking B). cond (eqb b byte) t (next None (b ∷ bytes))) (there_next part next (b ∷ bytes))
