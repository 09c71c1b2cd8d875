-- One more coefficient that is read, and what the coefficients of a spelling are.
use Rattle.std.proofs.Common.{◌≡◌, ℕ, ◌+◌, ◌*◌, ◌<◌, ◌≤◌, List, [], ◌∷◌, ◌++◌, length, take, sym, ◌∙◌, ap, subst, append_assoc, append-nil, length-append, arith, inl, inr}
use Rattle.std.specs.List.{flat_map}
use Rattle.std.proofs.Math.Seq.{take-add, drop-append-add}
use Rattle.std.proofs.lemmas.List.{take_all}
use Rattle.std.proofs.lemmas.Grind.{flat_map-append}
use Rattle.field_ext.specs.Field.{K, prime}
use Rattle.field_ext.specs.Bytes.{bytes_of, real_half, imaginary_half}
use Rattle.proof_wire.specs.declared.form.ProofForm.TheVariants.{Line}
use Rattle.proof_wire.specs.Forms.{magic}
use Rattle.proof_wire.specs.Trouble.{InRange, element_at}
use Rattle.proof_wire.proofs.api.Reading.{spelled_in_range}
use Rattle.proof_two.specs.Spelling.{magic_two}
use Rattle.proof_two.specs.Trouble.{BeginWithTwo, OpensTwo}
use Rattle.proof_wire.proofs.api.Reading.{last_or_before}

pub front_none : (bytes : List ℕ) → 4 ≤ length bytes → OpensTwo bytes → BeginWithTwo [] bytes
front_none bytes h o = record { spelled = o ∙ take_all (length bytes) magic_two h; good = λ i u. absurd (omega (arith, u)) }

pub front_more : (es : List K) (x : K) (bytes : List ℕ) → InRange bytes (length es) → bytes_of x ≡ element_at bytes (length es) → BeginWithTwo es bytes → BeginWithTwo (es ++ x ∷ []) bytes
front_more es x bytes r e f = record {
  spelled = ap (λ n. take n bytes) (ap (λ n. 4 + 8 * n) (length-append es (x ∷ [])) ∙ omega arith)
      ∙ take-add (4 + 8 * length es) 8 bytes
      ∙ ap (λ ys. ys ++ element_at bytes (length es)) f.spelled
      ∙ ap (λ ys. (magic_two ++ flat_map bytes_of es) ++ ys) (sym e)
      ∙ append_assoc magic_two (flat_map bytes_of es) (bytes_of x)
      ∙ ap (λ ys. magic_two ++ ys) (ap (λ ys. flat_map bytes_of es ++ ys) (sym (append-nil (bytes_of x))) ∙ sym (flat_map-append bytes_of es (x ∷ [])));
  good = λ i u. elim (last_or_before i (length es) (subst (λ n. i < n) (length-append es (x ∷ [])) u)) [ inl h ↦ f.good i h | inr h ↦ subst (InRange bytes) h r ];
}

-- the coefficients are at the same bytes in both versions
same_place : (ys : List ℕ) (i : ℕ) → element_at (magic Line ++ ys) i ≡ element_at (magic_two ++ ys) i
same_place ys i = ap (take 8) (drop-append-add (magic Line) ys (8 * i) ∙ sym (drop-append-add magic_two ys (8 * i)))

pub spelled_in_range_two : (xs : List K) (i : ℕ) → i < length xs → InRange (magic_two ++ flat_map bytes_of xs) i
spelled_in_range_two xs i h =
    let one = spelled_in_range Line xs i h in
    let e = same_place (flat_map bytes_of xs) i in
    record {
      real = subst (λ (ys : List ℕ). real_half ys < prime) e one.real;
      imaginary = subst (λ (ys : List ℕ). imaginary_half ys < prime) e one.imaginary;
    }
