-- One more coefficient that is read, and what the coefficients of a spelling are.
use Rattle.std.proofs.Common.{◌≡◌, ℕ, ◌+◌, ◌*◌, ◌<◌, ◌≤◌, List, [], ◌∷◌, ◌++◌, length, take, drop, zero, suc, sym, ◌∙◌, ap, subst, append_assoc, append-nil, length-append, arith, inl, inr, ◌⊎◌}
use Rattle.std.specs.List.{flat_map}
use Rattle.std.proofs.Math.Seq.{take-add, take-append_seam, drop-append-add}
use Rattle.std.proofs.lemmas.List.{take_all}
use Rattle.std.proofs.lemmas.List.Concat.{flat_map-cons}
use Rattle.std.proofs.lemmas.Grind.{flat_map-append}
use Rattle.std.proofs.lemmas.Nat.{from_le_bytes-to_le_bytes_4}
use Rattle.field_ext.specs.Field.{K, prime}
use Rattle.field_ext.specs.Bytes.{bytes_of, real_half, imaginary_half}
use Rattle.proof_wire.specs.declared.form.ProofForm.{ProofForm}
use Rattle.proof_wire.specs.Forms.{magic}
use Rattle.proof_wire.specs.Trouble.{InRange, BeginWith, Opens, element_at}
use Rattle.field_ext.proofs.api.ElementBytes.{below_word}

pub prefix_none : (form : ProofForm) (bytes : List ℕ) → 4 ≤ length bytes → Opens form bytes → BeginWith form [] bytes
prefix_none form bytes h o = record { spelled = o ∙ take_all (length bytes) (magic form) h; good = λ i u. absurd (omega (arith, u)) }

pub last_or_before : (i n : ℕ) → i < n + 1 → (i < n) ⊎ (n ≡ i)
last_or_before i n h = grind arith

pub prefix_more : (form : ProofForm) (es : List K) (x : K) (bytes : List ℕ) → InRange bytes (length es) → bytes_of x ≡ element_at bytes (length es) → BeginWith form es bytes → BeginWith form (es ++ x ∷ []) bytes
prefix_more form es x bytes r e f = record {
  spelled = ap (λ n. take n bytes) (ap (λ n. 4 + 8 * n) (length-append es (x ∷ [])) ∙ omega arith)
      ∙ take-add (4 + 8 * length es) 8 bytes
      ∙ ap (λ ys. ys ++ element_at bytes (length es)) f.spelled
      ∙ ap (λ ys. (magic form ++ flat_map bytes_of es) ++ ys) (sym e)
      ∙ append_assoc (magic form) (flat_map bytes_of es) (bytes_of x)
      ∙ ap (λ ys. magic form ++ ys) (ap (λ ys. flat_map bytes_of es ++ ys) (sym (append-nil (bytes_of x))) ∙ sym (flat_map-append bytes_of es (x ∷ [])));
  good = λ i u. elim (last_or_before i (length es) (subst (λ n. i < n) (length-append es (x ∷ [])) u)) [ inl h ↦ f.good i h | inr h ↦ subst (InRange bytes) h r ];
}

-- the eight bytes at a place are those of an element
piece : (xs : List K) (i : ℕ) → i < length xs → (x : K) × (take 8 (drop (8 * i) (flat_map bytes_of xs)) ≡ bytes_of x)
piece [] i h = absurd (omega (arith, h))
piece (x ∷ xs) zero h = (x, ap (take 8) (flat_map-cons bytes_of x xs) ∙ take-append_seam (bytes_of x) (flat_map bytes_of xs))
piece (x ∷ xs) (suc i) h =
    let p = piece xs i (omega (arith, h)) in (
      p.0,
      ap (λ n. take 8 (drop n (flat_map bytes_of (x ∷ xs)))) (omega arith)
          ∙ ap (λ ys. take 8 (drop (8 + 8 * i) ys)) (flat_map-cons bytes_of x xs)
          ∙ ap (take 8) (drop-append-add (bytes_of x) (flat_map bytes_of xs) (8 * i)) ∙ p.1,
    )

pub spelled_in_range : (form : ProofForm) (xs : List K) (i : ℕ) → i < length xs → InRange (magic form ++ flat_map bytes_of xs) i
spelled_in_range form xs i h =
    let p = piece xs i h in
    let e : element_at (magic form ++ flat_map bytes_of xs) i ≡ bytes_of p.0 = ap (take 8) (drop-append-add (magic form) (flat_map bytes_of xs) (8 * i)) ∙ p.1 in
    record {
      real = subst (λ n. n < prime) (sym (ap real_half e ∙ from_le_bytes-to_le_bytes_4 p.0.re.value (below_word p.0.re.value p.0.re.below))) p.0.re.below;
      imaginary = subst (λ n. n < prime) (sym (ap imaginary_half e ∙ from_le_bytes-to_le_bytes_4 p.0.im.value (below_word p.0.im.value p.0.im.below))) p.0.im.below;
    }
