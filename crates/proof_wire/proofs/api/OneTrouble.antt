-- Bytes have at most one first trouble.
use Rattle.std.proofs.Common.{◌≡◌, ℕ, ◌+◌, ◌*◌, ◌<◌, ◌⊎◌, inl, inr, List, length, get_or, take, sym, ◌∙◌, ap, arith}
use Rattle.std.proofs.lemmas.List.{get_or-take}
use Rattle.proof_wire.specs.declared.refused.BadProof.{BadProof}
use Rattle.proof_wire.specs.declared.refused.BadProof.TheVariants.{Magic, Short, Range, Long}
use Rattle.proof_wire.specs.declared.form.ProofForm.{ProofForm}
use Rattle.proof_wire.specs.Forms.{magic}
use Rattle.proof_wire.specs.Trouble.{Foreign, EndsEarly, OutOfRange, GoesOn, Opens, TroubleIs}

pub order : (i j : ℕ) → (i < j) ⊎ ((j < i) ⊎ (i ≡ j))
order i j = grind arith

pub alike : (xs ys : List ℕ) (m n i : ℕ) → take m xs ≡ take n ys → i < m → i < n → get_or xs i 0 ≡ get_or ys i 0
alike xs ys m n i e h k = sym (get_or-take m xs i 0 h) ∙ ap (λ zs. get_or zs i 0) e ∙ get_or-take n ys i 0 k

pub same_short : (a b c d : ℕ) → a ≡ c → b ≡ d → Short a b ≡ Short c d
same_short a b c d e f = cc (e, f)

module _ (form : ProofForm) where
  opened : (bytes : List ℕ) (at : ℕ) → Opens form bytes → Foreign form bytes at → ⊥
  opened bytes at o f = f.differs (alike bytes (magic form) 4 (length bytes) at o f.early f.there)

  later_foreign : (bytes : List ℕ) (at next : ℕ) → Foreign form bytes at → Foreign form bytes next → at < next → ⊥
  later_foreign bytes at next f g h = f.differs (alike bytes (magic form) next next at g.before h h)

  one_foreign : (bytes : List ℕ) (at next : ℕ) → Foreign form bytes at → Foreign form bytes next → at ≡ next
  one_foreign bytes at next f g = elim (order at next) [ inl h ↦ absurd (later_foreign bytes at next f g h) | inr s ↦ elim s [ inl h ↦ absurd (later_foreign bytes next at g f h) | inr e ↦ e ] ]

  one_range : (ks bytes : List ℕ) (at next : ℕ) → OutOfRange form ks bytes at → OutOfRange form ks bytes next → at ≡ next
  one_range ks bytes at next f g = elim (order f.index g.index) [ inl h ↦ absurd (f.bad (g.good f.index h)) | inr s ↦ elim s [ inl h ↦ absurd (g.bad (f.good g.index h)) | inr e ↦ f.place ∙ ap (λ n. 4 + 8 * n) e ∙ sym g.place ] ]

  short_range : (ks bytes : List ℕ) (at need next : ℕ) → EndsEarly form ks bytes at need → OutOfRange form ks bytes next → ⊥
  short_range ks bytes at need next f g = g.bad (f.good g.index g.there)

  short_long : (ks bytes : List ℕ) (at need extra : ℕ) → EndsEarly form ks bytes at need → GoesOn form ks bytes extra → ⊥
  short_long ks bytes at need extra f g = omega (arith, f.at_end, f.whole, f.early, g.after)

  range_long : (ks bytes : List ℕ) (at extra : ℕ) → OutOfRange form ks bytes at → GoesOn form ks bytes extra → ⊥
  range_long ks bytes at extra f g = f.bad (g.good f.index f.among)

  pub one_trouble : (ks bytes : List ℕ) (a b : BadProof) → TroubleIs form ks bytes a → TroubleIs form ks bytes b → a ≡ b
  one_trouble ks bytes (Magic at) (Magic next) f g = ap Magic (one_foreign bytes at next f g)
  one_trouble ks bytes (Magic at) (Short next need) f g = absurd (opened bytes at g.opens f)
  one_trouble ks bytes (Magic at) (Range next) f g = absurd (opened bytes at g.opens f)
  one_trouble ks bytes (Magic at) (Long extra) f g = absurd (opened bytes at g.opens f)
  one_trouble ks bytes (Short at need) (Magic next) f g = absurd (opened bytes next f.opens g)
  one_trouble ks bytes (Short at need) (Short next want) f g = same_short at need next want (f.at_end ∙ sym g.at_end) (f.whole ∙ sym g.whole)
  one_trouble ks bytes (Short at need) (Range next) f g = absurd (short_range ks bytes at need next f g)
  one_trouble ks bytes (Short at need) (Long extra) f g = absurd (short_long ks bytes at need extra f g)
  one_trouble ks bytes (Range at) (Magic next) f g = absurd (opened bytes next f.opens g)
  one_trouble ks bytes (Range at) (Short next need) f g = absurd (short_range ks bytes next need at g f)
  one_trouble ks bytes (Range at) (Range next) f g = ap Range (one_range ks bytes at next f g)
  one_trouble ks bytes (Range at) (Long extra) f g = absurd (range_long ks bytes at extra f g)
  one_trouble ks bytes (Long extra) (Magic next) f g = absurd (opened bytes next f.opens g)
  one_trouble ks bytes (Long extra) (Short at need) f g = absurd (short_long ks bytes at need extra g f)
  one_trouble ks bytes (Long extra) (Range at) f g = absurd (range_long ks bytes at extra g f)
  one_trouble ks bytes (Long extra) (Long more) f g = ap Long (omega (arith, f.after, g.after))
