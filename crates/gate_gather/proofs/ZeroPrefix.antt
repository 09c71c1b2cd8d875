-- An element whose halves are 0, and a prefix of such elements
use Rattle.std.proofs.Common.{◌≡◌, ◌↔◌, ℕ, ◌+◌, ◌⊎◌, inl, inr, max, List, get_or, sym, ◌∙◌, ap, arith}
use Rattle.std.proofs.lemmas.Bool.{cases_eq}
use Rattle.field_ext.specs.Field.{K, of, zero_k}
use Rattle.field_ext.proofs.api.Elements.{of_self}
use Rattle.gate_gather.specs.Scaling.{AreZeros}

is_zero : (x : K) → x.re.value ≡ 0 → x.im.value ≡ 0 → x ≡ zero_k
is_zero x re im = λ i. record { re = (sym (of_self x.re) ∙ ap of re) i; im = (sym (of_self x.im) ∙ ap of im) i }

-- one value more
pub zeros_more : (t : List K) (from i most a b most' : ℕ) (x : K) → most' ≡ max (max most a) b → a ≡ x.re.value → b ≡ x.im.value → x ≡ get_or t (from + i) zero_k →
    ((most ≡ 0) ↔ AreZeros t from i) → (most' ≡ 0) ↔ AreZeros t from (i + 1)
unfolding of
zeros_more t from i most a b most' x new ha hb is before = (only_zeros, no_more)
  where
    only_zeros : most' ≡ 0 → AreZeros t from (i + 1)
    only_zeros none y u v = at_place (cases_eq y (from + i))
      where
        at_place : (y ≡ from + i) ⊎ (y ≡ from + i → ⊥) → get_or t y zero_k ≡ zero_k
        at_place (inl e) = ap (λ (n : ℕ). get_or t n zero_k) e ∙ sym is ∙ is_zero x (omega (arith, new, ha, none)) (omega (arith, new, hb, none))
        at_place (inr n) = before.0 (omega (arith, new, none)) y u (omega (arith, v, n))

    no_more : AreZeros t from (i + 1) → most' ≡ 0
    no_more all =
        let here : x ≡ zero_k = is ∙ all (from + i) (omega arith) (omega arith) in
        let first : most ≡ 0 = before.1 (λ y u v. all y u (omega (arith, v))) in
        let re : x.re.value ≡ 0 = ap (λ (y : K). y.re.value) here in
        let im : x.im.value ≡ 0 = ap (λ (y : K). y.im.value) here in
        omega (arith, new, ha, hb, first, re, im)
