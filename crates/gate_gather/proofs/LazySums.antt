-- Sums of halves that are not reduced yet
use Rattle.std.proofs.Common.{◌≡◌, ℕ, ◌+◌, sym, ◌∙◌, ap}
use Rattle.field_ext.specs.Field.{F, K, of, add_f, add_k}
use Rattle.field_ext.proofs.api.Elements.{add-of, of_self}
use Rattle.gate_gather.specs.declared.lazy_sum.LazySum.{LazySum}
use Rattle.gate_gather.specs.LazySum.{element_of}

pub sum_is : (s x new : LazySum) → new.re ≡ s.re + x.re → new.im ≡ s.im + x.im → element_of new ≡ add_k (element_of s) (element_of x)
sum_is s x new re im = λ i. record { re = (ap of re ∙ sym (add-of s.re x.re)) i; im = (ap of im ∙ sym (add-of s.im x.im)) i }

pub element_added : (s : LazySum) (x : K) (a b : ℕ) → a ≡ x.re.value → b ≡ x.im.value → element_of (record { re = s.re + a; im = s.im + b }) ≡ add_k (element_of s) x
element_added s x a b ha hb = λ i. record { re = half s.re a x.re ha i; im = half s.im b x.im hb i }
  where
    half : (n a : ℕ) (y : F) → a ≡ y.value → of (n + a) ≡ add_f (of n) y
    half n a y e = ap (λ (m : ℕ). of (n + m)) e ∙ sym (add-of n y.value) ∙ ap (add_f (of n)) (of_self y)
