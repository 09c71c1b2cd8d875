-- No two elements have the same bytes, and the test of equality is exact
use Rattle.std.proofs.Common.{◌≡◌, ℕ, ◌<◌, sym, ◌∙◌, ap, arith}
use Rattle.std.proofs.lemmas.Nat.{from_le_bytes-to_le_bytes_4}
use Rattle.field_ext.specs.Field.{K}
use Rattle.field_ext.specs.Bytes.{bytes_of, real_half, imaginary_half}
use Rattle.field_ext.proofs.api.Elements.{F_eq}

pub below_word : (n : ℕ) → n < 2147483647 → n < 4294967296
below_word n u = omega arith

pub real_half_is : (x : K) → real_half (bytes_of x) ≡ x.re.value
real_half_is x = from_le_bytes-to_le_bytes_4 x.re.value (below_word x.re.value x.re.below)

pub imaginary_half_is : (x : K) → imaginary_half (bytes_of x) ≡ x.im.value
imaginary_half_is x = from_le_bytes-to_le_bytes_4 x.im.value (below_word x.im.value x.im.below)

pub K_eq : (x y : K) → x.re.value ≡ y.re.value → x.im.value ≡ y.im.value → x ≡ y
K_eq x y e f = λ i. record { re = F_eq x.re y.re e i; im = F_eq x.im y.im f i }

pub bytes_apart : (x y : K) → bytes_of x ≡ bytes_of y → x ≡ y
bytes_apart x y e =
    K_eq x y
    (sym (real_half_is x) ∙ ap real_half e ∙ real_half_is y)
    (sym (imaginary_half_is x) ∙ ap imaginary_half e ∙ imaginary_half_is y)
