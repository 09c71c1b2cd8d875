-- Tables of zeros
use Rattle.std.proofs.Common.{◌≡◌, ℕ, ◌+◌, ◌*◌, ◌/◌, ◌<◌, ◌≤◌, ◌⊎◌, inl, inr, Bool, true, false, List, [], ◌∷◌, ◌++◌, length, take, get_or, if◌then◌else◌, nat_lt, refl, sym, ◌∙◌, ap, ap₂, arith, append_assoc}
use Rattle.std.proofs.lemmas.Bool.{cases_lt}
use Rattle.std.proofs.lemmas.List.{get_or-replicate, get_or_past, get_or-take, length-take-le, ext_get_or, length-replicate, replicate_more}
use Rattle.field_ext.specs.Field.{K, k_ops, zero_k, add_k, mul_k, neg_k}
use Rattle.field_ext.proofs.api.KLaws.{k_laws}
use Rattle.field_ext.proofs.api.Solve.{var, nil, ◌⊕◌, ◌⊗◌, minus, solve}
use Rattle.field_ext.specs.Multilinear.{folded}
use Rattle.mle_table.proofs.api.Fold.{fold-at}
use Rattle.gate_gather.specs.Scaling.{AreZeros}
use Rattle.table_parts.specs.Columns.{zeros, kept_or_zeros}
use Rattle.table_parts.specs.PartTables.{halved}
use Rattle.table_parts.proofs.api.Halves.{length-half}

-- every place reads as 0
pub reads-zero : (n i : ℕ) → get_or (zeros n) i zero_k ≡ zero_k
reads-zero n i = at_place (cases_lt i n)
  where
    at_place : (i < n) ⊎ (n ≤ i) → get_or (zeros n) i zero_k ≡ zero_k
    at_place (inl u) = get_or-replicate n i zero_k zero_k u
    at_place (inr u) = get_or_past (zeros n) i zero_k (omega (arith, u, length-replicate n zero_k))

pub zeros-read : (t : List K) → t ≡ zeros (length t) → (i : ℕ) → get_or t i zero_k ≡ zero_k
zeros-read t e i = ap (λ (t : List K). get_or t i zero_k) e ∙ reads-zero (length t) i

-- a list whose values are all 0
pub all-zeros : (t : List K) → AreZeros t 0 (length t) → t ≡ zeros (length t)
all-zeros t none = ext_get_or zero_k t (zeros (length t)) (sym (length-replicate (length t) zero_k)) (λ i u. none i (omega arith) (omega (arith, u)) ∙ sym (reads-zero (length t) i))

-- what a column stands for
pub when-kept : (kept : Bool) (values : List K) (n : ℕ) → kept ≡ true → kept_or_zeros kept values n ≡ values
when-kept kept values n e = ap (λ (b : Bool). if b then values else zeros n) e

pub when-not : (kept : Bool) (values : List K) (n : ℕ) → kept ≡ false → kept_or_zeros kept values n ≡ zeros n
when-not kept values n e = ap (λ (b : Bool). if b then values else zeros n) e

half-zeros : (n : ℕ) (r : K) → take (n / 2) (folded k_ops (zeros n) r) ≡ zeros (n / 2)
half-zeros n r =
    let size : n / 2 ≤ length (folded k_ops (zeros n) r) = ap-size (length (zeros n)) n (length-replicate n zero_k) (length (folded k_ops (zeros n) r)) (length-half k_ops (zeros n) r) in
    let len = length-take-le (n / 2) (folded k_ops (zeros n) r) size in
    ext_get_or zero_k (take (n / 2) (folded k_ops (zeros n) r)) (zeros (n / 2)) (len ∙ sym (length-replicate (n / 2) zero_k)) (λ i u.
    get_or-take (n / 2) (folded k_ops (zeros n) r) i zero_k (omega (arith, u, len))
    ∙ fold-at k_ops k_laws (zeros n) r i
    ∙ ap₂ (λ (a b : K). add_k a (mul_k r (add_k b (neg_k a)))) (reads-zero n (i * 2)) (reads-zero n (i * 2 + 1))
    ∙ solve k_ops k_laws (r ∷ []) (nil ⊕ var 0 ⊗ (nil ⊕ minus nil)) nil refl
    ∙ sym (reads-zero (n / 2) i))
  where
    ap-size : (m n : ℕ) → m ≡ n → (k : ℕ) → m / 2 ≤ k → n / 2 ≤ k
    ap-size m n e k u = omega (arith, e, u)

-- zeros that are halved are fewer zeros
pub halved-zeros : (n : ℕ) (r : K) → zeros (if nat_lt 1 n then n / 2 else n) ≡ halved r (zeros n)
halved-zeros n r =
    by_size (nat_lt 1 n)
    ∙ ap (λ (m : ℕ). if nat_lt 1 m then take (m / 2) (folded k_ops (zeros n) r) else zeros n) (sym (length-replicate n zero_k))
  where
    by_size : (b : Bool) → zeros (if b then n / 2 else n) ≡ (if b then take (n / 2) (folded k_ops (zeros n) r) else zeros n)
    by_size true = sym (half-zeros n r)
    by_size false = refl

-- one zero more
pub zeros-more : (t : List K) (n : ℕ) → (t ++ zeros n) ++ zero_k ∷ [] ≡ t ++ zeros (n + 1)
zeros-more t n = append_assoc t (zeros n) (zero_k ∷ []) ∙ ap (λ (z : List K). t ++ z) (replicate_more n zero_k)
