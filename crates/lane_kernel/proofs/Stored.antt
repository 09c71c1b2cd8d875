-- Four numbers that are stored are at their places, and each is its pair's
use Rattle.std.proofs.Common.{◌≡◌, ◌≢◌, ℕ, ◌+◌, ◌-◌, ◌*◌, ◌%◌, ◌<◌, ◌≤◌, List, length, set, get_or, sym, ◌∙◌, ap, arith, length-set, get_or-set_same, get_or-set_other, subst}
use mathlib.Core.Logic.{dite}
use native.Mathlib.Decide.{ℕ_discrete}
use Rattle.lane_kernel.specs.declared.lanes.Four.{Four}
use Rattle.lane_kernel.specs.Kernel.{prime, minus, folded_re, folded_im, re_at, im_at, AreAt}
use Rattle.lane_kernel.specs.Four.{stored, combination, lows, differences, all_of, opposite}

one_more : (value : ℕ → ℕ) (old now : List ℕ) (j n x : ℕ) → j + n < length now → x ≡ value (j + n) → AreAt j n value old now → AreAt j (n + 1) value old (set now (j + n) x)
one_more value old now j n x u is at = record {
  within = λ k a b. dite (ℕ_discrete k (j + n))
      (λ (e : k ≡ j + n). ap (λ (i : ℕ). get_or (set now (j + n) x) i 0) e ∙ get_or-set_same now (j + n) x 0 u ∙ is ∙ ap value (sym e))
      (λ (ne : k ≢ j + n). get_or-set_other now (j + n) k x 0 ne ∙ at.within k a (omega arith));
  before = λ k a. let ne : k ≢ j + n = omega arith in get_or-set_other now (j + n) k x 0 ne ∙ at.before k a;
  after = λ k a. let ne : k ≢ j + n = omega arith in get_or-set_other now (j + n) k x 0 ne ∙ at.after k (omega arith);
}

none_yet : (value : ℕ → ℕ) (old : List ℕ) (j : ℕ) → AreAt j 0 value old old
none_yet value old j = record { within = λ k a b. absurd (omega arith); before = λ k a i. get_or old k 0; after = λ k a i. get_or old k 0 }

pub four_at : (value : ℕ → ℕ) (old : List ℕ) (j : ℕ) (x : Four) → j + 4 ≤ length old → x.a % prime ≡ value j → x.b % prime ≡ value (j + 1) → x.c % prime ≡ value (j + 2) → x.d % prime ≡ value (j + 3) → AreAt j 4 value old (stored old j x)
four_at value old j x u a b c d =
    let zero_more : j ≡ j + 0 = omega arith in
    let first : List ℕ = set old j (x.a % prime) in
    let second : List ℕ = set first (j + 1) (x.b % prime) in
    let third : List ℕ = set second (j + 2) (x.c % prime) in
    let n1 : length first ≡ length old = length-set old j (x.a % prime) in
    let n2 : length second ≡ length old = length-set first (j + 1) (x.b % prime) ∙ n1 in
    let n3 : length third ≡ length old = length-set second (j + 2) (x.c % prime) ∙ n2 in
    let at1 : AreAt j 1 value old first = subst (λ (i : ℕ). AreAt j 1 value old (set old i (x.a % prime))) (sym zero_more) (one_more value old old j 0 (x.a % prime) (omega arith) (a ∙ ap value zero_more) (none_yet value old j)) in
    let at2 : AreAt j 2 value old second = one_more value old first j 1 (x.b % prime) (omega arith) b at1 in
    let at3 : AreAt j 3 value old third = one_more value old second j 2 (x.c % prime) (omega arith) c at2 in
    one_more value old third j 3 (x.d % prime) (omega arith) d at3

reorder : (a d s e t : ℕ) → a + d * s + e * t ≡ a + s * d + t * e
reorder a d s e t = omega arith

lane_re : (re im : List ℕ) (s t k a b : ℕ) → 2 * k ≡ a → 2 * k + 1 ≡ b
    → (get_or re a 0 + minus (get_or re a 0) (get_or re b 0) * s + (prime - minus (get_or im a 0) (get_or im b 0)) * t) % prime ≡ re_at re im s t k
lane_re re im s t k a b e f =
    ap (λ (n : ℕ). n % prime) (reorder (get_or re a 0) (minus (get_or re a 0) (get_or re b 0)) s (prime - minus (get_or im a 0) (get_or im b 0)) t)
    ∙ (λ i. folded_re s t (get_or re (sym e i) 0) (get_or im (sym e i) 0) (get_or re (sym f i) 0) (get_or im (sym f i) 0))

lane_im : (re im : List ℕ) (s t k a b : ℕ) → 2 * k ≡ a → 2 * k + 1 ≡ b
    → (get_or im a 0 + minus (get_or im a 0) (get_or im b 0) * s + minus (get_or re a 0) (get_or re b 0) * t) % prime ≡ im_at re im s t k
lane_im re im s t k a b e f =
    ap (λ (n : ℕ). n % prime) (reorder (get_or im a 0) (minus (get_or im a 0) (get_or im b 0)) s (minus (get_or re a 0) (get_or re b 0)) t)
    ∙ (λ i. folded_im s t (get_or re (sym e i) 0) (get_or im (sym e i) 0) (get_or re (sym f i) 0) (get_or im (sym f i) 0))

pub four_re : (re im : List ℕ) (s t j : ℕ) → j + 4 ≤ length re → AreAt j 4 (re_at re im s t) re (stored re j (combination (lows re j) (differences re j) (all_of s) (opposite (differences im j)) (all_of t)))
four_re re im s t j u = four_at (re_at re im s t) re j (combination (lows re j) (differences re j) (all_of s) (opposite (differences im j)) (all_of t)) u
    (lane_re re im s t j (2 * j) (2 * j + 1) (omega arith) (omega arith))
    (lane_re re im s t (j + 1) (2 * j + 2) (2 * j + 3) (omega arith) (omega arith))
    (lane_re re im s t (j + 2) (2 * j + 4) (2 * j + 5) (omega arith) (omega arith))
    (lane_re re im s t (j + 3) (2 * j + 6) (2 * j + 7) (omega arith) (omega arith))

pub four_im : (re im : List ℕ) (s t j : ℕ) → j + 4 ≤ length im → AreAt j 4 (im_at re im s t) im (stored im j (combination (lows im j) (differences im j) (all_of s) (differences re j) (all_of t)))
four_im re im s t j u = four_at (im_at re im s t) im j (combination (lows im j) (differences im j) (all_of s) (differences re j) (all_of t)) u
    (lane_im re im s t j (2 * j) (2 * j + 1) (omega arith) (omega arith))
    (lane_im re im s t (j + 1) (2 * j + 2) (2 * j + 3) (omega arith) (omega arith))
    (lane_im re im s t (j + 2) (2 * j + 4) (2 * j + 5) (omega arith) (omega arith))
    (lane_im re im s t (j + 3) (2 * j + 6) (2 * j + 7) (omega arith) (omega arith))
