-- The elements in a prefix of their bytes, and the messages that are whole in it
use Rattle.std.proofs.Common.{◌≡◌, ℕ, zero, suc, ◌+◌, ◌-◌, ◌*◌, ◌<◌, ◌≤◌, List, [], ◌∷◌, ◌++◌, length, map, take, drop, Bool, true, if◌then◌else◌, inl, inr, refl, ◌∙◌, ap, ap₂, arith, length-append, length-take}
use Rattle.std.specs.Prelude.{◌&&◌, nat_lt}
use Rattle.std.specs.List.{flat_map}
use Rattle.std.proofs.Math.Seq.{take-append-add}
use Rattle.std.proofs.lemmas.Bool.{and_from, cases_lt, le-leb, lt-ltb}
use Rattle.std.proofs.lemmas.List.{drop_at, take_all, take_at}
use Rattle.std.proofs.lemmas.List.Concat.{flat_map-cons}
use Rattle.field_ext.specs.Bytes.{bytes_of}
use Rattle.field_ext.specs.Field.{K, prime}
use Rattle.field_ext.proofs.api.ElementBytes.{imaginary_half_is, real_half_is}
use Rattle.live_session.specs.Elements.{element_of, has_element, in_range, leading}
use Rattle.live_session.specs.Layout.{whole}
use Rattle.live_session.proofs.api.ElementSteps.{element_of-bytes, first_none, has_more, short}
use Rattle.live_session.proofs.api.VerifierSteps.{leading_nothing}
use Rattle.session_prove.proofs.Messages.{flat}
use Rattle.live_session.proofs.api.LayoutSteps.{whole_step as step}
use Rattle.live_session.proofs.api.LayoutSteps.{whole_stop as stop}

-- ---- elements

own-range : (x : K) → in_range (bytes_of x) ≡ true
own-range x =
    ap₂ (λ (a b : ℕ). nat_lt a prime && nat_lt b prime) (real_half_is x) (imaginary_half_is x)
    ∙ and_from _ _ (lt-ltb x.re.value prime x.re.below) (lt-ltb x.im.value prime x.im.below)

first-there : (x : K) (more : List ℕ) → has_element (bytes_of x ++ more) ≡ true
first-there x more =
    has_more (bytes_of x) more (omega arith)
    ∙ and_from _ _ (le-leb 8 (length (bytes_of x)) (omega arith)) (ap in_range (take_all 8 (bytes_of x) (omega arith)) ∙ own-range x)

first-element : (n : ℕ) (x : K) (more : List ℕ) → leading (suc n) (bytes_of x ++ more) ≡ x ∷ leading n more
first-element n x more =
    ap (λ (b : Bool). if b then element_of (take 8 (bytes_of x ++ more)) ∷ leading n (drop 8 (bytes_of x ++ more)) else []) (first-there x more)
    ∙ ap₂ (λ (a b : List ℕ). element_of a ∷ leading n b) (take_at (bytes_of x) more 8 refl) (drop_at (bytes_of x) more 8 refl)
    ∙ ap (λ (y : K). y ∷ leading n more) (element_of-bytes x)

-- a prefix of the bytes of elements holds the first of these
pub in-front : (n e r : ℕ) (xs : List K) → e ≤ n → r < 8 → leading n (take (8 * e + r) (flat_map bytes_of xs)) ≡ take e xs
in-front zero zero r xs u v = refl
in-front (suc n) zero r xs u v = first_none n (take (8 * 0 + r) (flat_map bytes_of xs)) (short (take (8 * 0 + r) (flat_map bytes_of xs)) (omega (arith, v, length-take (8 * 0 + r) (flat_map bytes_of xs))))
in-front zero (suc e) r xs u v = absurd (omega (arith, u))
in-front (suc n) (suc e) r [] u v = ap (leading (suc n)) (take_all (8 * suc e + r) [] (omega arith)) ∙ leading_nothing (suc n)
in-front (suc n) (suc e) r (x ∷ xs) u v =
    let rest : List ℕ = flat_map bytes_of xs in
    let cut : take (8 * suc e + r) (flat_map bytes_of (x ∷ xs)) ≡ bytes_of x ++ take (8 * e + r) rest =
    ap₂ take (let f : 8 * suc e + r ≡ length (bytes_of x) + (8 * e + r) = omega arith in f) (flat_map-cons bytes_of x xs) ∙ take-append-add (bytes_of x) rest (8 * e + r) in
    ap (leading (suc n)) cut ∙ first-element n x (take (8 * e + r) rest) ∙ ap (λ (ys : List K). x ∷ ys) (in-front n e r xs (omega (arith, u)) v)

-- ---- messages

-- in more elements no fewer are whole
pub whole-mono : (sizes : List ℕ) (n m : ℕ) → n ≤ m → whole sizes n ≤ whole sizes m
whole-mono [] n m u = omega arith
whole-mono (size ∷ sizes) n m u = elim (cases_lt n size) [
  | inl v ↦ omega (arith, stop size n sizes v)
  | inr v ↦ omega (arith, step size n sizes v, step size m sizes (omega (arith, u, v)), whole-mono sizes (n - size) (m - size) (omega (arith, u, v)))
]

-- in the elements of the first m messages these are whole
pub whole-first : (qs : List (List K)) (m : ℕ) → m ≤ length qs → m ≤ whole (map length qs) (length (flat (take m qs)))
whole-first qs zero u = omega arith
whole-first [] (suc m) u = absurd (omega (arith, u))
whole-first (q ∷ qs) (suc m) u =
    let rest : ℕ = length (flat (take m qs)) in
    let size : length (flat (take (suc m) (q ∷ qs))) ≡ length q + length (flat (take m qs)) = ap length (flat_map-cons (λ (p : List K). p) q (take m qs)) ∙ length-append q (flat (take m qs)) in
    let left : length (flat (take (suc m) (q ∷ qs))) - length q ≡ length (flat (take m qs)) = omega (arith, size) in
    omega (arith, step (length q) (length (flat (take (suc m) (q ∷ qs)))) (map length qs) (omega (arith, size)), ap (whole (map length qs)) left, whole-first qs m (omega (arith, u)))
