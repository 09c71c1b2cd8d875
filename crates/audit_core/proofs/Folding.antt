-- A table that is folded by one coordinate after another
use Rattle.std.proofs.Common.{◌≡◌, ℕ, ◌+◌, ◌<◌, List, [], ◌∷◌, ◌++◌, length, take, get_or, refl, ◌∙◌, ap}
use Rattle.std.proofs.lemmas.List.{take_more}
use Rattle.std.proofs.lemmas.List.Elements.{All-head, All-tail, All-cons, All-nil}
use Rattle.field_ext.specs.Polynomial.{IsZero}
use Rattle.field_ext.proofs.api.KLaws.{k_laws}
use Rattle.field_ext.proofs.api.Solve.{nil, var, ◌⊕◌, ◌⊗◌, minus, solve}
use Rattle.field_ext.specs.Field.{K, k_ops, zero_k}
use Rattle.field_ext.specs.Multilinear.{folded, folded_all}

folded-append : (t rs ss : List K) → folded_all k_ops t (rs ++ ss) ≡ folded_all k_ops (folded_all k_ops t rs) ss
folded-append t [] ss = refl
folded-append t (r ∷ rs) ss = folded-append (folded k_ops t r) rs ss

pub folded_more : (t point : List K) (n : ℕ) → n < length point → folded_all k_ops t (take (n + 1) point) ≡ folded k_ops (folded_all k_ops t (take n point)) (get_or point n zero_k)
folded_more t point n u = ap (folded_all k_ops t) (take_more point n zero_k u) ∙ folded-append t (take n point) (get_or point n zero_k ∷ [])

-- a table of zeros stays one
abbrev Z : K → Type 0
Z x = x ≡ k_ops.zero

zero-between : (a b r : K) → Z a → Z b → Z (k_ops.add a (k_ops.mul r (k_ops.add b (k_ops.neg a))))
zero-between a b r ea eb =
    (λ i. k_ops.add (ea i) (k_ops.mul r (k_ops.add (eb i) (k_ops.neg (ea i))))) ∙ solve k_ops k_laws (r ∷ []) (nil ⊕ var 0 ⊗ (nil ⊕ minus nil)) nil refl

zeros-folded : (t : List K) (r : K) → IsZero k_ops t → IsZero k_ops (folded k_ops t r)
zeros-folded [] r h = h
zeros-folded (a ∷ []) r h = All-cons Z _ [] (zero-between a k_ops.zero r (All-head Z a [] h) refl) (All-nil Z)
zeros-folded (a ∷ b ∷ t) r h =
    let rest = All-tail Z a (b ∷ t) h in
    All-cons Z _ (folded k_ops t r) (zero-between a b r (All-head Z a (b ∷ t) h) (All-head Z b t rest)) (zeros-folded t r (All-tail Z b t rest))

pub zeros_stay : (t rs : List K) → IsZero k_ops t → IsZero k_ops (folded_all k_ops t rs)
zeros_stay t [] h = h
zeros_stay t (r ∷ rs) h = zeros_stay (folded k_ops t r) rs (zeros-folded t r h)
