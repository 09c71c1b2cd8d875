-- A false claim on a layer leads to a false claim on the layer below, or a challenge is exceptional
use Rattle.std.proofs.Common.{◌≡◌, List, [], ◌∷◌, map, length, refl, ◌∙◌, ap₂, arith}
use Rattle.field_ext.specs.Ring.{Ops, Laws}
use Rattle.field_ext.specs.Polynomial.{value_at, polynomial_ops, constant}
use Rattle.field_ext.specs.Multilinear.{extension_at}
use Rattle.gkr_layers.specs.Sumcheck.{line_between, point_between, line_polynomial}
use Rattle.field_ext.proofs.api.Solve.{var, nil, unit, ◌⊕◌, ◌⊗◌, minus, solve}
use Rattle.wiring_poly.proofs.api.Hom.{extension_at-hom}
use Rattle.gkr_layers.proofs.api.RoundPoly.{value_hom, value-constant}

module _ {A : Type 0} (o : Ops A) (l : Laws A o) where
  line-at : (b c : List A) (e : A) → map (λ q. value_at o q e) (line_between o b c) ≡ point_between o b c e
  line-at [] cs e = refl
  line-at (b ∷ bs) [] e = refl
  line-at (b ∷ bs) (c ∷ cs) e =
      ap₂ (λ (x : A) (xs : List A). x ∷ xs) (solve o l (b ∷ c ∷ e ∷ []) (var 0 ⊕ var 2 ⊗ ((var 1 ⊕ minus (var 0)) ⊕ var 2 ⊗ nil)) (var 0 ⊕ var 2 ⊗ (var 1 ⊕ minus (var 0))) refl) (line-at bs cs e)

  pub value-line_polynomial : (t b c : List A) (e : A) → value_at o (line_polynomial o t b c) e ≡ extension_at o o (λ x. x) t (point_between o b c e)
  value-line_polynomial t b c e =
      extension_at-hom (polynomial_ops o) o (λ q. value_at o q e) (value_hom o l e) o (constant o) t (line_between o b c)
      ∙ (λ i. extension_at o o (λ x. value-constant o l x e i) t (line-at b c e i))

  pub point-start : (b c : List A) → length b ≡ length c → point_between o b c o.zero ≡ b
  point-start [] c s = refl
  point-start (b ∷ bs) [] s = absurd (omega arith)
  point-start (b ∷ bs) (c ∷ cs) s =
      ap₂ (λ (x : A) (xs : List A). x ∷ xs) (solve o l (b ∷ c ∷ []) (var 0 ⊕ nil ⊗ (var 1 ⊕ minus (var 0))) (var 0) refl) (point-start bs cs (omega arith))

  pub point-end : (b c : List A) → length b ≡ length c → point_between o b c o.one ≡ c
  point-end [] [] s = refl
  point-end [] (c ∷ cs) s = absurd (omega arith)
  point-end (b ∷ bs) [] s = absurd (omega arith)
  point-end (b ∷ bs) (c ∷ cs) s =
      ap₂ (λ (x : A) (xs : List A). x ∷ xs) (solve o l (b ∷ c ∷ []) (var 0 ⊕ unit ⊗ (var 1 ⊕ minus (var 0))) (var 1) refl) (point-end bs cs (omega arith))
