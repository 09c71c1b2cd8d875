-- The middle coefficient that a claim leaves adds to the claim, and no other does.
use Rattle.std.proofs.Common.{◌≡◌, [], ◌∷◌, refl, sym, ◌∙◌, ap}
use Rattle.field_ext.specs.Ring.{Ops, Laws}
use Rattle.field_ext.specs.Field.{K, k_ops, add_k, zero_k, one_k}
use Rattle.field_ext.specs.Polynomial.{value_at}
use Rattle.field_ext.proofs.api.KLaws.{k_laws}
use Rattle.field_ext.proofs.api.Solve.{Expr, var, nil, unit, ◌⊕◌, ◌⊗◌, minus, solve}
use Rattle.sumcheck_verify.specs.Sumcheck.{middle_for}

-- the value at an expression of three coefficients
abbrev horner : Expr → Expr → Expr → Expr → Expr
horner a b c e = a ⊕ e ⊗ (b ⊕ e ⊗ (c ⊕ e ⊗ nil))

module _ {A : Type 0} (o : Ops A) (l : Laws A o) where
  adds : (claim a c : A) → o.add (value_at o (a ∷ middle_for o claim a c ∷ c ∷ []) o.zero) (value_at o (a ∷ middle_for o claim a c ∷ c ∷ []) o.one) ≡ claim
  adds claim a c =
      let m = ((var 0 ⊕ minus (var 1)) ⊕ minus (var 1)) ⊕ minus (var 2) in
      solve o l (claim ∷ a ∷ c ∷ []) (horner (var 1) m (var 2) nil ⊕ horner (var 1) m (var 2) unit) (var 0) refl

  alone : (a b c : A) → middle_for o (o.add (value_at o (a ∷ b ∷ c ∷ []) o.zero) (value_at o (a ∷ b ∷ c ∷ []) o.one)) a c ≡ b
  alone a b c =
      let s = horner (var 0) (var 1) (var 2) nil ⊕ horner (var 0) (var 1) (var 2) unit in
      solve o l (a ∷ b ∷ c ∷ []) (((s ⊕ minus (var 0)) ⊕ minus (var 0)) ⊕ minus (var 2)) (var 1) refl

pub middle_adds : (claim c0 c2 : K) → add_k (value_at k_ops (c0 ∷ middle_for k_ops claim c0 c2 ∷ c2 ∷ []) zero_k) (value_at k_ops (c0 ∷ middle_for k_ops claim c0 c2 ∷ c2 ∷ []) one_k) ≡ claim
middle_adds = adds k_ops k_laws

pub middle_alone : (claim c0 c1 c2 : K) → add_k (value_at k_ops (c0 ∷ c1 ∷ c2 ∷ []) zero_k) (value_at k_ops (c0 ∷ c1 ∷ c2 ∷ []) one_k) ≡ claim → c1 ≡ middle_for k_ops claim c0 c2
middle_alone claim c0 c1 c2 e = sym (alone k_ops k_laws c0 c1 c2) ∙ ap (λ (s : K). middle_for k_ops s c0 c2) e
