-- The true last message leads to the true claim below, and says the true values at the operands' points
use Rattle.std.proofs.Common.{◌≡◌, ℕ, suc, ◌+◌, ◌≤◌, List, [], ◌∷◌, length, get_or, refl, sym, ◌∙◌, ap, arith}
use Rattle.field_ext.specs.Ring.{Ops, Laws}
use Rattle.field_ext.specs.Polynomial.{value_at, SamePolynomial, coefficients}
use Rattle.field_ext.specs.Multilinear.{extension_at}
use Rattle.field_ext.proofs.api.Solve.{var, nil, ◌⊕◌, ◌⊗◌, solve}
use Rattle.gkr_layers.specs.Sumcheck.{point_between, line_polynomial}
use Rattle.gkr_layers.proofs.api.Lines.{value-line_polynomial, point-start, point-end}
use Rattle.gkr_layers.proofs.Soundness.{value-same}
use Rattle.gkr_layers.specs.Places.{IsOver, value_over}
use Rattle.proof_wire.specs.declared.form.ProofForm.{ProofForm}
use Rattle.proof_wire.specs.Forms.{last_degree}
use Rattle.gkr_layers.specs.Forms.{said_left, said_right, last_polynomial, place_between}
use Rattle.proof_wire.specs.declared.form.ProofForm.TheVariants.{Line, Pair}

-- a last message has two coefficients or more
pub two_at_least : (form : ProofForm) (k : ℕ) → 1 ≤ k → 2 ≤ last_degree form k + 1
two_at_least Line k u = omega (arith, u)
two_at_least Pair k u = omega arith

pub length-point : {A : Type 0} (o : Ops A) (b c : List A) (e : A) → length b ≡ length c → length (point_between o b c e) ≡ length b
length-point o [] c e s = refl
length-point o (b ∷ bs) [] e s = absurd (omega arith)
length-point o (b ∷ bs) (c ∷ cs) e s = ap (λ (n : ℕ). suc n) (length-point o bs cs e (omega arith))

module _ {A : Type 0} (o : Ops A) where
  pub place_over : (form : ProofForm) (b c : List A) (e : A) (k : ℕ) → length b ≡ k → length c ≡ k → IsOver k (place_between o form b c e)
  place_over Line b c e k u v = length-point o b c e (u ∙ sym v) ∙ u
  place_over Pair b c e k u v = (u, v)

module _ {A : Type 0} (o : Ops A) (l : Laws A o) where
  pub value-last : (form : ProofForm) (t b c : List A) (e : A) → value_at o (last_polynomial o form t b c) e ≡ value_over o t (place_between o form b c e)
  value-last Line t b c e = value-line_polynomial o l t b c e
  value-last Pair t b c e =
      let V : List A → A = extension_at o o (λ x. x) t in
      solve o l (V b ∷ V c ∷ e ∷ []) (var 0 ⊕ var 2 ⊗ (var 1 ⊕ var 2 ⊗ nil)) (var 0 ⊕ var 2 ⊗ var 1) refl

  pub true_left : (form : ProofForm) (t b c q : List A) → length b ≡ length c → SamePolynomial o q (last_polynomial o form t b c) → said_left o form q ≡ extension_at o o (λ x. x) t b
  true_left Line t b c q u s = value-same o l q (line_polynomial o t b c) o.zero s ∙ value-line_polynomial o l t b c o.zero ∙ ap (extension_at o o (λ x. x) t) (point-start o l b c u)
  true_left Pair t b c q u s = s 0

  pub true_right : (form : ProofForm) (t b c q : List A) → length b ≡ length c → SamePolynomial o q (last_polynomial o form t b c) → said_right o form q ≡ extension_at o o (λ x. x) t c
  true_right Line t b c q u s = value-same o l q (line_polynomial o t b c) o.one s ∙ value-line_polynomial o l t b c o.one ∙ ap (extension_at o o (λ x. x) t) (point-end o l b c u)
  true_right Pair t b c q u s = s 1

  -- a last message with the true one's coefficients, and so its values, says the true values
  pub said_left_by_values : (form : ProofForm) (t b c q : List A) (k : ℕ) → length b ≡ length c → length b ≤ k → q ≡ coefficients o (last_degree form k + 1) (last_polynomial o form t b c) →
      ((x : A) → value_at o q x ≡ value_at o (last_polynomial o form t b c) x) → said_left o form q ≡ extension_at o o (λ x. x) t b
  said_left_by_values Line t b c q k u v is at = at o.zero ∙ value-line_polynomial o l t b c o.zero ∙ ap (extension_at o o (λ x. x) t) (point-start o l b c u)
  said_left_by_values Pair t b c q k u v is at = ap (λ (p : List A). get_or p 0 o.zero) is

  pub said_right_by_values : (form : ProofForm) (t b c q : List A) (k : ℕ) → length b ≡ length c → length b ≤ k → q ≡ coefficients o (last_degree form k + 1) (last_polynomial o form t b c) →
      ((x : A) → value_at o q x ≡ value_at o (last_polynomial o form t b c) x) → said_right o form q ≡ extension_at o o (λ x. x) t c
  said_right_by_values Line t b c q k u v is at = at o.one ∙ value-line_polynomial o l t b c o.one ∙ ap (extension_at o o (λ x. x) t) (point-end o l b c u)
  said_right_by_values Pair t b c q k u v is at = ap (λ (p : List A). get_or p 1 o.zero) is
