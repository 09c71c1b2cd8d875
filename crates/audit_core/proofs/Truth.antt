-- The messages of a proof beside the true polynomials: a message of the right size differs from the honest one exactly where it is false
use Rattle.std.proofs.Common.{◌≡◌, ℕ, zero, suc, ◌+◌, ◌-◌, ◌<◌, ◌≤◌, inl, inr, List, [], ◌∷◌, length, take, drop, get_or, nat_lt, nat_eq, if◌then◌else◌, refl, sym, ◌∙◌, ap, arith, length-take, get_or-take, take-take, ext_get_or}
use Rattle.std.proofs.lemmas.Bool.{cases_lt, cases_eq, lt-ltb, le-ltb, eq-eqb, ne_eqb, cond-true, cond-false}
use Rattle.std.proofs.lemmas.List.{get_or-drop}
use Rattle.field_ext.specs.Ring.{Ops}
use Rattle.field_ext.specs.Field.{K, k_ops, zero_k}
use Rattle.field_ext.specs.Polynomial.{SamePolynomial, coefficients}
use Rattle.proof_wire.specs.declared.form.ProofForm.{ProofForm}
use Rattle.proof_wire.specs.Forms.{last_degree}
use Rattle.gkr_layers.specs.Places.{Place}
use Rattle.gkr_layers.specs.Forms.{last_polynomial, place_between}
use Rattle.gkr_layers.specs.Sumcheck.{round_polynomial}
use Rattle.gkr_layers.specs.Layers.{GateLayer, values_over, next_place, message_count}
use Rattle.gkr_layers.specs.Honest.{AreHonest}
use Rattle.gkr_layers.proofs.api.Lists.{drop-take}
use Rattle.gkr_layers.proofs.api.Degree.{length-round_polynomial, length-last}
use Rattle.gkr_layers.proofs.api.Coefficients.{length-coefficients}
use Rattle.audit_core.specs.Truth.{true_message}

-- what is in place n of a layer of k coordinates and of those below it: one thing for a round, one for the last message, one below
module _ {A : Type 0} (n k : ℕ) (x y z : A) where
  abbrev pub choice : A
  choice = if nat_lt n (k + k) then x else (if nat_eq n (k + k) then y else z)

  pub at_round : n < k + k → choice ≡ x
  at_round u = cond-true _ _ _ (lt-ltb n (k + k) u)

  pub at_last : n ≡ k + k → choice ≡ y
  at_last e = cond-false _ _ _ (le-ltb n (k + k) (omega arith)) ∙ cond-true _ _ _ (eq-eqb n (k + k) e)

  pub at_below : k + k < n → choice ≡ z
  at_below u = cond-false _ _ _ (le-ltb n (k + k) (omega arith)) ∙ cond-false _ _ _ (ne_eqb n (k + k) (omega arith))

-- in which of the three it is
pub data Part (n k : ℕ) : Type 0 where
  InRound : n < k + k → Part n k
  Last : n ≡ k + k → Part n k
  Below : k + k < n → Part n k

pub part_of : (n k : ℕ) → Part n k
part_of n k =
    elim (cases_lt n (k + k)) [
      | inl u ↦ InRound u
      | inr u ↦ elim (cases_eq n (k + k)) [ inl e ↦ Last e | inr d ↦ Below (omega arith) ]
    ]

-- how many coefficients message n has
abbrev pub size_at : ProofForm → List GateLayer → ℕ → ℕ
size_at form [] n = 0
size_at form (layer ∷ layers) n =
    if nat_lt n (layer.k + layer.k) then 3
    else (if nat_eq n (layer.k + layer.k) then last_degree form layer.k + 1 else size_at form layers (n - (layer.k + layer.k + 1)))

module _ {A : Type 0} (o : Ops A) where
  pub read-coefficients : (n : ℕ) (p : List A) (j : ℕ) → length p ≤ n → get_or (coefficients o n p) j o.zero ≡ get_or p j o.zero
  read-coefficients zero [] j u = refl
  read-coefficients zero (c ∷ cs) j u = absurd (omega arith)
  read-coefficients (suc n) [] zero u = refl
  read-coefficients (suc n) [] (suc j) u = read-coefficients n [] j (omega arith)
  read-coefficients (suc n) (c ∷ cs) zero u = refl
  read-coefficients (suc n) (c ∷ cs) (suc j) u = read-coefficients n cs j (omega arith)

-- a message of n coefficients is the same polynomial exactly where it is its coefficients
module _ (n : ℕ) (q p : List K) (size : length q ≡ n) (least : length p ≤ n) where
  pub same_is : SamePolynomial k_ops q p → q ≡ coefficients k_ops n p
  same_is s = ext_get_or zero_k q (coefficients k_ops n p) (size ∙ sym (length-coefficients k_ops n p)) (λ j u. s j ∙ sym (read-coefficients k_ops n p j least))

  pub is_same : q ≡ coefficients k_ops n p → SamePolynomial k_ops q p
  is_same e j = ap (λ (cs : List K). get_or cs j zero_k) e ∙ read-coefficients k_ops n p j least

module _ (form : ProofForm) where
  -- the size and the true polynomial in each of the three places
  module _ (layer : GateLayer) (layers : List GateLayer) (n : ℕ) where
    pub size_round : n < layer.k + layer.k → size_at form (layer ∷ layers) n ≡ 3
    size_round u = at_round n layer.k _ _ _ u

    pub size_last : n ≡ layer.k + layer.k → size_at form (layer ∷ layers) n ≡ last_degree form layer.k + 1
    size_last e = at_last n layer.k _ _ _ e

    pub size_below : layer.k + layer.k < n → size_at form (layer ∷ layers) n ≡ size_at form layers (n - (layer.k + layer.k + 1))
    size_below u = at_below n layer.k _ _ _ u

    module _ (input : List K) (place : Place K) (rs : List K) where
      pub true_round : n < layer.k + layer.k → true_message form (layer ∷ layers) input place rs n ≡ round_polynomial k_ops layer.k layer.gates (values_over k_ops layers input) place (take n rs) (layer.k + layer.k - 1 - n)
      true_round u = at_round n layer.k _ _ _ u

      pub true_last : n ≡ layer.k + layer.k → true_message form (layer ∷ layers) input place rs n ≡ last_polynomial k_ops form (values_over k_ops layers input) (take layer.k (take (layer.k + layer.k) rs)) (drop layer.k (take (layer.k + layer.k) rs))
      true_last e = at_last n layer.k _ _ _ e

      pub true_below : layer.k + layer.k < n → true_message form (layer ∷ layers) input place rs n ≡ true_message form layers input (next_place k_ops form layer.k rs) (drop (layer.k + layer.k + 1) rs) (n - (layer.k + layer.k + 1))
      true_below u = at_below n layer.k _ _ _ u

  pub below_read : {A : Type 0} (xs : List A) (d : A) (n m : ℕ) → m ≤ n → get_or (drop m xs) (n - m) d ≡ get_or xs n d
  below_read xs d n m u = get_or-drop m xs (n - m) d ∙ ap (λ i. get_or xs i d) (omega arith)

  -- an honest message is the true polynomial's coefficients
  pub honest_at : (layers : List GateLayer) (input : List K) (place : Place K) (ts : List (List K)) (rs : List K) (n : ℕ) → AreHonest form layers input place ts rs → n < message_count layers →
      get_or ts n [] ≡ coefficients k_ops (size_at form layers n) (true_message form layers input place rs n)
  honest_at [] input place ts rs n h u = absurd (omega arith)
  honest_at (layer ∷ layers) input place ts rs n h u =
      elim (part_of n layer.k) [
        | InRound v ↦
            let left : layer.k + layer.k - n - 1 ≡ layer.k + layer.k - 1 - n = omega arith in
            h.0.rounds n v
            ∙ ap (λ (i : ℕ). coefficients k_ops 3 (round_polynomial k_ops layer.k layer.gates (values_over k_ops layers input) place (take n rs) i)) left
            ∙ (λ i. coefficients k_ops (sym (size_round layer layers n v) i) (sym (true_round layer layers n input place rs v) i))
        | Last e ↦
            ap (λ (i : ℕ). get_or ts i []) e ∙ h.0.last
            ∙ (λ i. coefficients k_ops (sym (size_last layer layers n e) i) (sym (true_last layer layers n input place rs e) i))
        | Below v ↦
            let w : n - (layer.k + layer.k + 1) < message_count layers = omega (arith, u) in
            sym (below_read ts [] n (layer.k + layer.k + 1) (omega arith))
            ∙ honest_at layers input (next_place k_ops form layer.k rs) (drop (layer.k + layer.k + 1) ts) (drop (layer.k + layer.k + 1) rs) (n - (layer.k + layer.k + 1)) h.1 w
            ∙ (λ i. coefficients k_ops (sym (size_below layer layers n v) i) (sym (true_below layer layers n input place rs v) i))
      ]

  -- a true polynomial has no more coefficients than its place allows
  pub true_size : (layers : List GateLayer) (input : List K) (place : Place K) (rs : List K) (n : ℕ) → length (true_message form layers input place rs n) ≤ size_at form layers n
  true_size [] input place rs n = omega arith
  true_size (layer ∷ layers) input place rs n =
      elim (part_of n layer.k) [
        | InRound v ↦
            coe 0 1 (i. length (sym (true_round layer layers n input place rs v) i) ≤ sym (size_round layer layers n v) i)
            (length-round_polynomial k_ops layer.k layer.gates (values_over k_ops layers input) place (take n rs) (layer.k + layer.k - 1 - n))
        | Last e ↦
            let front : length (take layer.k (take (layer.k + layer.k) rs)) ≤ layer.k = omega (arith, length-take layer.k (take (layer.k + layer.k) rs)) in
            coe 0 1 (i. length (sym (true_last layer layers n input place rs e) i) ≤ sym (size_last layer layers n e) i)
            (length-last k_ops form (values_over k_ops layers input) (take layer.k (take (layer.k + layer.k) rs)) (drop layer.k (take (layer.k + layer.k) rs)) layer.k front)
        | Below v ↦
            coe 0 1 (i. length (sym (true_below layer layers n input place rs v) i) ≤ sym (size_below layer layers n v) i)
            (true_size layers input (next_place k_ops form layer.k rs) (drop (layer.k + layer.k + 1) rs) (n - (layer.k + layer.k + 1)))
      ]

  -- message n hangs on the first n challenges alone
  pub true_front : (layers : List GateLayer) (input : List K) (place : Place K) (rs : List K) (n m : ℕ) → n ≤ m → true_message form layers input place (take m rs) n ≡ true_message form layers input place rs n
  true_front [] input place rs n m u = refl
  true_front (layer ∷ layers) input place rs n m u =
      elim (part_of n layer.k) [
        | InRound v ↦
            true_round layer layers n input place (take m rs) v
            ∙ ap (λ (bound : List K). round_polynomial k_ops layer.k layer.gates (values_over k_ops layers input) place bound (layer.k + layer.k - 1 - n)) (take-take n m rs u)
            ∙ sym (true_round layer layers n input place rs v)
        | Last e ↦
            let front : take (layer.k + layer.k) (take m rs) ≡ take (layer.k + layer.k) rs = take-take (layer.k + layer.k) m rs (omega arith) in
            true_last layer layers n input place (take m rs) e
            ∙ (λ i. last_polynomial k_ops form (values_over k_ops layers input) (take layer.k (front i)) (drop layer.k (front i)))
            ∙ sym (true_last layer layers n input place rs e)
        | Below v ↦
            let front : take (layer.k + layer.k) (take m rs) ≡ take (layer.k + layer.k) rs = take-take (layer.k + layer.k) m rs (omega arith) in
            let next : next_place k_ops form layer.k (take m rs) ≡ next_place k_ops form layer.k rs =
            (λ i. place_between k_ops form (take layer.k (front i)) (drop layer.k (front i)) (get_or-take m rs (layer.k + layer.k) zero_k (omega arith) i)) in
            true_below layer layers n input place (take m rs) v
            ∙ (λ i. true_message form layers input (next i) (drop-take (layer.k + layer.k + 1) m rs i) (n - (layer.k + layer.k + 1)))
            ∙ true_front layers input (next_place k_ops form layer.k rs) (drop (layer.k + layer.k + 1) rs) (n - (layer.k + layer.k + 1)) (m - (layer.k + layer.k + 1)) (omega arith)
            ∙ sym (true_below layer layers n input place rs v)
      ]
