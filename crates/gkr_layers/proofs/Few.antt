-- Few challenges are exceptional, and the bounds add up
use Rattle.std.proofs.Common.{◌≡◌, ℕ, suc, ◌+◌, ◌-◌, ◌*◌, ◌<◌, ◌≤◌, ◌⊎◌, inl, inr, List, [], ◌∷◌, length, take, drop, get_or, nat_eq, MatchBool, refl, sym, ◌∙◌, ap, subst, arith, length-take, get_or-take, le-ltb, lt-ltb, ne_eqb, eq-eqb, All, replicate, map, add-one, Bool, zero, ◌++◌, true, false}
use Rattle.std.proofs.lemmas.List.{get_or_past, take_more, take_all}
use Rattle.std.proofs.lemmas.List.FromFn.{map-range_with_len_more}
use Rattle.std.specs.List.{range_with_len}
use Rattle.std.proofs.lemmas.List.Sums.{sum_by-cons}
use Rattle.std.proofs.lemmas.Bool.{cases_lt, cases_eq}
use Rattle.std.specs.Prelude.{sum}
use Rattle.field_ext.specs.Field.{K, k_ops}
use Rattle.field_ext.specs.Polynomial.{HasAtMost}
use Rattle.field_ext.proofs.api.KLaws.{k_laws, k_same, k_no_zero_divisors}
use Rattle.gkr_layers.specs.Sumcheck.{IsExceptionalFor, difference, IsExceptionalFold, round_polynomial}
use Rattle.gkr_layers.specs.Layers.{GateLayer, values_over, total_exponent, next_place, IsExceptional, message_count}
use Rattle.gkr_layers.proofs.Soundness.{few_exceptional}
use Rattle.gkr_layers.proofs.Output.{few_output}
use Rattle.gkr_layers.specs.Acceptance.{CircuitClaim, true_table, output_place, challenge_count}
use Rattle.gkr_layers.proofs.api.Lists.{drop-take}
use Rattle.gkr_layers.specs.Places.{Place}
use Rattle.proof_wire.specs.declared.form.ProofForm.{ProofForm}
use Rattle.proof_wire.specs.Forms.{last_degree}
use Rattle.gkr_layers.specs.Forms.{last_polynomial}
use Rattle.proof_wire.specs.declared.form.ProofForm.TheVariants.{Line, Pair}
use Rattle.gkr_layers.specs.Soundness.{IsExceptionalChallenge, layer_bounds, bounds_of, bounds, bound, sum_of_bounds, HaveDegrees}
use Rattle.gkr_layers.proofs.api.Degree.{length-round_polynomial, length-last}

few_none : (d : ℕ) → HasAtMost d (λ (v : K). ⊥)
few_none d [] distinct all = omega arith
few_none d (x ∷ xs) distinct all = absurd (all 0 x (omega arith))

one_of : (P Q : K → Type 0) (d : ℕ) {b : Bool} → b ≡ true → HasAtMost d P → HasAtMost d (λ v. MatchBool b (P v) (Q v))
one_of P Q d e h = subst (λ (c : Bool). HasAtMost d (λ v. MatchBool c (P v) (Q v))) (sym e) h

other_of : (P Q : K → Type 0) (d : ℕ) {b : Bool} → b ≡ false → HasAtMost d Q → HasAtMost d (λ v. MatchBool b (P v) (Q v))
other_of P Q d e h = subst (λ (c : Bool). HasAtMost d (λ v. MatchBool c (P v) (Q v))) (sym e) h

-- reads in a list that begins with m equal numbers
front-bound : (m x : ℕ) (rest : List ℕ) (n : ℕ) → n < m → get_or (replicate m x ++ rest) n 0 ≡ x
front-bound zero x rest n u = absurd (omega arith)
front-bound (suc m) x rest zero u = refl
front-bound (suc m) x rest (suc n) u = front-bound m x rest n (omega arith)

behind-bound : (m x : ℕ) (rest : List ℕ) (n : ℕ) → m ≤ n → get_or (replicate m x ++ rest) n 0 ≡ get_or rest (n - m) 0
behind-bound zero x rest n u = ap (λ (i : ℕ). get_or rest i 0) (let e : n ≡ n - 0 = omega arith in e)
behind-bound (suc m) x rest zero u = absurd (omega arith)
behind-bound (suc m) x rest (suc n) u = behind-bound m x rest n (omega arith) ∙ ap (λ (i : ℕ). get_or rest i 0) (let e : n - m ≡ suc n - suc m = omega arith in e)

next-bound : (k : ℕ) (rest : List ℕ) (i j : ℕ) → i ≡ suc j → get_or (k ∷ rest) i 0 ≡ get_or rest j 0
next-bound k rest i j e = ap (λ (n : ℕ). get_or (k ∷ rest) n 0) e

message_length : (qs : List (List K)) (m n : ℕ) → All (λ q. length q ≤ 3) (take m qs) → n < m → length (get_or qs n []) ≤ 3
message_length qs m n all u = by_place (cases_lt n (length qs))
  where
    by_place : (n < length qs) ⊎ (length qs ≤ n) → length (get_or qs n []) ≤ 3
    by_place (inl h) =
        let inside : n < length (take m qs) = omega (arith, length-take m qs) in
        subst (λ (q : List K). length q ≤ 3) (get_or-take m qs n [] u) (all n [] inside)
    by_place (inr h) = let e : length (get_or qs n []) ≡ 0 = ap length (get_or_past qs n [] h) in omega arith

front_all : (P : List K → Type 0) (j m : ℕ) (qs : List (List K)) → All P (take j qs) → All P (take j (take m qs))
front_all P j m qs all i d u =
    let a : i < j = omega (arith, u, length-take j (take m qs)) in
    let b : i < m = omega (arith, u, length-take j (take m qs), length-take m qs) in
    let c : i < length (take j qs) = omega (arith, u, length-take j (take m qs), length-take m qs, length-take j qs) in
    subst P (get_or-take j qs i d a ∙ sym (get_or-take m qs i d b) ∙ sym (get_or-take j (take m qs) i d a)) (all i d c)

module _ (form : ProofForm) where
  -- the first messages of messages with these degrees have them
  pub degrees_front : (layers : List GateLayer) (m : ℕ) (qs : List (List K)) → HaveDegrees form layers qs → HaveDegrees form layers (take m qs)
  degrees_front [] m qs degrees = tt
  degrees_front (layer ∷ layers) m qs degrees =
      let k = layer.k in (
        front_all (λ q. length q ≤ 3) (k + k) m qs degrees.0,
        last (cases_lt (layer.k + layer.k) m),
        subst (λ (ps : List (List K)). HaveDegrees form layers ps) (sym (drop-take (k + k + 1) m qs)) (degrees_front layers (m - (k + k + 1)) (drop (k + k + 1) qs) degrees.2),
      )
    where
      last : (layer.k + layer.k < m) ⊎ (m ≤ layer.k + layer.k) → length (get_or (take m qs) (layer.k + layer.k) []) ≤ last_degree form layer.k + 1
      last (inl u) = subst (λ (q : List K). length q ≤ last_degree form layer.k + 1) (sym (get_or-take m qs (layer.k + layer.k) [] u)) degrees.1
      last (inr u) =
          let over : length (take m qs) ≤ layer.k + layer.k = omega (arith, length-take m qs) in
          let e : length (get_or (take m qs) (layer.k + layer.k) []) ≡ 0 = ap length (get_or_past (take m qs) (layer.k + layer.k) [] over) in
          omega arith

  pub few_layers : (layers : List GateLayer) (input : List K) (place : Place K) (qs : List (List K)) (rs : List K) (n : ℕ) → HaveDegrees form layers qs →
      HasAtMost (get_or (layer_bounds form layers) n 0) (IsExceptional k_ops form layers input place qs rs n)
  few_layers [] input place qs rs n degrees = few_none 0
  few_layers (layer ∷ layers) input place qs rs n degrees =
      let k = layer.k in
      let d : ℕ = last_degree form layer.k in
      let t : List K = values_over k_ops layers input in
      let b : List K = take k (take (k + k) rs) in
      let c : List K = drop k (take (k + k) rs) in
      let Round : K → Type 0 = IsExceptionalFor k_ops (get_or qs n []) (round_polynomial k_ops k layer.gates t place (take n rs) (k + k - 1 - n)) in
      let Last : K → Type 0 = IsExceptionalFor k_ops (get_or qs n []) (last_polynomial k_ops form t b c) in
      let Below : K → Type 0 = IsExceptional k_ops form layers input (next_place k_ops form k rs) (drop (k + k + 1) qs) (drop (k + k + 1) rs) (n - (k + k + 1)) in
      let Behind : K → Type 0 = λ v. MatchBool (nat_eq n (k + k)) (Last v) (Below v) in
      let most : ℕ = get_or (layer_bounds form (layer ∷ layers)) n 0 in
      elim (cases_lt n (layer.k + layer.k)) [
        | inl u ↦
            one_of Round Behind most (lt-ltb n (k + k) u)
            (subst (λ (b : ℕ). HasAtMost b Round) (sym (front-bound (k + k) 2 (d ∷ layer_bounds form layers) n u))
            (few_exceptional k_ops k_laws k_no_zero_divisors 2 (get_or qs n []) (round_polynomial k_ops k layer.gates t place (take n rs) (k + k - 1 - n)) (message_length qs (k + k) n degrees.0 u)
            (length-round_polynomial k_ops k layer.gates t place (take n rs) (k + k - 1 - n))))
        | inr u ↦
            other_of Round Behind most (le-ltb n (k + k) u)
            (elim (cases_eq n (layer.k + layer.k)) [
              | inl e ↦
                  let zeroth : n - (layer.k + layer.k) ≡ 0 = omega arith in
                  let short : length (get_or qs n []) ≤ last_degree form layer.k + 1 = subst (λ (i : ℕ). length (get_or qs i []) ≤ last_degree form layer.k + 1) (sym e) degrees.1 in
                  let size : length (take layer.k (take (layer.k + layer.k) rs)) ≤ layer.k = omega (arith, length-take layer.k (take (layer.k + layer.k) rs)) in
                  one_of Last Below most (eq-eqb n (k + k) e)
                  (subst (λ (b : ℕ). HasAtMost b Last) (sym (behind-bound (k + k) 2 (d ∷ layer_bounds form layers) n u ∙ ap (λ (i : ℕ). get_or (d ∷ layer_bounds form layers) i 0) zeroth))
                  (few_exceptional k_ops k_laws k_no_zero_divisors d (get_or qs n []) (last_polynomial k_ops form t b c) short (length-last k_ops form t b c k size)))
              | inr m ↦
                  let step : n - (layer.k + layer.k) ≡ suc (n - (layer.k + layer.k + 1)) = omega arith in
                  other_of Last Below most (ne_eqb n (k + k) m)
                  (subst (λ (b : ℕ). HasAtMost b Below)
                  (sym (behind-bound (k + k) 2 (d ∷ layer_bounds form layers) n u ∙ next-bound d (layer_bounds form layers) (n - (k + k)) (n - (k + k + 1)) step))
                  (few_layers layers input (next_place k_ops form k rs) (drop (k + k + 1) qs) (drop (k + k + 1) rs) (n - (k + k + 1)) degrees.2))
            ])
      ]

pub few_challenges : (stated : CircuitClaim) (qs : List (List K)) (rs : List K) (n : ℕ) → HaveDegrees stated.form stated.layers qs → HasAtMost (bound stated n) (IsExceptionalChallenge stated qs rs n)
few_challenges stated qs rs n degrees =
    let k = stated.k in
    let Output : K → Type 0 = IsExceptionalFold k_ops (difference k_ops stated.claimed_table (true_table stated)) (take n rs) in
    let Below : K → Type 0 = IsExceptional k_ops stated.form stated.layers stated.input_table (output_place stated rs) qs (drop k rs) (n - k) in
    elim (cases_lt n stated.k) [
      | inl u ↦
          one_of Output Below (bound stated n) (lt-ltb n k u)
          (subst (λ (b : ℕ). HasAtMost b Output) (sym (front-bound k 1 (layer_bounds stated.form stated.layers) n u)) (few_output k_ops k_laws k_same k_no_zero_divisors (difference k_ops stated.claimed_table (true_table stated)) (take n rs)))
      | inr u ↦
          other_of Output Below (bound stated n) (le-ltb n k u)
          (subst (λ (b : ℕ). HasAtMost b Below) (sym (behind-bound k 1 (layer_bounds stated.form stated.layers) n u)) (few_layers stated.form stated.layers stated.input_table (output_place stated rs) qs (drop k rs) (n - k) degrees))
    ]

sum-front : (m x : ℕ) (rest : List ℕ) → sum (replicate m x ++ rest) ≡ m * x + sum rest
sum-front zero x rest = omega arith
sum-front (suc m) x rest =
    let first : sum (replicate (suc m) x ++ rest) ≡ x + sum (replicate m x ++ rest) = sum_by-cons (λ y. y) x (replicate m x ++ rest) in
    let times : suc m * x ≡ x + m * x = omega arith in
    omega (arith, first, times, sum-front m x rest)

module _ (form : ProofForm) where
  bounds_front : (layer : GateLayer) (layers : List GateLayer) → sum (layer_bounds form (layer ∷ layers)) ≡ (layer.k + layer.k) * 2 + last_degree form layer.k + sum (layer_bounds form layers)
  bounds_front layer layers =
      let last : sum (last_degree form layer.k ∷ layer_bounds form layers) ≡ last_degree form layer.k + sum (layer_bounds form layers) = sum_by-cons (λ y. y) (last_degree form layer.k) (layer_bounds form layers) in
      omega (arith, last, sum-front (layer.k + layer.k) 2 (last_degree form layer.k ∷ layer_bounds form layers))

line_sum : (layers : List GateLayer) → sum (layer_bounds Line layers) ≡ 5 * total_exponent layers
line_sum [] = refl
line_sum (layer ∷ layers) = omega (arith, bounds_front Line layer layers, line_sum layers)

pair_sum : (layers : List GateLayer) → sum (layer_bounds Pair layers) ≡ 4 * total_exponent layers + length layers
pair_sum [] = refl
pair_sum (layer ∷ layers) = omega (arith, bounds_front Pair layer layers, pair_sum layers)

-- there is one bound for each challenge
length-front : (m x : ℕ) (rest : List ℕ) → length (replicate m x ++ rest) ≡ m + length rest
length-front zero x rest = omega arith
length-front (suc m) x rest = omega (arith, length-front m x rest)

length-bounds : (form : ProofForm) (layers : List GateLayer) → length (layer_bounds form layers) ≡ message_count layers
length-bounds form [] = refl
length-bounds form (layer ∷ layers) = omega (arith, length-front (layer.k + layer.k) 2 (last_degree form layer.k ∷ layer_bounds form layers), length-bounds form layers)

pub one_each : (stated : CircuitClaim) → length (bounds stated) ≡ challenge_count stated
one_each stated = omega (arith, length-front stated.k 1 (layer_bounds stated.form stated.layers), length-bounds stated.form stated.layers)

-- what is read at each of the first places is the prefix
front_read : (xs : List ℕ) (n : ℕ) → n ≤ length xs → map (λ (i : ℕ). get_or xs i 0) (range_with_len 0 n) ≡ take n xs
front_read xs zero u = refl
front_read xs (suc n) u =
    let f : ℕ → ℕ = λ i. get_or xs i 0 in
    let here : n < length xs = omega (arith, u) in
    ap (λ (m : ℕ). map f (range_with_len 0 m)) (sym (add-one n))
    ∙ map-range_with_len_more f 0 n n (omega arith)
    ∙ ap (λ (ys : List ℕ). ys ++ get_or xs n 0 ∷ []) (front_read xs n (omega (arith, u)))
    ∙ sym (take_more xs n 0 here)
    ∙ ap (λ (m : ℕ). take m xs) (add-one n)

-- so that the bounds of all challenges add to the bounds
summed : (form : ProofForm) (k : ℕ) (layers : List GateLayer) → sum_of_bounds form k layers ≡ k + sum (layer_bounds form layers)
summed form k layers =
    let all : List ℕ = bounds_of form k layers in
    let count : length (bounds_of form k layers) ≡ k + message_count layers = omega (arith, length-front k 1 (layer_bounds form layers), length-bounds form layers) in
    ap sum (front_read all (k + message_count layers) (omega (arith, count)) ∙ take_all (k + message_count layers) all (omega (arith, count)))
    ∙ omega (arith, sum-front k 1 (layer_bounds form layers))

pub line_bounds_add : (k : ℕ) (layers : List GateLayer) → sum_of_bounds Line k layers ≡ k + 5 * total_exponent layers
line_bounds_add k layers = omega (arith, summed Line k layers, line_sum layers)

pub pair_bounds_add : (k : ℕ) (layers : List GateLayer) → sum_of_bounds Pair k layers ≡ k + 4 * total_exponent layers + length layers
pair_bounds_add k layers = omega (arith, summed Pair k layers, pair_sum layers)
