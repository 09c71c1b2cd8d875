-- Messages among elements, one layer more at a time
use Rattle.std.proofs.Common.{◌≡◌, ℕ, zero, suc, ◌+◌, ◌-◌, ◌*◌, ◌/◌, ◌<◌, ◌≤◌, min, List, [], ◌∷◌, ◌++◌, length, take, get_or, set, replicate, Bool, if◌then◌else◌, inl, inr, refl, sym, ◌∙◌, ap, subst, arith, length-append}
use Rattle.std.proofs.lemmas.Bool.{cases_lt, le-leb, lt-leb}
use Rattle.std.proofs.lemmas.List.{length-replicate}
use Rattle.std.proofs.lemmas.List.Concat.{flat_map-cons}
use Rattle.std.proofs.lemmas.List.Folds.{length-flat_map-take}
use Rattle.std.proofs.lemmas.List.Sums.{sum_by-append}
use Rattle.gkr_layers.specs.Layers.{GateLayer, lower_exponents, message_count, total_exponent}
use Rattle.proof_wire.specs.declared.form.ProofForm.TheVariants.{Line}
use Rattle.proof_wire.specs.declared.messages.LayerMessages.{LayerMessages}
use Rattle.proof_wire.specs.Lists.{HasShape, HaveShape}
use Rattle.proof_wire.specs.Spelling.{all_coefficients, coefficient_count, layer_coefficients}
use Rattle.live_session.specs.Layout.{sizes_of, whole}

pub due_more : (k : ℕ) (ks : List ℕ) → coefficient_count Line (k ∷ ks) ≡ (7 * k + 1) + coefficient_count Line ks
due_more k ks = sum_by-append (λ k. 6 * k + (k + 1)) (k ∷ []) ks ∙ ap (λ m. m + coefficient_count Line ks) (omega arith)

-- how many elements the messages of all layers have
pub due : (layers : List GateLayer) → 7 * total_exponent layers + length layers ≡ coefficient_count Line (lower_exponents layers)
due [] = refl
due (layer ∷ layers) = omega (arith, due layers, due_more layer.k (lower_exponents layers))

pub whole_step : (size n : ℕ) (sizes : List ℕ) → size ≤ n → whole (size ∷ sizes) n ≡ suc (whole sizes (n - size))
whole_step size n sizes u = ap (λ (b : Bool). if b then suc (whole sizes (n - size)) else 0) (le-leb size n u)

pub whole_stop : (size n : ℕ) (sizes : List ℕ) → n < size → whole (size ∷ sizes) n ≡ 0
whole_stop size n sizes u = ap (λ (b : Bool). if b then suc (whole sizes (n - size)) else 0) (lt-leb size n u)

rounds_all : (m n : ℕ) (rest : List ℕ) → 3 * m ≤ n → whole (replicate m 3 ++ rest) n ≡ m + whole rest (n - 3 * m)
rounds_all zero n rest u = let e : n ≡ n - 3 * 0 = omega arith in omega (arith, ap (whole rest) e)
rounds_all (suc m) n rest u =
    let e : n - 3 - 3 * m ≡ n - 3 * suc m = omega arith in
    omega (arith, whole_step 3 n (replicate m 3 ++ rest) (omega arith), rounds_all m (n - 3) rest (omega arith), ap (whole rest) e)

rounds_some : (m n : ℕ) (rest : List ℕ) → n < 3 * m → whole (replicate m 3 ++ rest) n ≡ n / 3
rounds_some zero n rest u = absurd (omega arith)
rounds_some (suc m) n rest u = elim (cases_lt n 3) [
  | inl v ↦ omega (arith, whole_stop 3 n (replicate m 3 ++ rest) v)
  | inr v ↦ omega (arith, whole_step 3 n (replicate m 3 ++ rest) v, rounds_some m (n - 3) rest (omega arith))
]

-- a layer of which all messages are whole
pub layer_all : (k n : ℕ) (ks : List ℕ) → 7 * k + 1 ≤ n → whole (sizes_of (k ∷ ks)) n ≡ (2 * k + 1) + whole (sizes_of ks) (n - (7 * k + 1))
layer_all k n ks u =
    let e : n - 3 * (k + k) - (k + 1) ≡ n - (7 * k + 1) = omega arith in
    omega (arith, rounds_all (k + k) n ((k + 1) ∷ sizes_of ks) (omega arith), whole_step (k + 1) (n - 3 * (k + k)) (sizes_of ks) (omega arith), ap (whole (sizes_of ks)) e)

-- and one of which the line isn't
pub layer_part : (k n : ℕ) (ks : List ℕ) → n < 7 * k + 1 → whole (sizes_of (k ∷ ks)) n ≡ min (n / 3) (2 * k)
layer_part k n ks u = elim (cases_lt n (3 * (k + k))) [
  | inl v ↦ omega (arith, rounds_some (k + k) n ((k + 1) ∷ sizes_of ks) v)
  | inr v ↦ omega (arith, rounds_all (k + k) n ((k + 1) ∷ sizes_of ks) v, whole_stop (k + 1) (n - 3 * (k + k)) (sizes_of ks) (omega arith))
]

pub whole-most : (sizes : List ℕ) (n : ℕ) → whole sizes n ≤ length sizes
whole-most [] n = omega arith
whole-most (size ∷ sizes) n = elim (cases_lt n size) [
  | inl v ↦ omega (arith, whole_stop size n sizes v)
  | inr v ↦ omega (arith, whole_step size n sizes v, whole-most sizes (n - size))
]

-- there is a size for each message
pub length-sizes : (layers : List GateLayer) → length (sizes_of (lower_exponents layers)) ≡ message_count layers
length-sizes [] = refl
length-sizes (layer ∷ layers) =
    omega (arith, length-append (replicate (layer.k + layer.k) 3) ((layer.k + 1) ∷ sizes_of (lower_exponents layers)), length-replicate {A = ℕ} (layer.k + layer.k) 3, length-sizes layers)

-- and all are whole in all elements
pub whole_all : (layers : List GateLayer) → whole (sizes_of (lower_exponents layers)) (coefficient_count Line (lower_exponents layers)) ≡ message_count layers
whole_all [] = refl
whole_all (layer ∷ layers) =
    let n = coefficient_count Line (lower_exponents (layer ∷ layers)) in
    let more = due_more layer.k (lower_exponents layers) in
    let e : coefficient_count Line (lower_exponents (layer ∷ layers)) - (7 * layer.k + 1) ≡ coefficient_count Line (lower_exponents layers) = omega arith in
    omega (arith, layer_all layer.k n (lower_exponents layers) (omega arith), ap (whole (sizes_of (lower_exponents layers))) e, whole_all layers)

-- other elements in a layer's messages
module _ (old new : LayerMessages) (same : length (layer_coefficients new) ≡ length (layer_coefficients old)) (shapes : (k : ℕ) → HasShape Line k old → HasShape Line k new) where
  pub replaced_shape : (ks : List ℕ) (layers : List LayerMessages) (i : ℕ) → old ≡ get_or layers i old → HaveShape Line ks layers → HaveShape Line ks (set layers i new)
  replaced_shape [] [] i e h = h
  replaced_shape [] (m ∷ ms) i e h = absurd h
  replaced_shape (k ∷ ks) [] i e h = absurd h
  replaced_shape (k ∷ ks) (m ∷ ms) zero e h = (shapes k (subst (HasShape Line k) (sym e) h.0), h.1)
  replaced_shape (k ∷ ks) (m ∷ ms) (suc i) e h = (h.0, replaced_shape ks ms i e h.1)

  count_cons : (m : LayerMessages) (ms : List LayerMessages) → length (all_coefficients (m ∷ ms)) ≡ length (layer_coefficients m) + length (all_coefficients ms)
  count_cons m ms = ap length (flat_map-cons layer_coefficients m ms) ∙ length-append (layer_coefficients m) (all_coefficients ms)

  pub replaced_count : (layers : List LayerMessages) (i : ℕ) → old ≡ get_or layers i old → i < length layers → length (all_coefficients (set layers i new)) ≡ length (all_coefficients layers)
  replaced_count [] i e u = absurd (omega arith)
  replaced_count (m ∷ ms) zero e u = omega (arith, count_cons new ms, count_cons m ms, same, ap (λ (x : LayerMessages). length (layer_coefficients x)) e)
  replaced_count (m ∷ ms) (suc i) e u = omega (arith, count_cons m (set ms i new), count_cons m ms, replaced_count ms i e (omega arith))

-- a layer's elements are among those of all
pub next_within : (layers : List LayerMessages) (i from n : ℕ) (old d : LayerMessages) → i < length layers → old ≡ get_or layers i d → from ≡ length (all_coefficients (take i layers)) → length (all_coefficients layers) ≡ n →
    from + length (layer_coefficients old) ≤ n
next_within layers i from n old d u e f g = omega (arith, length-flat_map-take layer_coefficients layers i d u, ap (λ (x : LayerMessages). length (layer_coefficients x)) e, f, g)
