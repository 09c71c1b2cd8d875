-- The working tables begin a layer's sum, and go from challenge to challenge
use Rattle.std.proofs.Common.{◌≡◌, ℕ, suc, ◌+◌, ◌-◌, ◌*◌, ◌^◌, ◌<◌, ◌≤◌, List, [], ◌∷◌, ◌++◌, length, take, get_or, if◌then◌else◌, ◌==◌, All, ◌⊎◌, inl, inr, refl, sym, ◌∙◌, ap, ap₂, arith, append_assoc, append-nil, length-append}
use Rattle.std.proofs.lemmas.Bool.{cases_lt}
use Rattle.std.proofs.lemmas.List.{length-take-le}
use Rattle.std.proofs.lemmas.List.Elements.{All-head, All-tail}
use Rattle.field_ext.specs.Ring.{Ops, Laws}
use Rattle.field_ext.specs.Sums.{sum_cube}
use Rattle.field_ext.specs.Multilinear.{eq_poly, extension_at, folded}
use Rattle.mle_table.proofs.api.SumLaws.{sum_cube-same}
use Rattle.mle_table.proofs.api.Points.{ext-nil}
use Rattle.circuit_core.specs.declared.gate.CircuitGate.{CircuitGate}
use Rattle.wiring_poly.specs.Wiring.{sum_gates}
use Rattle.gkr_layers.specs.Places.{Place, weighted_summand_at}
use Rattle.round_tables.specs.Weights.{position_weight}
use Rattle.gate_gather.specs.Gathering.{scale_of, shift_of, factor_of, Gathers, GathersLeft, GathersRight}
use Rattle.table_parts.specs.Tables.{IsFolded, StandFor}
use Rattle.round_tables.specs.LayerSum.{left_in_phase, after_phase, half_size}
use Rattle.table_parts.specs.PartTables.{cuts_left}
use Rattle.round_tables.specs.Phase.{IsLayer, IsPhase}
use Rattle.round_tables.proofs.PhaseSums.{left_phase, right_phase}
use Rattle.table_parts.proofs.api.RoundPairs.{ext-folded, stand-folded}
use Rattle.mle_table.proofs.api.EqualitySteps.{doubling_fits}
use Rattle.circuit_core.specs.Parts.{IsOver}
use Rattle.round_tables.proofs.PieceValues.{in_left_phase, in_right_phase}

pub length-bound : {A : Type 0} (bound : List A) (r : A) → length (bound ++ r ∷ []) ≡ length bound + 1
length-bound bound r = length-append bound (r ∷ [])

module _ {A : Type 0} (o : Ops A) (l : Laws A o) where
  -- sums over gates agree where the terms of each gate at its place do
  sum_gates-placed : (P : CircuitGate → Type 0) (s n : ℕ) (gates : List CircuitGate) (f h : ℕ → CircuitGate → A) → s + length gates ≡ n → All P gates → ((g : ℕ) (gate : CircuitGate) → g < n → P gate → f g gate ≡ h g gate) → sum_gates o s gates f ≡ sum_gates o s gates h
  sum_gates-placed P s n [] f h u a e = refl
  sum_gates-placed P s n (gate ∷ gates) f h u a e =
      ap₂ o.add (e s gate (omega arith) (All-head P gate gates a)) (sum_gates-placed P (s + 1) n gates f h (omega arith) (All-tail P gate gates a) e)

  gathers-same : (P : CircuitGate → Type 0) (t : List A) (from : ℕ) (gates : List CircuitGate) (place : CircuitGate → ℕ) (weight weight' : ℕ → CircuitGate → A) → All P gates →
      ((g : ℕ) (gate : CircuitGate) → g < length gates → P gate → weight g gate ≡ weight' g gate) → Gathers o t from gates place weight → Gathers o t from gates place weight'
  gathers-same P t from gates place weight weight' a e gathers x v =
      gathers x v
      ∙ sum_gates-placed P 0 (length gates) gates _ _ (omega arith) a (λ g gate u p. ap (λ (w : A). if place gate == from + x then w else o.zero) (e g gate u p))

  module _ (k : ℕ) (gates : List CircuitGate) (values : List A) (point : Place A) where
    abbrev Below : CircuitGate → Type 0
    Below gate = IsOver (2 ^ k) gate

    -- the tables that are gathered by left operands begin the first phase
    pub started : IsLayer A k gates values point → (weight : ℕ → A) (table scales shifts : List A) →
        ((g : ℕ) → g < length gates → weight g ≡ position_weight o point g) → table ≡ values → length scales ≡ 2 ^ k → length shifts ≡ 2 ^ k →
        GathersLeft A o gates weight values 0 scales shifts → IsPhase A o k gates values point [] table scales shifts
    started layer weight table scales shifts pe te ls lh gathers =
        let phase = in_left_phase k 0 layer.least in
        let is_eq : (g : ℕ) (gate : CircuitGate) → g < length gates → weight g ≡ position_weight o point g = λ g gate u. pe g u in
        record {
          value = λ _ w e. ap (λ (t : List A). extension_at o o (λ x. x) t w) te;
          stand = λ w e.
              let size : length w ≡ k = omega (arith, phase.0, e) in
              ap (λ (i : ℕ). sum_cube o i (λ c. weighted_summand_at o o (λ x. x) k gates values point (w ++ c))) phase.1
              ∙ left_phase o l k gates values point w scales shifts size ls lh layer.operands
              (gathers-same Below scales 0 gates (λ gate. gate.left) _ _ layer.operands (λ g gate u p. ap (λ (x : A). scale_of o gate x (get_or values gate.right o.zero)) (is_eq g gate u)) gathers.scaled)
              (gathers-same Below shifts 0 gates (λ gate. gate.left) _ _ layer.operands (λ g gate u p. ap (λ (x : A). shift_of o gate x (get_or values gate.right o.zero)) (is_eq g gate u)) gathers.shifted)
              ∙ ap (λ (t : List A). o.add (o.mul (extension_at o o (λ x. x) t w) (extension_at o o (λ x. x) scales w)) (extension_at o o (λ x. x) shifts w)) (sym te);
        }

    -- one more challenge within a phase
    stand-bound : (bound : List A) (r : A) (m : ℕ) (t s h t' s' h' : List A) → left_in_phase k (length bound) ≡ suc m →
        left_in_phase k (length (bound ++ r ∷ [])) ≡ m → after_phase k (length (bound ++ r ∷ [])) ≡ after_phase k (length bound) →
        IsFolded o (2 ^ m) t r t' → IsFolded o (2 ^ m) s r s' → IsFolded o (2 ^ m) h r h' →
        StandFor o (left_in_phase k (length bound)) (λ w. sum_cube o (after_phase k (length bound)) (λ c. weighted_summand_at o o (λ x. x) k gates values point (bound ++ (w ++ c)))) t s h →
        StandFor o (left_in_phase k (length (bound ++ r ∷ []))) (λ w. sum_cube o (after_phase k (length (bound ++ r ∷ []))) (λ c. weighted_summand_at o o (λ x. x) k gates values point ((bound ++ r ∷ []) ++ (w ++ c)))) t' s' h'
    stand-bound bound r m t s h t' s' h' left left' after ft fs fh stand w e =
        let f : List A → A = λ w. sum_cube o (after_phase k (length bound)) (λ c. weighted_summand_at o o (λ x. x) k gates values point (bound ++ (w ++ c))) in
        let stand' : StandFor o (suc m) f t s h = λ w s. stand w (s ∙ sym left) in
        ap (λ (i : ℕ). sum_cube o i (λ c. weighted_summand_at o o (λ x. x) k gates values point ((bound ++ r ∷ []) ++ (w ++ c)))) after
        ∙ sum_cube-same o l (after_phase k (length bound)) _ _ (λ c. ap (weighted_summand_at o o (λ x. x) k gates values point) (append_assoc bound (r ∷ []) (w ++ c)))
        ∙ stand-folded o l m f t s h t' s' h' r stand' ft fs fh w (e ∙ left')

    pub bound_left : (bound t s h : List A) (r : A) (m : ℕ) (t' s' h' : List A) → IsPhase A o k gates values point bound t s h → length bound + 1 < k → left_in_phase k (length bound) ≡ suc m →
        IsFolded o (2 ^ m) t r t' → IsFolded o (2 ^ m) s r s' → IsFolded o (2 ^ m) h r h' →
        IsPhase A o k gates values point (bound ++ r ∷ []) t' s' h'
    bound_left bound t s h r m t' s' h' phase u is ft fs fh =
        let n = length-bound bound r in
        let now = in_left_phase k (length bound) (omega arith) in
        let next = in_left_phase k (length (bound ++ r ∷ [])) (omega arith) in
        record {
          value = λ _ w e.
              ext-folded o l m t t' r w (omega (arith, n, e, now.0, is)) ft
              ∙ phase.value (omega arith) (r ∷ w) (omega (arith, n, e))
              ∙ ap (extension_at o o (λ x. x) values) (sym (append_assoc bound (r ∷ []) w));
          stand = stand-bound bound r m t s h t' s' h' is (omega (arith, now.0, is, next.0, n)) (next.1 ∙ sym now.1) ft fs fh phase.stand;
        }

    pub bound_right : (bound t s h : List A) (r : A) (m : ℕ) (t' s' h' : List A) → IsPhase A o k gates values point bound t s h → 1 ≤ k → k ≤ length bound → length bound < k + k → left_in_phase k (length bound) ≡ suc m →
        IsFolded o (2 ^ m) t r t' → IsFolded o (2 ^ m) s r s' → IsFolded o (2 ^ m) h r h' →
        IsPhase A o k gates values point (bound ++ r ∷ []) t' s' h'
    bound_right bound t s h r m t' s' h' phase least u v is ft fs fh =
        let n = length-bound bound r in
        let now = in_right_phase k (length bound) u in
        let next = in_right_phase k (length (bound ++ r ∷ [])) (omega arith) in
        record {
          value = λ w. absurd (omega (arith, n, w));
          stand = stand-bound bound r m t s h t' s' h' is (omega (arith, now.0, is, next.0, n)) (next.1 ∙ sym now.1) ft fs fh phase.stand;
        }

    -- after the last challenge of the first phase the one value of its table is the left operand's
    pub kept_value : (bound t s h : List A) (r : A) (t' : List A) → IsPhase A o k gates values point bound t s h → length bound + 1 ≡ k → IsFolded o (2 ^ 0) t r t' →
        get_or t' 0 o.zero ≡ extension_at o o (λ x. x) values (bound ++ r ∷ [])
    kept_value bound t s h r t' phase u ft = sym (ext-nil o l t') ∙ ext-folded o l 0 t t' r [] refl ft ∙ phase.value (omega arith) (r ∷ []) (omega arith)

    -- the tables that are gathered by right operands begin the second phase
    pub entered : IsLayer A k gates values point → (b : List A) → length b ≡ k → (weight : ℕ → A) (table scales shifts : List A) →
        ((g : ℕ) → g < length gates → weight g ≡ position_weight o point g) → table ≡ values → length scales ≡ 2 ^ k → length shifts ≡ 2 ^ k →
        GathersRight A o gates weight (eq_poly o b) (extension_at o o (λ x. x) values b) 0 scales shifts → IsPhase A o k gates values point b table scales shifts
    entered layer b full weight table scales shifts pe te ls lh gathers =
        let next = in_right_phase k (length b) (omega arith) in
        let factor : (g : ℕ) (gate : CircuitGate) → g < length gates → Below gate → factor_of o weight (eq_poly o b) g gate ≡ o.mul (position_weight o point g) (eq_poly o b gate.left) =
        λ g gate v p. ap (λ (x : A). o.mul x (eq_poly o b gate.left)) (pe g v) in
        record {
          value = λ w. absurd (omega (arith, full, w));
          stand = λ w e.
              let size : length w ≡ k = omega (arith, next.0, e, full) in
              ap (λ (i : ℕ). sum_cube o i (λ c. weighted_summand_at o o (λ x. x) k gates values point (b ++ (w ++ c)))) next.1
              ∙ ap (λ (v : List A). weighted_summand_at o o (λ x. x) k gates values point (b ++ v)) (append-nil w)
              ∙ right_phase o l k gates values point b w scales shifts full size ls lh layer.operands
              (gathers-same Below scales 0 gates (λ gate. gate.right) _ _ layer.operands (λ g gate v p. ap (λ (f : A). scale_of o gate f (extension_at o o (λ x. x) values b)) (factor g gate v p)) gathers.scaled)
              (gathers-same Below shifts 0 gates (λ gate. gate.right) _ _ layer.operands (λ g gate v p. ap (λ (f : A). shift_of o gate f (extension_at o o (λ x. x) values b)) (factor g gate v p)) gathers.shifted)
              ∙ ap (λ (t : List A). o.add (o.mul (extension_at o o (λ x. x) t w) (extension_at o o (λ x. x) scales w)) (extension_at o o (λ x. x) shifts w)) (sym te);
        }

    -- weights that agree gather the same
    pub left_weighed : All Below gates → (weight weight' : ℕ → A) (from : ℕ) (scales shifts : List A) → ((g : ℕ) → g < length gates → weight g ≡ weight' g) →
        GathersLeft A o gates weight values from scales shifts → GathersLeft A o gates weight' values from scales shifts
    left_weighed operands weight weight' from scales shifts same gathers = record {
      scaled = gathers-same Below scales from gates (λ gate. gate.left) _ _ operands (λ g gate u p. ap (λ (x : A). scale_of o gate x (get_or values gate.right o.zero)) (same g u)) gathers.scaled;
      shifted = gathers-same Below shifts from gates (λ gate. gate.left) _ _ operands (λ g gate u p. ap (λ (x : A). shift_of o gate x (get_or values gate.right o.zero)) (same g u)) gathers.shifted;
    }

    pub right_weighed : All Below gates → (weight weight' left : ℕ → A) (value : A) (from : ℕ) (scales shifts : List A) → ((g : ℕ) → g < length gates → weight g ≡ weight' g) →
        GathersRight A o gates weight left value from scales shifts → GathersRight A o gates weight' left value from scales shifts
    right_weighed operands weight weight' left value from scales shifts same gathers = record {
      scaled = gathers-same Below scales from gates (λ gate. gate.right) _ _ operands (λ g gate u p. ap (λ (x : A). scale_of o gate (o.mul x (left gate.left)) value) (same g u)) gathers.scaled;
      shifted = gathers-same Below shifts from gates (λ gate. gate.right) _ _ operands (λ g gate u p. ap (λ (x : A). shift_of o gate (o.mul x (left gate.left)) value) (same g u)) gathers.shifted;
    }

-- the pairs of a round fit the tables
pub half_fits : (k n size : ℕ) → 1 ≤ k → n < k + k → size ≡ 2 ^ k → 2 * 2 ^ (left_in_phase k n - 1) ≤ size
half_fits k n size least u is = by_phase (cases_lt n k)
  where
    fits : (m : ℕ) → m < k → left_in_phase k n ≡ suc m → 2 * 2 ^ (left_in_phase k n - 1) ≤ size
    fits m v e =
        let d : left_in_phase k n - 1 ≡ m = omega arith in
        let h : 2 * 2 ^ m ≤ size = doubling_fits m k size (2 ^ m) v refl (omega arith) in rw d h

    by_phase : (n < k) ⊎ (k ≤ n) → 2 * 2 ^ (left_in_phase k n - 1) ≤ size
    by_phase (inl v) = fits (k - n - 1) (omega arith) ((in_left_phase k n v).0 ∙ omega arith)
    by_phase (inr v) = fits (k + k - n - 1) (omega arith) ((in_right_phase k n v).0 ∙ omega arith)

pub some_left : (k n n' : ℕ) → n ≡ n' → n' < k + k → left_in_phase k n ≡ suc (left_in_phase k n' - 1)
some_left k n n' e u = by_phase (cases_lt n' k)
  where
    by_phase : (n' < k) ⊎ (k ≤ n') → left_in_phase k n ≡ suc (left_in_phase k n' - 1)
    by_phase (inl v) = let p = (in_left_phase k n' v).0 in let q = ap (left_in_phase k) e in omega (arith, p, q)
    by_phase (inr v) = let p = (in_right_phase k n' v).0 in let q = ap (left_in_phase k) e in omega (arith, p, q)

-- where a part has more pairs than one, the next challenge isn't the last
pub more-left : (k n : ℕ) → n < k + k → 1 < half_size k n → n + 1 < k + k
more-left k n u more = by_last (cases_lt (n + 1) (k + k))
  where
    by_last : (n + 1 < k + k) ⊎ (k + k ≤ n + 1) → n + 1 < k + k
    by_last (inl v) = v
    by_last (inr v) = let none : left_in_phase k n - 1 - cuts_left k (left_in_phase k n) ≡ 0 = omega (arith, (in_right_phase k n (omega (arith, u, v))).0, u, v) in
        absurd (omega (arith, more, ap (λ (x : ℕ). 2 ^ x) none))

pub length-count : {A : Type 0} (challenges : List A) (k count : ℕ) → length challenges ≡ k + k → count ≤ k + k → length (take count challenges) ≡ count
length-count challenges k count capacity u = length-take-le count challenges (omega arith)

-- folded tables where the size and the old table are equal
pub folded_along : {A : Type 0} (o : Ops A) (n n' : ℕ) (t t' : List A) (r : A) (new : List A) → n ≡ n' → t ≡ t' → IsFolded o n t r new → IsFolded o n' t' r new
folded_along o n n' t t' r new e f is j u = is j (rw e u) ∙ (λ i. get_or (folded o (f i) r) j o.zero)

-- between the starts of the phases no phase begins
pub no_start : {X : Type 0} (k n count : ℕ) → count ≡ n + 1 → (n + 1 < k) ⊎ (k ≤ n) → (count ≡ 0) ⊎ (count ≡ k) → X
no_start k n count e u (inl h) = absurd (omega (arith, e, h))
no_start k n count e (inl u) (inr h) = absurd (omega (arith, e, u, h))
no_start k n count e (inr u) (inr h) = absurd (omega (arith, e, u, h))
