-- Ranges of a phase's places, one after another, are the phase
use Rattle.std.proofs.Common.{◌≡◌, ℕ, ◌+◌, ◌-◌, ◌*◌, ◌^◌, ◌<◌, ◌≤◌, ◌⊎◌, inl, inr, List, [], ◌∷◌, ◌++◌, length, get_or, All, refl, sym, ◌∙◌, ap, ap₂, arith, subst, Bool, length-append, vec_capacity}
use Rattle.std.proofs.lemmas.Bool.{cases_lt}
use Rattle.std.proofs.lemmas.List.{get_or_append_left, get_or-append_right}
use Rattle.std.proofs.lemmas.List.Elements.{All-append}
use Rattle.field_ext.specs.Ring.{Ops}
use Rattle.field_ext.specs.Field.{K, k_ops}
use Rattle.field_ext.specs.Multilinear.{eq_poly, extension_at}
use Rattle.circuit_core.specs.declared.gate.CircuitGate.{CircuitGate}
use Rattle.gkr_layers.specs.Places.{Place}
use Rattle.gate_gather.specs.Gathering.{given_from, Gathers, left_of, right_of, left_scale, left_shift, scale_of, shift_of, factor_of}
use Rattle.round_tables.specs.LayerSum.{LayerSum}
use Rattle.table_parts.specs.PartTables.{PartTables, HasSize, flat, flat_scales, flat_shifts}
use Rattle.round_tables.specs.Weights.{position_weight}
use Rattle.round_tables.specs.Working.{GathersPhase}
use Rattle.round_tables.specs.declared.layer_gates.LayerGates.{LayerGates}
use Rattle.round_tables.specs.declared.working.Working.{Working}
use Rattle.round_tables.specs.Ranges.{RangeView, BeginsUnparted, AreRangesFor, IsGathered, sum_of}
use Rattle.round_tables.proofs.Advances.{whole-parts}
use Rattle.table_parts.proofs.api.Halves.{flat-append, front-more, length-flat}

module _ {A : Type 0} (o : Ops A) where
  -- a table of two ranges, one after the other
  gathers-both : (here there : List A) (from half : ℕ) (gates : List CircuitGate) (place : CircuitGate → ℕ) (weight : ℕ → CircuitGate → A) →
      length here ≡ half → Gathers o here from gates place weight → Gathers o there (from + half) gates place weight
      → Gathers o (here ++ there) from gates place weight
  gathers-both here there from half gates place weight size first second x u = by_side (cases_lt x half)
    where
      by_side : (x < half) ⊎ (half ≤ x) → get_or (here ++ there) x o.zero ≡ given_from o 0 gates place weight (from + x)
      by_side (inl h) =
          let within : x < length here = omega (arith, h, size) in
          get_or_append_left here there o.zero x within ∙ first x within
      by_side (inr h) =
          let within : x - half < length there = omega (arith, h, u, size, length-append here there) in
          let same : from + half + (x - half) ≡ from + x = omega (arith, h) in
          get_or-append_right here there half x o.zero size h
          ∙ second (x - half) within
          ∙ ap (given_from o 0 gates place weight) same

module _ (gates : List CircuitGate) (values : List K) (place : Place K) where
  -- no place has what the gates give to it
  pub none-gathered : (bound : List K) (from : ℕ) → GathersPhase gates values place bound from [] []
  none-gathered [] from = record {
    scaled = λ x u. absurd (omega (arith, u));
    shifted = λ x u. absurd (omega (arith, u));
  }
  none-gathered (r ∷ rs) from = record {
    scaled = λ x u. absurd (omega (arith, u));
    shifted = λ x u. absurd (omega (arith, u));
  }

  phase-both : (bound : List K) (from half : ℕ) (a b s t : List K) → length a ≡ half → length s ≡ half →
      GathersPhase gates values place bound from a s → GathersPhase gates values place bound (from + half) b t → GathersPhase gates values place bound from (a ++ b) (s ++ t)
  phase-both [] from half a b s t m n first second = record {
    scaled = gathers-both k_ops a b from half gates left_of (left_scale k_ops (position_weight k_ops place) values) m first.scaled second.scaled;
    shifted = gathers-both k_ops s t from half gates left_of (left_shift k_ops (position_weight k_ops place) values) n first.shifted second.shifted;
  }
  phase-both (r ∷ rs) from half a b s t m n first second = let value : K = extension_at k_ops k_ops (λ x. x) values (r ∷ rs) in record {
    scaled = gathers-both k_ops a b from half gates right_of (λ g gate. scale_of k_ops gate (factor_of k_ops (position_weight k_ops place) (eq_poly k_ops (r ∷ rs)) g gate) value) m first.scaled second.scaled;
    shifted = gathers-both k_ops s t from half gates right_of (λ g gate. shift_of k_ops gate (factor_of k_ops (position_weight k_ops place) (eq_poly k_ops (r ∷ rs)) g gate) value) n first.shifted second.shifted;
  }

-- no ranges
pub nothing-gathered : (sum : LayerSum) (size : ℕ) (ps : List PartTables) → length ps ≡ 0 → IsGathered sum 0 0 size ps
nothing-gathered sum size [] e = record {
  sizes = λ i d u. absurd (omega (arith, u));
  table = refl;
  gathers = none-gathered sum.gates sum.values sum.place sum.bound 0;
}
nothing-gathered sum size (p ∷ ps) e = absurd (omega (arith, e))

-- the ranges so far, and the next one
pub gathered-more : (sum : LayerSum) (n m size : ℕ) (ps qs : List PartTables) → length ps * size ≡ n → IsGathered sum 0 n size ps → IsGathered sum n m size qs → IsGathered sum 0 (n + m) size (ps ++ qs)
gathered-more sum n m size ps qs whole first second =
    let sizes : (f : PartTables → List K) → ((i : ℕ) (d : PartTables) → i < length ps → length (f (get_or ps i d)) ≡ size) → length (flat f ps) ≡ n = λ f each. length-flat f ps size each ∙ whole in
    let begin : n ≡ 0 + n = omega arith in
    record {
      sizes = All-append (HasSize size) ps qs first.sizes second.sizes;
      table = flat-append (λ p. p.table) ps qs ∙ ap₂ (λ (a b : List K). a ++ b) first.table second.table ∙ front-more sum.values n m;
      gathers = coe 0 1 (i. GathersPhase sum.gates sum.values sum.place sum.bound 0 (sym (flat-append (λ p. p.scales) ps qs) i) (sym (flat-append (λ p. p.shifts) ps qs) i))
          (phase-both sum.gates sum.values sum.place sum.bound 0 n (flat_scales ps) (flat_scales qs) (flat_shifts ps) (flat_shifts qs)
          (sizes (λ p. p.scales) (λ i d u. (first.sizes i d u).scales)) (sizes (λ p. p.shifts) (λ i d u. (first.sizes i d u).shifts)) first.gathers
          (subst (λ (from : ℕ). GathersPhase sum.gates sum.values sum.place sum.bound from (flat_scales qs) (flat_shifts qs)) begin second.gathers));
    }

-- a share as its view has it
abbrev pub range-at : LayerGates → List K → ℕ → ℕ → ℕ → Bool → RangeView
range-at layer bound from parts size done = record { sum = sum_of layer bound; from = from; parts = parts; size = size; done = done }

-- all but the last of a list, and the last
pub all-before : {T : Type 0} (P : T → Type 0) (xs : List T) (x : T) → All P (xs ++ x ∷ []) → All P xs
all-before P xs x all i d u = subst P (get_or_append_left xs (x ∷ []) d i u) (all i d (omega (arith, u, length-append xs (x ∷ []))))

pub last-of : {T : Type 0} (P : T → Type 0) (xs : List T) (x : T) → All P (xs ++ x ∷ []) → P x
last-of P xs x all =
    let e : length xs - length xs ≡ 0 = omega arith in
    subst P (get_or-append_right xs (x ∷ []) (length xs) (length xs) x refl (omega arith) ∙ ap (λ (i : ℕ). get_or (x ∷ []) i x) e)
    (all (length xs) x (omega (arith, length-append xs (x ∷ []))))

-- places of ranges
pub range-within : (i number span whole : ℕ) → i < number → number * span ≡ whole → i * span + span ≤ whole
range-within i number span whole u e =
    let more : number ≡ i + 1 + (number - i - 1) = omega (arith, u) in
    let d : number * span ≡ (i + 1 + (number - i - 1)) * span = ap (λ (x : ℕ). x * span) more in omega (arith, d, e)

-- all ranges have the places of the phase
pub all-places : (k number parts size : ℕ) → AreRangesFor k number parts size → number * (parts * size) ≡ 2 ^ k
all-places k number parts size ranges =
    let e : number * (parts * size) ≡ number * parts * size = omega arith in
    e ∙ ap₂ (λ (a b : ℕ). a * b) ranges.all ranges.whole ∙ whole-parts k

-- one range less is left
pub one-less : (number lent parts : ℕ) → lent < number → (number - (lent + 1)) * parts + parts ≡ (number - lent) * parts
one-less number lent parts u =
    let e : number - lent ≡ number - (lent + 1) + 1 = omega (arith, u) in
    sym (ap (λ (n : ℕ). n * parts) e ∙ omega arith)

-- a phase begins whichever parts are there, where there is room for as many
pub parts-moved : (layer : LayerGates) (w new : Working) (value : K) → new ≡ record w { many = new.many } → vec_capacity w.many ≤ vec_capacity new.many
    → BeginsUnparted layer w value → BeginsUnparted layer new value
parts-moved layer w new value same room is = subst (λ (w : Working). BeginsUnparted layer w value) (sym same) record {
  challenges = is.challenges;
  scales = is.scales;
  shifts = is.shifts;
  one = is.one;
  one_capacity = is.one_capacity;
  counted = is.counted;
  beginning = is.beginning;
  capacity = omega (arith, is.capacity, room);
}
