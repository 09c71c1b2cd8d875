-- What a gate changes where it is sent, and what all gates have changed
use Rattle.std.proofs.Common.{◌≡◌, ◌≢◌, ℕ, zero, suc, ◌+◌, ◌<◌, ◌≤◌, ◌⊎◌, inl, inr, List, length, get_or, set, Bool, if◌then◌else◌, ◌==◌, refl, sym, ◌∙◌, ap, ap₂, subst, eq-eqb, get_or-set_same, get_or-set_other, drop_of_length-le, arith}
use Rattle.std.proofs.lemmas.List.{drop_more, get_or_default}
use Rattle.std.proofs.lemmas.Bool.{cases_eq, ne_eqb}
use Rattle.field_ext.specs.Ring.{Ops, Laws}
use Rattle.field_ext.proofs.api.Rings.{zero_add}
use Rattle.circuit_core.specs.declared.gate.CircuitGate.{CircuitGate}
use Rattle.wiring_poly.specs.Wiring.{sum_gates}
use Rattle.circuit_core.specs.Parts.{zero_gate}
use Rattle.gate_gather.specs.Gathering.{given_from, Gathers}
use Rattle.gate_gather.specs.Choosing.{AreElsewhere}

-- a place of a table is the place from its first on
same_place : (i place from x : ℕ) → from + i ≡ place → (i == x) ≡ (place == from + x)
same_place i place from x e = by_place (cases_eq i x)
  where
    by_place : (i ≡ x) ⊎ (i ≡ x → ⊥) → (i == x) ≡ (place == from + x)
    by_place (inl h) = eq-eqb i x h ∙ sym (eq-eqb place (from + x) (sym e ∙ ap (λ (y : ℕ). from + y) h))
    by_place (inr n) = ne_eqb i x n ∙ sym (ne_eqb place (from + x) (λ h. n (omega (arith, e, h))))

module _ {A : Type 0} (o : Ops A) (l : Laws A o) where
  -- a value is added at one place
  pub added_at : (t : List A) (place : ℕ) (old new w : A) → place < length t → old ≡ get_or t place old → new ≡ o.add old w →
      (x : ℕ) → get_or (set t place new) x o.zero ≡ o.add (get_or t x o.zero) (if place == x then w else o.zero)
  added_at t place old new w u is e x = by_place (cases_eq place x)
    where
      by_place : (place ≡ x) ⊎ (place ≡ x → ⊥) → get_or (set t place new) x o.zero ≡ o.add (get_or t x o.zero) (if place == x then w else o.zero)
      by_place (inl h) =
          ap (λ (y : ℕ). get_or (set t place new) y o.zero) (sym h)
          ∙ get_or-set_same t place new o.zero u
          ∙ e
          ∙ ap₂ o.add (is ∙ get_or_default t place old o.zero u ∙ ap (λ (y : ℕ). get_or t y o.zero) h) (ap (λ (b : Bool). if b then w else o.zero) (sym (eq-eqb place x h)))
      by_place (inr n) =
          let d : x ≢ place = λ h. n (sym h) in
          get_or-set_other t place x new o.zero d
          ∙ sym (l.add_zero (get_or t x o.zero))
          ∙ ap (λ (b : Bool). o.add (get_or t x o.zero) (if b then w else o.zero)) (sym (ne_eqb place x n))

  -- what is added at a place of the table is what the gate gives
  pub sent : (i place from x : ℕ) (old new w w' : A) → from + i ≡ place → w ≡ w' → new ≡ o.add old (if i == x then w else o.zero) →
      new ≡ o.add old (if place == from + x then w' else o.zero)
  sent i place from x old new w w' e f h = h ∙ ap₂ (λ (b : Bool) (v : A). o.add old (if b then v else o.zero)) (same_place i place from x e) f

  -- a gate that is sent elsewhere gives nothing
  pub not_sent : (n place from x : ℕ) (y w : A) → ((x : ℕ) → x < n → place ≢ from + x) → x < n → y ≡ o.add y (if place == from + x then w else o.zero)
  not_sent n place from x y w none u = sym (l.add_zero y) ∙ ap (λ (b : Bool). o.add y (if b then w else o.zero)) (sym (ne_eqb place (from + x) (none x u)))

  module _ (gates : List CircuitGate) (place : CircuitGate → ℕ) (weight : ℕ → CircuitGate → A) (from : ℕ) where
    abbrev given : ℕ → List CircuitGate → ℕ → A
    given g gates x = sum_gates o g gates (λ g gate. if place gate == from + x then weight g gate else o.zero)

    -- what is there and what the gates from position g on give is what all gates give
    abbrev pub AreSentBefore : List A → ℕ → Type 0
    AreSentBefore t g = (x : ℕ) → x < length t → o.add (get_or t x o.zero) (given_from o g gates place weight (from + x)) ≡ given_from o 0 gates place weight (from + x)

    pub begun : (t : List A) (g : ℕ) → g ≡ 0 → ((x : ℕ) → get_or t x o.zero ≡ o.zero) → AreSentBefore t g
    begun t g e none x u =
        ap₂ (λ (y : A) (n : ℕ). o.add y (given_from o n gates place weight (from + x))) (none x) e
        ∙ zero_add o l (given_from o 0 gates place weight (from + x))

    -- one gate more
    pub sent_next : (now new : List A) (g next : ℕ) (d : CircuitGate) → g < length gates → next ≡ g + 1 → length new ≡ length now →
        ((x : ℕ) → x < length now → get_or new x o.zero ≡ o.add (get_or now x o.zero) (if place (get_or gates g d) == from + x then weight g (get_or gates g d) else o.zero)) →
        AreSentBefore now g → AreSentBefore new next
    sent_next now new g next d u n same e before x v =
        let w : x < length now = omega (arith, v, same) in
        ap (λ (m : ℕ). o.add (get_or new x o.zero) (given_from o m gates place weight (from + x))) n
        ∙ ap (λ (y : A). o.add y (given_from o (g + 1) gates place weight (from + x))) (e x w)
        ∙ l.add_assoc (get_or now x o.zero) (if place (get_or gates g d) == from + x then weight g (get_or gates g d) else o.zero) (given_from o (g + 1) gates place weight (from + x))
        ∙ ap (λ (gs : List CircuitGate). o.add (get_or now x o.zero) (given g gs x)) (sym (drop_more gates g d u))
        ∙ before x w

    -- gates that are sent elsewhere are passed over
    passed_one : (t : List A) (g : ℕ) (d : CircuitGate) → g < length gates → ((x : ℕ) → x < length t → place (get_or gates g d) ≢ from + x) → AreSentBefore t g → AreSentBefore t (g + 1)
    passed_one t g d u none before =
        sent_next t t g (g + 1) d u refl refl (λ x v. not_sent (length t) (place (get_or gates g d)) from x (get_or t x o.zero) (weight g (get_or gates g d)) none v) before

    pub passed_over : (n : ℕ) (t : List A) (a b : ℕ) → b ≡ a + n → b ≤ length gates → AreElsewhere place gates from (length t) a b → AreSentBefore t a → AreSentBefore t b
    passed_over zero t a b e u none before = subst (λ (g : ℕ). AreSentBefore t g) (omega (arith, e)) before
    passed_over (suc n) t a b e u none before =
        passed_over n t (a + 1) b (omega (arith, e)) u (λ p x v w z. none p x (omega (arith, v)) w z)
        (passed_one t a zero_gate (omega (arith, e, u)) (λ x z. none a x (omega arith) (omega (arith, e)) z) before)

    pub all_sent : (t : List A) (g : ℕ) → length gates ≤ g → AreSentBefore t g → Gathers o t from gates place weight
    all_sent t g u before x v =
        sym (l.add_zero (get_or t x o.zero))
        ∙ ap (λ (gs : List CircuitGate). o.add (get_or t x o.zero) (given g gs x)) (sym (drop_of_length-le gates u))
        ∙ before x v
