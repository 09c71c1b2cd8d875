-- Positions that are chosen one after another
use Rattle.std.proofs.Common.{◌≡◌, ◌≢◌, ℕ, zero, suc, ◌+◌, ◌<◌, ◌≤◌, ◌⊎◌, inl, inr, List, length, get_or, set, refl, sym, ◌∙◌, ap, get_or-set_same, get_or-set_other, arith, subst}
use Rattle.std.proofs.lemmas.Bool.{cases_lt, cases_eq}
use Rattle.circuit_core.specs.declared.gate.CircuitGate.{CircuitGate}
use Rattle.circuit_core.specs.Parts.{zero_gate}
use Rattle.gate_gather.specs.Choosing.{position_after, AreElsewhere, AreChosen}

-- what is written behind the first n of a list leaves these, and the position after them
kept : (chosen : List ℕ) (n p j : ℕ) → j < n → get_or (set chosen n p) j 0 ≡ get_or chosen j 0
kept chosen n p j u = get_or-set_other chosen n j p 0 (λ h. omega (arith, u, h))

kept-after : (chosen : List ℕ) (start n p j : ℕ) → j ≤ n → position_after (set chosen n p) start j ≡ position_after chosen start j
kept-after chosen start n p zero u = refl
kept-after chosen start n p (suc j) u = ap (λ (i : ℕ). i + 1) (kept chosen n p j (omega (arith, u)))

-- the position after those that were chosen is none past
pub after-most : (chosen : List ℕ) (start p n : ℕ) → start ≤ p → ((j : ℕ) → j < n → get_or chosen j 0 < p) → position_after chosen start n ≤ p
after-most chosen start p zero u before = u
after-most chosen start p (suc n) u before = let last : get_or chosen n 0 < p = before n (omega arith) in omega (arith, last)

module _ (place : CircuitGate → ℕ) (gates : List CircuitGate) (from places start p : ℕ) where
  pub none_chosen : (chosen : List ℕ) (n : ℕ) → n ≡ 0 → p ≡ start → AreChosen place gates from places start p chosen n
  none_chosen chosen n e f = record {
    order = λ j u. absurd (omega (arith, u, e));
    before = λ j u. absurd (omega (arith, u, e));
    sent = λ j u. absurd (omega (arith, u, e));
    between = λ j u. absurd (omega (arith, u, e));
    past = λ q x a b. absurd (omega (arith, a, b, f, ap (position_after chosen start) e));
  }

  module _ (chosen : List ℕ) (n : ℕ) (room : n < length chosen) (few : start + n ≤ p) (was : AreChosen place gates from places start p chosen n) where
    abbrev now : List ℕ
    now = set chosen n p

    last : get_or now n 0 ≡ p
    last = get_or-set_same chosen n p 0 room

    least : position_after now start n ≤ p
    least =
        let most : position_after chosen start n ≤ p = after-most chosen start p n (omega (arith, few)) was.before in
        let same : position_after now start n ≡ position_after chosen start n = kept-after chosen start n p n (omega arith) in
        omega (arith, most, same)

    -- one that is sent elsewhere
    passed : (m : ℕ) → m ≡ n → ((x : ℕ) → x < places → place (get_or gates p zero_gate) ≢ from + x) → AreChosen place gates from places start (p + 1) now m
    passed m e none = record {
      order = λ j u. let v : j < n = omega (arith, u, e) in omega (arith, was.order j v, kept chosen n p j v, kept-after chosen start n p j (omega (arith, v)));
      before = λ j u. let v : j < n = omega (arith, u, e) in omega (arith, was.before j v, kept chosen n p j v);
      sent = λ j u. let v : j < n = omega (arith, u, e) in
          subst (λ (q : ℕ). (from ≤ place (get_or gates q zero_gate)) × (place (get_or gates q zero_gate) < from + places)) (sym (kept chosen n p j v)) (was.sent j v);
      between = λ j u q x a b c. let v : j < n = omega (arith, u, e) in
          was.between j v q x (omega (arith, a, kept-after chosen start n p j (omega (arith, v)))) (omega (arith, b, kept chosen n p j v)) c;
      past = λ q x a b c. by_place q x a b c (cases_eq q p);
    }
      where
        by_place : (q x : ℕ) → position_after now start m ≤ q → q < p + 1 → x < places → (q ≡ p) ⊎ (q ≡ p → ⊥) → place (get_or gates q zero_gate) ≢ from + x
        by_place q x a b c (inl h) = subst (λ (q : ℕ). place (get_or gates q zero_gate) ≢ from + x) (sym h) (none x c)
        by_place q x a b c (inr other) =
            let less : q < p = by_less (cases_lt q p) in
            was.past q x (omega (arith, a, ap (position_after now start) e, kept-after chosen start n p n (omega arith))) less c
          where
            by_less : (q < p) ⊎ (p ≤ q) → q < p
            by_less (inl v) = v
            by_less (inr v) = absurd (other (omega (arith, v, b)))

    -- one that is sent into the range
    taken : (m : ℕ) → m ≡ suc n → (from ≤ place (get_or gates p zero_gate)) × (place (get_or gates p zero_gate) < from + places) → AreChosen place gates from places start (p + 1) now m
    taken m e inside = record {
      order = λ j u. by_order j (cases_lt j n) (omega (arith, u, e));
      before = λ j u. by_before j (cases_lt j n) (omega (arith, u, e));
      sent = λ j u. by_sent j (cases_lt j n) (omega (arith, u, e));
      between = λ j u. by_between j (cases_lt j n) (omega (arith, u, e));
      past = λ q x a b c. absurd (omega (arith, a, b, last, ap (position_after now start) e));
    }
      where
        by_order : (j : ℕ) → (j < n) ⊎ (n ≤ j) → j ≤ n → position_after now start j ≤ get_or now j 0
        by_order j (inl v) u = omega (arith, was.order j v, kept chosen n p j v, kept-after chosen start n p j u)
        by_order j (inr v) u = let same : n ≡ j = omega (arith, u, v) in subst (λ (j : ℕ). position_after now start j ≤ get_or now j 0) same (omega (arith, least, last))

        by_before : (j : ℕ) → (j < n) ⊎ (n ≤ j) → j ≤ n → get_or now j 0 < p + 1
        by_before j (inl v) u = omega (arith, was.before j v, kept chosen n p j v)
        by_before j (inr v) u = let same : n ≡ j = omega (arith, u, v) in subst (λ (j : ℕ). get_or now j 0 < p + 1) same (omega (arith, last))

        by_sent : (j : ℕ) → (j < n) ⊎ (n ≤ j) → j ≤ n → (from ≤ place (get_or gates (get_or now j 0) zero_gate)) × (place (get_or gates (get_or now j 0) zero_gate) < from + places)
        by_sent j (inl v) u = subst (λ (q : ℕ). (from ≤ place (get_or gates q zero_gate)) × (place (get_or gates q zero_gate) < from + places)) (sym (kept chosen n p j v)) (was.sent j v)
        by_sent j (inr v) u =
            let same : n ≡ j = omega (arith, u, v) in
            subst (λ (q : ℕ). (from ≤ place (get_or gates q zero_gate)) × (place (get_or gates q zero_gate) < from + places)) (sym last ∙ ap (λ (j : ℕ). get_or now j 0) same) inside

        by_between : (j : ℕ) → (j < n) ⊎ (n ≤ j) → j ≤ n → AreElsewhere place gates from places (position_after now start j) (get_or now j 0)
        by_between j (inl v) u q x a b c = was.between j v q x (omega (arith, a, kept-after chosen start n p j u)) (omega (arith, b, kept chosen n p j v)) c
        by_between j (inr v) u q x a b c =
            let same : j ≡ n = omega (arith, u, v) in
            was.past q x (omega (arith, a, ap (position_after now start) same, kept-after chosen start n p n (omega arith)))
            (omega (arith, b, ap (λ (j : ℕ). get_or now j 0) same, last)) c

    -- one position more, and how many are chosen then
    pub chosen_next : (r m : ℕ) → m ≡ n + r → r ≤ 1 → (r ≡ 1 → (from ≤ place (get_or gates p zero_gate)) × (place (get_or gates p zero_gate) < from + places)) →
        (r ≡ 0 → (x : ℕ) → x < places → place (get_or gates p zero_gate) ≢ from + x) → AreChosen place gates from places start (p + 1) now m
    chosen_next r m e most inside outside = by_step (cases_eq r 0)
      where
        by_step : (r ≡ 0) ⊎ (r ≡ 0 → ⊥) → AreChosen place gates from places start (p + 1) now m
        by_step (inl h) = passed m (omega (arith, e, h)) (outside h)
        by_step (inr other) = taken m (by_one (cases_lt 0 r)) (by_inside (cases_lt 0 r))
          where
            by_one : (0 < r) ⊎ (r ≤ 0) → m ≡ suc n
            by_one (inl v) = omega (arith, e, most, v)
            by_one (inr v) = absurd (other (omega (arith, v)))

            by_inside : (0 < r) ⊎ (r ≤ 0) → (from ≤ place (get_or gates p zero_gate)) × (place (get_or gates p zero_gate) < from + places)
            by_inside (inl v) = inside (omega (arith, most, v))
            by_inside (inr v) = absurd (other (omega (arith, v)))
