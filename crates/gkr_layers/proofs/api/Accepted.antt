-- Where no equation fails, all hold, and the other way round
use Rattle.std.proofs.Common.{◌≡◌, ℕ, suc, ◌+◌, List, [], ◌∷◌, ◌++◌, length, take, drop, get_or, Bool, true, false, if◌then◌else◌, ◌&&◌, nat_eq, MatchBool, inl, inr, refl, sym, ◌∙◌, ap, subst, arith, length-take, length-drop, eq-eqb}
use Rattle.std.proofs.lemmas.Bool.{cases_eq, ne_eqb}
use Rattle.std.specs.Prelude.{◌↔◌}
use Rattle.field_ext.specs.Field.{K, k_ops, zero_k, same_k}
use Rattle.field_ext.proofs.api.Elements.{F_eq}
use Rattle.field_ext.specs.Polynomial.{value_at}
use Rattle.gkr_layers.specs.declared.verdict.Verdict.{Verdict}
use Rattle.gkr_layers.specs.declared.verdict.Verdict.TheVariants.{Accepted, Sum, End, Input}
use Rattle.gkr_layers.specs.Places.{Place, value_over, weighted_summand_from}
use Rattle.proof_wire.specs.declared.form.ProofForm.{ProofForm}
use Rattle.gkr_layers.specs.Forms.{said_left, said_right}
use Rattle.gkr_layers.specs.Sumcheck.{RoundsHold}
use Rattle.gkr_layers.specs.Layers.{GateLayer, next_place, LayersHold, message_count}
use Rattle.gkr_layers.specs.Equations.{Equation, sum_equation, end_equation, input_equation, claim_after, sum_equations, equations, first_failure}
use Rattle.gkr_layers.specs.Acceptance.{CircuitClaim, challenge_count, output_place, Accepts, verdict_of}

pub first_holds : (b : Bool) (x y : Verdict) → b ≡ true → (if b then x else y) ≡ x
first_holds b x y e = ap (λ (c : Bool). if c then x else y) e

pub first_fails : (b : Bool) (x y : Verdict) → b ≡ false → (if b then x else y) ≡ y
first_fails b x y e = ap (λ (c : Bool). if c then x else y) e

-- whether the answer is that every equation holds
abbrev pub accepts : Verdict → Bool
accepts Accepted = true
accepts (Sum a b c d) = false
accepts (End a b c) = false
accepts (Input a b) = false

apart : false ≡ true → ⊥
apart e = subst (λ (b : Bool). MatchBool b ⊥ (Unit {0})) e tt

pub differ : {v : Verdict} → accepts v ≡ false → v ≡ Accepted → ⊥
differ {v} e h = apart (sym e ∙ ap accepts h)

both : (a b : Bool) → (a && b) ≡ true → (a ≡ true) × (b ≡ true)
both true true e = (refl, refl)
both true false e = absurd (apart e)
both false b e = absurd (apart e)

pub equal : (x y : K) → same_k x y ≡ true → x ≡ y
equal x y e =
    let parts = both (nat_eq x.re.value y.re.value) (nat_eq x.im.value y.im.value) e in
    let re : x.re.value ≡ y.re.value = same_number x.re.value y.re.value parts.0 in
    let im : x.im.value ≡ y.im.value = same_number x.im.value y.im.value parts.1 in
    λ i. record { re = F_eq x.re y.re re i; im = F_eq x.im y.im im i }
  where
    same_number : (m n : ℕ) → nat_eq m n ≡ true → m ≡ n
    same_number m n h = elim (cases_eq m n) [ inl e ↦ e | inr d ↦ absurd (apart (sym (ne_eqb m n d) ∙ h)) ]

one_holds : (equation : Equation) (rest : List Equation) → accepts equation.failed ≡ false → first_failure (equation ∷ rest) ≡ Accepted → (equation.had ≡ equation.want) × (first_failure rest ≡ Accepted)
one_holds equation rest d h = by_test (same_k equation.had equation.want) refl h
  where
    by_test : (b : Bool) → b ≡ same_k equation.had equation.want → (if b then first_failure rest else equation.failed) ≡ Accepted → (equation.had ≡ equation.want) × (first_failure rest ≡ Accepted)
    by_test true e h = (equal equation.had equation.want (sym e), h)
    by_test false e h = absurd (differ d h)

rounds_hold : (layer round : ℕ) (claim : K) (qs : List (List K)) (rs : List K) (rest : List Equation) → length qs ≡ length rs → first_failure (sum_equations layer round claim qs rs ++ rest) ≡ Accepted →
    RoundsHold k_ops claim qs rs (claim_after claim qs rs) × (first_failure rest ≡ Accepted)
rounds_hold layer round claim [] [] rest e h = (refl, h)
rounds_hold layer round claim [] (r ∷ rs) rest e h = absurd (omega arith)
rounds_hold layer round claim (q ∷ qs) [] rest e h = absurd (omega arith)
rounds_hold layer round claim (q ∷ qs) (r ∷ rs) rest e h =
    let one = one_holds (sum_equation layer round q claim) (sum_equations layer (suc round) (value_at k_ops q r) qs rs ++ rest) refl h in
    let others = rounds_hold layer (suc round) (value_at k_ops q r) qs rs rest (omega arith) one.1 in
    ((one.0, others.0), others.1)

pub same_self : (x : K) → same_k x x ≡ true
same_self x = (λ i. eq-eqb x.re.value x.re.value refl i && nat_eq x.im.value x.im.value) ∙ eq-eqb x.im.value x.im.value refl

pub unequal : (x y : K) → same_k x y ≡ false → x ≡ y → ⊥
unequal x y e h = apart (sym e ∙ ap (same_k x) (sym h) ∙ same_self x)

-- and where all hold, none fails
one_accepted : (equation : Equation) (rest : List Equation) → equation.had ≡ equation.want → first_failure rest ≡ Accepted → first_failure (equation ∷ rest) ≡ Accepted
one_accepted equation rest e h = first_holds (same_k equation.had equation.want) _ _ (ap (same_k equation.had) (sym e) ∙ same_self equation.had) ∙ h

rounds_last : (claim : K) (qs : List (List K)) (rs : List K) (last : K) → RoundsHold k_ops claim qs rs last → claim_after claim qs rs ≡ last
rounds_last claim [] [] last h = h
rounds_last claim [] (r ∷ rs) last h = absurd h
rounds_last claim (q ∷ qs) [] last h = absurd h
rounds_last claim (q ∷ qs) (r ∷ rs) last h = rounds_last (value_at k_ops q r) qs rs last h.1

rounds_accepted : (layer round : ℕ) (claim : K) (qs : List (List K)) (rs : List K) (last : K) (rest : List Equation) → RoundsHold k_ops claim qs rs last → first_failure rest ≡ Accepted →
    first_failure (sum_equations layer round claim qs rs ++ rest) ≡ Accepted
rounds_accepted layer round claim [] [] last rest h e = e
rounds_accepted layer round claim [] (r ∷ rs) last rest h e = absurd h
rounds_accepted layer round claim (q ∷ qs) [] last rest h e = absurd h
rounds_accepted layer round claim (q ∷ qs) (r ∷ rs) last rest h e =
    one_accepted (sum_equation layer round q claim) (sum_equations layer (suc round) (value_at k_ops q r) qs rs ++ rest) h.0 (rounds_accepted layer (suc round) (value_at k_ops q r) qs rs last rest h.1 e)

module _ (form : ProofForm) where
  pub layers_hold : (number : ℕ) (layers : List GateLayer) (input : List K) (place : Place K) (claim : K) (qs : List (List K)) (rs : List K) → length qs ≡ message_count layers → length rs ≡ message_count layers →
      first_failure (equations form number layers input place claim qs rs) ≡ Accepted → LayersHold k_ops form layers input place claim qs rs
  layers_hold number [] input place claim qs rs u v h = (one_holds _ [] refl h).0
  layers_hold number (layer ∷ layers) input place claim qs rs u v h =
      let k = layer.k in
      let rounds : List (List K) = take (k + k) qs in
      let bound : List K = take (k + k) rs in
      let q : List K = get_or qs (k + k) [] in
      let want : K = weighted_summand_from k_ops layer.gates place (take k bound) (drop k bound) (said_left k_ops form q) (said_right k_ops form q) in
      let below : List Equation = equations form (suc number) layers input (next_place k_ops form k rs) (value_at k_ops q (get_or rs (k + k) zero_k)) (drop (k + k + 1) qs) (drop (k + k + 1) rs) in
      let same : length (take (layer.k + layer.k) qs) ≡ length (take (layer.k + layer.k) rs) = omega (arith, length-take (layer.k + layer.k) qs, length-take (layer.k + layer.k) rs, u, v) in
      let first = rounds_hold number 1 claim rounds bound (end_equation number (claim_after claim rounds bound) want ∷ below) same h in
      let end = one_holds (end_equation number (claim_after claim rounds bound) want) below refl first.1 in
      let rest = layers_hold (suc number) layers input (next_place k_ops form k rs) (value_at k_ops q (get_or rs (k + k) zero_k)) (drop (k + k + 1) qs) (drop (k + k + 1) rs)
      (omega (arith, length-drop (layer.k + layer.k + 1) qs, u)) (omega (arith, length-drop (layer.k + layer.k + 1) rs, v)) end.1 in
      (subst (λ (last : K). RoundsHold k_ops claim rounds bound last) end.0 first.0, rest)

  pub layers_accepted : (number : ℕ) (layers : List GateLayer) (input : List K) (place : Place K) (claim : K) (qs : List (List K)) (rs : List K) → LayersHold k_ops form layers input place claim qs rs →
      first_failure (equations form number layers input place claim qs rs) ≡ Accepted
  layers_accepted number [] input place claim qs rs h = one_accepted (input_equation claim (value_over k_ops input place)) [] h refl
  layers_accepted number (layer ∷ layers) input place claim qs rs h =
      let k = layer.k in
      let rounds : List (List K) = take (k + k) qs in
      let bound : List K = take (k + k) rs in
      let q : List K = get_or qs (k + k) [] in
      let want : K = weighted_summand_from k_ops layer.gates place (take k bound) (drop k bound) (said_left k_ops form q) (said_right k_ops form q) in
      let below : List Equation = equations form (suc number) layers input (next_place k_ops form k rs) (value_at k_ops q (get_or rs (k + k) zero_k)) (drop (k + k + 1) qs) (drop (k + k + 1) rs) in
      rounds_accepted number 1 claim rounds bound want (end_equation number (claim_after claim rounds bound) want ∷ below) h.0
      (one_accepted (end_equation number (claim_after claim rounds bound) want) below (rounds_last claim rounds bound want h.0)
      (layers_accepted (suc number) layers input (next_place k_ops form k rs) (value_at k_ops q (get_or rs (k + k) zero_k)) (drop (k + k + 1) qs) (drop (k + k + 1) rs) h.1))

pub accepted_exactly : (stated : CircuitClaim) (qs : List (List K)) (rs : List K) → length qs ≡ message_count stated.layers → length rs ≡ challenge_count stated →
    (verdict_of stated qs rs ≡ Accepted) ↔ Accepts stated qs rs
accepted_exactly stated qs rs u v =
    let place : Place K = output_place stated rs in
    let claim : K = value_over k_ops stated.claimed_table place in
    let rest : length (drop stated.k rs) ≡ message_count stated.layers = omega (arith, length-drop stated.k rs, v) in
    (layers_hold stated.form 0 stated.layers stated.input_table place claim qs (drop stated.k rs) u rest, layers_accepted stated.form 0 stated.layers stated.input_table place claim qs (drop stated.k rs))
