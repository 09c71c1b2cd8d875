-- Messages that are filled in: their shape, their sum equations, and that messages whose sums hold are filled in from what is left of them
use Rattle.std.proofs.Common.{◌≡◌, ℕ, suc, List, [], ◌∷◌, ◌++◌, map, drop, take, Bool, true, false, if◌then◌else◌, refl, sym, ◌∙◌, ap}
use Rattle.std.proofs.lemmas.List.{length-map}
use Rattle.field_ext.specs.Field.{F, K, k_ops, same_k}
use Rattle.field_ext.specs.Polynomial.{value_at}
use Rattle.circuit_core.specs.Parts.{Parts}
use Rattle.circuit_core.specs.Sound.{exponent_at, exponents}
use Rattle.transcript_fs.specs.Source.{Source, point_draws, state_after_point, draws, all_draws}
use Rattle.proof_wire.specs.declared.messages.Round.{Round}
use Rattle.proof_wire.specs.declared.messages.LayerMessages.{LayerMessages}
use Rattle.proof_wire.specs.declared.messages.Messages.{Messages}
use Rattle.proof_wire.specs.declared.form.ProofForm.TheVariants.{Line}
use Rattle.proof_wire.specs.Spelling.{coefficients_of}
use Rattle.proof_wire.specs.Lists.{round_messages, all_messages, HaveShape}
use Rattle.proof_two.specs.declared.pairs.RoundPair.{RoundPair}
use Rattle.proof_two.specs.declared.pairs.LayerPairs.{LayerPairs}
use Rattle.proof_two.specs.declared.pairs.Pairs.{Pairs}
use Rattle.proof_two.specs.Lists.{HavePairs, short_round, short_layer, shortened}
use Rattle.sumcheck_verify.specs.Sumcheck.{middle_for}
use Rattle.sumcheck_verify.proofs.api.Middle.{middle_adds, middle_alone}
use Rattle.gkr_layers.specs.declared.verdict.Verdict.{Verdict}
use Rattle.gkr_layers.specs.declared.verdict.Verdict.TheVariants.{Accepted, Sum, End, Input}
use Rattle.gkr_layers.specs.Places.{Place, value_over, weighted_summand_from}
use Rattle.gkr_layers.specs.Places.Place.{At}
use Rattle.gkr_layers.specs.Forms.{said_left, said_right, place_between}
use Rattle.gkr_layers.specs.Layers.{GateLayer, lower_exponents}
use Rattle.gkr_layers.specs.Equations.{Equation, end_equation, sum_equations, claim_after, equations, first_failure}
use Rattle.gkr_layers.specs.Acceptance.{CircuitClaim, claim_of, verdict_of}
use Rattle.gkr_layers.proofs.api.Accepted.{differ, equal, same_self}
use Rattle.gkr_layers.proofs.api.Answers.{answer-verdict, answer_from-verdict}
use Rattle.gkr_layers.proofs.api.Shapes.{have_shape}
use Rattle.gkr_verify.proofs.FillSteps.{length-filled}
use Rattle.gkr_verify.proofs.LayerSteps.{layer_equations}
use Rattle.gkr_verify.proofs.RoundSteps.{sum_at}
use Rattle.gkr_verify.specs.ShortProof.{filled_round, filled_rounds, filled_layer, filled_layers, state_at_last, next_claim, sums_from, output_claim, filled, sums_of, is_sum}

pub filled-shape : (source : Source) (s : List ℕ) (claim : K) (ks : List ℕ) (layers : List LayerPairs) → HavePairs ks layers → HaveShape Line ks (filled_layers source s claim layers)
filled-shape source s claim [] [] h = tt
filled-shape source s claim [] (m ∷ ms) h = absurd h
filled-shape source s claim (k ∷ ks) [] h = absurd h
filled-shape source s claim (k ∷ ks) (m ∷ ms) h =
    let made = filled_layer source s claim m in (
      record { rounds = length-filled source s claim m.rounds ∙ h.0.rounds; last = h.0.last },
      filled-shape source (source.after (state_at_last source s made)) (next_claim source s made) ks ms h.1,
    )

short-rounds : (source : Source) (s : List ℕ) (claim : K) (pairs : List RoundPair) → map short_round (filled_rounds source s claim pairs) ≡ pairs
short-rounds source s claim [] = refl
short-rounds source s claim (pair ∷ pairs) =
    let taken = source.absorb s (coefficients_of (filled_round claim pair)) in
    ap (λ (xs : List RoundPair). pair ∷ xs) (short-rounds source (source.after taken) (value_at k_ops (coefficients_of (filled_round claim pair)) (source.draw taken)) pairs)

short-layers : (source : Source) (s : List ℕ) (claim : K) (layers : List LayerPairs) → map short_layer (filled_layers source s claim layers) ≡ layers
short-layers source s claim [] = refl
short-layers source s claim (m ∷ ms) =
    let made = filled_layer source s claim m in
    λ i. record { rounds = short-rounds source s claim m.rounds i; last = m.last } ∷ short-layers source (source.after (state_at_last source s made)) (next_claim source s made) ms i

pub shortened-filled : (p : Parts) (outputs : List F) (source : Source) (s : List ℕ) (pairs : Pairs) → shortened (filled p outputs source s pairs) ≡ pairs
shortened-filled p outputs source s pairs = λ i. record {
  layers = short-layers source (state_after_point source s (exponent_at p 0)) (output_claim p outputs source s) pairs.layers i;
}

module _ (number round : ℕ) (claim : K) (q : List K) where
  held : (b : Bool) (x : Verdict) → (if b then x else Sum number round (sum_at q) claim) ≡ Accepted → (b ≡ true) × (x ≡ Accepted)
  held true x e = (refl, e)
  held false x e = absurd (differ refl e)

  first_is : (b : Bool) (x : Verdict) → b ≡ true → (if b then x else Sum number round (sum_at q) claim) ≡ x
  first_is b x e = ap (λ (c : Bool). if c then x else Sum number round (sum_at q) claim) e

-- sum equations that hold leave the answer to those after them
pub sums_front : (number round : ℕ) (claim : K) (qs : List (List K)) (rs : List K) (fs : List Equation) → first_failure (sum_equations number round claim qs rs) ≡ Accepted → first_failure (sum_equations number round claim qs rs ++ fs) ≡ first_failure fs
sums_front number round claim [] rs fs h = refl
sums_front number round claim (q ∷ qs) [] fs h = refl
sums_front number round claim (q ∷ qs) (r ∷ rs) fs h =
    let later = sum_equations number (suc round) (value_at k_ops q r) qs rs in
    let here = held number round claim q (same_k (sum_at q) claim) (first_failure later) h in
    first_is number round claim q (same_k (sum_at q) claim) (first_failure (later ++ fs)) here.0
    ∙ sums_front number (suc round) (value_at k_ops q r) qs rs fs here.1

-- and one that fails is the answer
pub sums_stop : (number round : ℕ) (claim : K) (qs : List (List K)) (rs : List K) (fs : List Equation) (v : Verdict) → (v ≡ Accepted → ⊥) → first_failure (sum_equations number round claim qs rs) ≡ v → first_failure (sum_equations number round claim qs rs ++ fs) ≡ v
sums_stop number round claim [] rs fs v n h = absurd (n (sym h))
sums_stop number round claim (q ∷ qs) [] fs v n h = absurd (n (sym h))
sums_stop number round claim (q ∷ qs) (r ∷ rs) fs v n h =
    let later = sum_equations number (suc round) (value_at k_ops q r) qs rs in
    by (same_k (sum_at q) claim) (first_failure later) (first_failure (later ++ fs)) h (sums_stop number (suc round) (value_at k_ops q r) qs rs fs v n)
  where
    by : (b : Bool) (x y : Verdict) → (if b then x else Sum number round (sum_at q) claim) ≡ v → (x ≡ v → y ≡ v) → (if b then y else Sum number round (sum_at q) claim) ≡ v
    by true x y e f = f e
    by false x y e f = e

-- and where they hold together with those after them, both do
sums_split : (number round : ℕ) (claim : K) (qs : List (List K)) (rs : List K) (fs : List Equation) → first_failure (sum_equations number round claim qs rs ++ fs) ≡ Accepted →
    (first_failure (sum_equations number round claim qs rs) ≡ Accepted) × (first_failure fs ≡ Accepted)
sums_split number round claim [] rs fs h = (refl, h)
sums_split number round claim (q ∷ qs) [] fs h = (refl, h)
sums_split number round claim (q ∷ qs) (r ∷ rs) fs h =
    let later = sum_equations number (suc round) (value_at k_ops q r) qs rs in
    let here = held number round claim q (same_k (sum_at q) claim) (first_failure (later ++ fs)) h in
    let rest = sums_split number (suc round) (value_at k_ops q r) qs rs fs here.1 in
    (first_is number round claim q (same_k (sum_at q) claim) (first_failure later) here.0 ∙ rest.0, rest.1)

module _ (source : Source) where
  rounds-hold : (number round : ℕ) (s : List ℕ) (claim : K) (pairs : List RoundPair) → first_failure (sum_equations number round claim (round_messages (filled_rounds source s claim pairs)) (draws source s (round_messages (filled_rounds source s claim pairs)))) ≡ Accepted
  rounds-hold number round s claim [] = refl
  rounds-hold number round s claim (pair ∷ pairs) =
      let q = coefficients_of (filled_round claim pair) in
      let taken = source.absorb s q in
      let value = value_at k_ops q (source.draw taken) in
      let later = filled_rounds source (source.after taken) value pairs in
      first_is number round claim q (same_k (sum_at q) claim)
      (first_failure (sum_equations number (suc round) value (round_messages later) (draws source (source.after taken) (round_messages later))))
      (ap (λ (x : K). same_k x claim) (middle_adds claim pair.c0 pair.c2) ∙ same_self claim)
      ∙ rounds-hold number (suc round) (source.after taken) value pairs

  layers-hold : (number : ℕ) (s : List ℕ) (claim : K) (layers : List LayerPairs) → first_failure (sums_from source number s claim (filled_layers source s claim layers)) ≡ Accepted
  layers-hold number s claim [] = refl
  layers-hold number s claim (m ∷ ms) =
      let made = filled_layer source s claim m in
      let qs = round_messages made.rounds in
      let next = source.after (state_at_last source s made) in
      let later = filled_layers source next (next_claim source s made) ms in
      sums_front number 1 claim qs (draws source s qs) (sums_from source (suc number) next (next_claim source s made) later) (rounds-hold number 1 s claim m.rounds)
      ∙ layers-hold (suc number) next (next_claim source s made) ms

  rounds-fill : (number round : ℕ) (s : List ℕ) (claim : K) (rounds : List Round) → first_failure (sum_equations number round claim (round_messages rounds) (draws source s (round_messages rounds))) ≡ Accepted →
      filled_rounds source s claim (map short_round rounds) ≡ rounds
  rounds-fill number round s claim [] h = refl
  rounds-fill number round s claim (x ∷ xs) h =
      let q = coefficients_of x in
      let taken = source.absorb s q in
      let value = value_at k_ops q (source.draw taken) in
      let here = held number round claim q (same_k (sum_at q) claim) (first_failure (sum_equations number (suc round) value (round_messages xs) (draws source (source.after taken) (round_messages xs)))) h in
      let middle : x.c1 ≡ middle_for k_ops claim x.c0 x.c2 = middle_alone claim x.c0 x.c1 x.c2 (equal (sum_at q) claim here.0) in
      let same : filled_round claim (short_round x) ≡ x = λ i. record { c0 = x.c0; c1 = sym middle i; c2 = x.c2 } in
      (λ i. same i ∷ filled_rounds source (source.after (source.absorb s (coefficients_of (same i)))) (value_at k_ops (coefficients_of (same i)) (source.draw (source.absorb s (coefficients_of (same i))))) (map short_round xs))
      ∙ ap (λ (ys : List Round). x ∷ ys) (rounds-fill number (suc round) (source.after taken) value xs here.1)

  layers-fill : (number : ℕ) (s : List ℕ) (claim : K) (layers : List LayerMessages) → first_failure (sums_from source number s claim layers) ≡ Accepted → filled_layers source s claim (map short_layer layers) ≡ layers
  layers-fill number s claim [] h = refl
  layers-fill number s claim (m ∷ ms) h =
      let qs = round_messages m.rounds in
      let next = source.after (state_at_last source s m) in
      let here = sums_split number 1 claim qs (draws source s qs) (sums_from source (suc number) next (next_claim source s m) ms) h in
      let rounds = rounds-fill number 1 s claim m.rounds here.0 in
      let same : filled_layer source s claim (short_layer m) ≡ m = λ i. record { rounds = rounds i; last = m.last } in
      (λ i. same i ∷ filled_layers source (source.after (state_at_last source s (same i))) (next_claim source s (same i)) (map short_layer ms))
      ∙ ap (λ (ys : List LayerMessages). m ∷ ys) (layers-fill (suc number) next (next_claim source s m) ms here.1)

  -- the answer where the end or the inputs are the first to fail, if any
  not_end : (b : Bool) (x : Verdict) (number : ℕ) (had want : K) → is_sum x ≡ false → is_sum (if b then x else End number had want) ≡ false
  not_end true x number had want h = h
  not_end false x number had want h = refl

  not_input : (b : Bool) (had want : K) → is_sum (if b then Accepted else Input had want) ≡ false
  not_input true had want = refl
  not_input false had want = refl

  layers-no_sum : (number : ℕ) (s : List ℕ) (claim : K) (layers : List GateLayer) (input : List K) (place : Place K) (ms : List LayerMessages) → HaveShape Line (lower_exponents layers) ms →
      first_failure (sums_from source number s claim ms) ≡ Accepted → is_sum (first_failure (equations Line number layers input place claim (all_messages ms) (draws source s (all_messages ms)))) ≡ false
  layers-no_sum number s claim [] input place [] h e = not_input (same_k claim (value_over k_ops input place)) claim (value_over k_ops input place)
  layers-no_sum number s claim [] input place (m ∷ ms) h e = absurd h
  layers-no_sum number s claim (layer ∷ layers) input place [] h e = absurd h
  layers-no_sum number s claim (layer ∷ layers) input place (m ∷ ms) h e =
      let k = layer.k in
      let qs = round_messages m.rounds in
      let bound = draws source s qs in
      let last = state_at_last source s m in
      let next = source.after last in
      let had = claim_after claim qs bound in
      let want = weighted_summand_from k_ops layer.gates place (take k bound) (drop k bound) (said_left k_ops Line m.last) (said_right k_ops Line m.last) in
      let below = equations Line (suc number) layers input (place_between k_ops Line (take k bound) (drop k bound) (source.draw last)) (next_claim source s m) (all_messages ms) (draws source next (all_messages ms)) in
      let sums = sums_split number 1 claim qs bound (sums_from source (suc number) next (next_claim source s m) ms) e in
      let size = length-map m.rounds coefficients_of ∙ h.0.rounds in
      ap (λ (es : List Equation). is_sum (first_failure es)) (layer_equations Line source s number k layer.gates layers input place claim qs m.last (all_messages ms) size)
      ∙ ap is_sum (sums_front number 1 claim qs bound (end_equation number had want ∷ below) sums.0)
      ∙ not_end (same_k had want) (first_failure below) number had want
      (layers-no_sum (suc number) next (next_claim source s m) layers input (place_between k_ops Line (take k bound) (drop k bound) (source.draw last)) ms h.1 sums.1)

  -- an end equation that holds leaves the answer to those after it
  end_held : (b : Bool) (x : Verdict) (number : ℕ) (had want : K) → (if b then x else End number had want) ≡ Accepted → x ≡ Accepted
  end_held true x number had want e = e
  end_held false x number had want e = absurd (differ refl e)

  layers-accepted : (number : ℕ) (s : List ℕ) (claim : K) (layers : List GateLayer) (input : List K) (place : Place K) (ms : List LayerMessages) → HaveShape Line (lower_exponents layers) ms →
      first_failure (equations Line number layers input place claim (all_messages ms) (draws source s (all_messages ms))) ≡ Accepted → first_failure (sums_from source number s claim ms) ≡ Accepted
  layers-accepted number s claim [] input place [] h e = refl
  layers-accepted number s claim [] input place (m ∷ ms) h e = absurd h
  layers-accepted number s claim (layer ∷ layers) input place [] h e = absurd h
  layers-accepted number s claim (layer ∷ layers) input place (m ∷ ms) h e =
      let k = layer.k in
      let qs = round_messages m.rounds in
      let bound = draws source s qs in
      let last = state_at_last source s m in
      let next = source.after last in
      let had = claim_after claim qs bound in
      let want = weighted_summand_from k_ops layer.gates place (take k bound) (drop k bound) (said_left k_ops Line m.last) (said_right k_ops Line m.last) in
      let below = equations Line (suc number) layers input (place_between k_ops Line (take k bound) (drop k bound) (source.draw last)) (next_claim source s m) (all_messages ms) (draws source next (all_messages ms)) in
      let size = length-map m.rounds coefficients_of ∙ h.0.rounds in
      let whole = ap first_failure (sym (layer_equations Line source s number k layer.gates layers input place claim qs m.last (all_messages ms) size)) ∙ e in
      let sums = sums_split number 1 claim qs bound (end_equation number had want ∷ below) whole in
      sums_front number 1 claim qs bound (sums_from source (suc number) next (next_claim source s m) ms) sums.0
      ∙ layers-accepted (suc number) next (next_claim source s m) layers input (place_between k_ops Line (take k bound) (drop k bound) (source.draw last)) ms h.1
      (end_held (same_k had want) (first_failure below) number had want sums.1)

pub filled-hold : (p : Parts) (outputs : List F) (source : Source) (s : List ℕ) (pairs : Pairs) → first_failure (sums_of p outputs source s (filled p outputs source s pairs)) ≡ Accepted
filled-hold p outputs source s pairs = layers-hold source 0 (state_after_point source s (exponent_at p 0)) (output_claim p outputs source s) pairs.layers

pub sums-fill : (p : Parts) (outputs : List F) (source : Source) (s : List ℕ) (messages : Messages) → first_failure (sums_of p outputs source s messages) ≡ Accepted → filled p outputs source s (shortened messages) ≡ messages
sums-fill p outputs source s messages h = λ i. record {
  layers = layers-fill source 0 (state_after_point source s (exponent_at p 0)) (output_claim p outputs source s) messages.layers h i;
}

pub no_sum : (p : Parts) (inputs outputs : List F) (source : Source) (s : List ℕ) (messages : Messages) → HaveShape Line (drop 1 (exponents p)) messages.layers → first_failure (sums_of p outputs source s messages) ≡ Accepted →
    is_sum (verdict_of (claim_of p inputs outputs) (all_messages messages.layers) (all_draws source s (exponent_at p 0) (all_messages messages.layers))) ≡ false
no_sum p inputs outputs source s messages shape h =
    let stated : CircuitClaim = claim_of p inputs outputs in
    let qs = all_messages messages.layers in
    let behind = state_after_point source s (exponent_at p 0) in
    let place : Place K = At (point_draws source s (exponent_at p 0)) in
    let all = equations Line 0 stated.layers stated.input_table place (output_claim p outputs source s) qs (draws source behind qs) in
    ap is_sum (sym (answer_from-verdict stated source s qs) ∙ answer-verdict source behind all qs)
    ∙ layers-no_sum source 0 behind (output_claim p outputs source s) stated.layers stated.input_table place messages.layers (have_shape Line p messages shape) h

pub accepted_sums : (p : Parts) (inputs outputs : List F) (source : Source) (s : List ℕ) (messages : Messages) → HaveShape Line (drop 1 (exponents p)) messages.layers →
    verdict_of (claim_of p inputs outputs) (all_messages messages.layers) (all_draws source s (exponent_at p 0) (all_messages messages.layers)) ≡ Accepted → first_failure (sums_of p outputs source s messages) ≡ Accepted
accepted_sums p inputs outputs source s messages shape h =
    let stated : CircuitClaim = claim_of p inputs outputs in
    let qs = all_messages messages.layers in
    let behind = state_after_point source s (exponent_at p 0) in
    let place : Place K = At (point_draws source s (exponent_at p 0)) in
    let all = equations Line 0 stated.layers stated.input_table place (output_claim p outputs source s) qs (draws source behind qs) in
    layers-accepted source 0 behind (output_claim p outputs source s) stated.layers stated.input_table place messages.layers (have_shape Line p messages shape)
    (sym (answer-verdict source behind all qs) ∙ answer_from-verdict stated source s qs ∙ h)
