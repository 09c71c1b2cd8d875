use Rattle.std.proofs.Common.{◌≡◌, ℕ, ◌+◌, [], ◌∷◌, ◌++◌, List, length, get_or, take, drop, IsTrue, arith, ◌∙◌, ap, sym, subst, rules}
use Rattle.std.proofs.lemmas.List.{length-map}
use Rattle.field_ext.specs.Field.{K, k_ops}
use Rattle.field_ext.specs.Polynomial.{value_at}
use Rattle.circuit_core.specs.declared.gate.CircuitGate.{CircuitGate}
use Rattle.circuit_core.specs.Sound.{exponent_at}
use Rattle.gkr_layers.specs.Places.{Place, weighted_summand_from}
use Rattle.gkr_layers.specs.Forms.{said_left, said_right, place_between}
use Rattle.gkr_layers.specs.ClaimPlace.{place_of}
use Rattle.gkr_layers.proofs.api.Forms.{two_at_least}
use Rattle.circuit_core.proofs.api.Sizes.{size_of}
use Rattle.transcript_fs.specs.Source.{Source, draws, state_after}
use Rattle.proof_wire.specs.Spelling.{coefficients_of}
use Rattle.gkr_layers.specs.Equations.{sum_equations, claim_after, answer}
use Rattle.gkr_verify.specs.Rounds.{sum_failure}
use Rattle.proof_wire.specs.Lists.{round_messages}
use Rattle.gkr_verify.proofs.LayerSteps.{round_fails, end_fails, end_holds}
use Rattle.transcript_fs.proofs.api.Draws.{state-append, has_behind}
use Rattle.gkr_verify.proofs.layer.check_layer.Goals as goal
use Rattle.gkr_layers.specs.declared.verdict.Verdict.TheVariants.{End}

pub check_rounds-requires-clause-few : goal.check_rounds-requires-clause-few
check_rounds-requires-clause-few g c =
    let most = (size_of c.args.circuit.now (c.args.layer + 1) (omega (arith, c.requires.layer))).2 in
    let count = ap length c.as_slice.ensures ∙ c.requires.shape.rounds in
    omega (arith, most, count)

pub end_value-want-requires-clause-last : goal.end_value-want-requires-clause-last
end_value-want-requires-clause-last g c =
    let least = (size_of c.args.circuit.now (c.args.layer + 1) (omega (arith, c.requires.layer))).1 in
    let many = two_at_least c.args.form (exponent_at c.args.circuit.now.parts (c.args.layer + 1)) least in
    let count = ap length c.as_slice-last.ensures ∙ c.requires.shape.last in
    omega (arith, many, count)

pub returns-in-Err-clause-fails : goal.returns-in-Err-clause-fails
returns-in-Err-clause-fails g c below input qs =
    let source : Source = g.C.Challenges.source in
    let s = g.C.Challenges.state c.args.challenges.now in
    let m = c.args.messages.now in
    let k : ℕ = exponent_at c.args.circuit.now.parts (c.args.layer + 1) in
    let gates : List CircuitGate = get_or c.args.circuit.now.parts.layers c.args.layer [] in
    let rounds : List (List K) = round_messages m.rounds in
    let size = length-map m.rounds coefficients_of ∙ c.requires.shape.rounds in
    let same = ap round_messages c.as_slice.ensures in
    round_fails c.args.form source s c.args.layer k gates below input (place_of c.args.place.now) c.args.claim rounds m.last qs size
    (record { verdict = sum_failure c.args.layer c.in-Err.fault; state = g.C.Challenges.state c.check_rounds.new.challenges })
    (λ rest more. coe 0 1 (j. answer source s (sum_equations c.args.layer 1 c.args.claim (same j) (draws source s (same j)) ++ rest) (same j ++ more) ≡ record { verdict = sum_failure c.args.layer c.in-Err.fault; state = g.C.Challenges.state c.check_rounds.new.challenges }) (c.in-Err.ensures.fails c.args.layer rest more))

pub returns-then-not-equals-clause-fails : goal.returns-then-not-equals-clause-fails
returns-then-not-equals-clause-fails g c below input qs =
    let source : Source = g.C.Challenges.source in
    let s = g.C.Challenges.state c.args.challenges.now in
    let m = c.args.messages.now in
    let k : ℕ = exponent_at c.args.circuit.now.parts (c.args.layer + 1) in
    let gates : List CircuitGate = get_or c.args.circuit.now.parts.layers c.args.layer [] in
    let rounds : List (List K) = round_messages m.rounds in
    let size = length-map m.rounds coefficients_of ∙ c.requires.shape.rounds in
    let place : Place K = place_of c.args.place.now in
    let same = ap round_messages c.as_slice.ensures in
    end_fails c.args.form source s c.args.layer k gates below input (place_of c.args.place.now) c.args.claim rounds m.last qs size
    (λ rest more. coe 0 1 (j. answer source s (sum_equations c.args.layer 1 c.args.claim (same j) (draws source s (same j)) ++ rest) (same j ++ more) ≡ answer source (state_after source s (same j)) rest more) (c.in-Ok.ensures.holds c.args.layer rest more))
    c.in-Ok.claim c.end_value-want.result
    (c.in-Ok.ensures.claim ∙ (λ j. claim_after c.args.claim (same j) (draws source s (same j))))
    (c.end_value-want.ensures
    ∙ (λ i. weighted_summand_from k_ops gates place (c.split_at.ensures.front i) (c.split_at.ensures.back i) (said_left k_ops c.args.form (c.as_slice-last.ensures i)) (said_right k_ops c.args.form (c.as_slice-last.ensures i)))
    ∙ (λ i. weighted_summand_from k_ops gates place (take (c.coordinates-k.ensures.value i) c.check_rounds.new.drawn) (drop (c.coordinates-k.ensures.value i) c.check_rounds.new.drawn) (said_left k_ops c.args.form m.last) (said_right k_ops c.args.form m.last))
    ∙ (λ i. weighted_summand_from k_ops gates place (take k (c.in-Ok.ensures.drawn i)) (drop k (c.in-Ok.ensures.drawn i)) (said_left k_ops c.args.form m.last) (said_right k_ops c.args.form m.last))
    ∙ (λ i. weighted_summand_from k_ops gates place (take k (draws source s (same i))) (drop k (draws source s (same i))) (said_left k_ops c.args.form m.last) (said_right k_ops c.args.form m.last)))
    (sym c.equals.ensures.computed ∙ c.if-not-equals.true)
    ∙ (λ i. record { verdict = End c.args.layer c.in-Ok.claim c.end_value-want.result; state = sym (c.in-Ok.ensures.state ∙ (λ j. state_after source s (same j))) i })

pub challenge-challenge-requires : goal.challenge-challenge-requires
challenge-challenge-requires g c =
    let source : Source = g.C.Challenges.source in
    let s = g.C.Challenges.state c.args.challenges.now in
    let m = c.args.messages.now in
    let k : ℕ = exponent_at c.args.circuit.now.parts (c.args.layer + 1) in
    let gates : List CircuitGate = get_or c.args.circuit.now.parts.layers c.args.layer [] in
    let rounds : List (List K) = round_messages m.rounds in
    let size = length-map m.rounds coefficients_of ∙ c.requires.shape.rounds in
    let same = ap round_messages c.as_slice.ensures in
    let count : k + k + 1 ≡ length rounds + 1 = ap (λ n. n + 1) (sym size) in
    let left : IsTrue (source.has (state_after source s rounds) 1) = has_behind source s rounds 1 (subst (λ n. IsTrue (source.has s n)) count c.requires.has) in
    let there : IsTrue (source.has (g.C.Challenges.state c.check_rounds.new.challenges) 1) =
    subst (λ t. IsTrue (source.has t 1)) (sym (c.in-Ok.ensures.state ∙ (λ j. state_after source s (same j)))) left in
    subst (λ t. IsTrue (source.has t 1)) (sym c.absorb.ensures) (source.has_absorbed (g.C.Challenges.state c.check_rounds.new.challenges) c.as_slice-last.result.now 1 there)

pub returns-clause-holds : goal.returns-clause-holds
returns-clause-holds g c below input qs =
    let source : Source = g.C.Challenges.source in
    let s = g.C.Challenges.state c.args.challenges.now in
    let m = c.args.messages.now in
    let k : ℕ = exponent_at c.args.circuit.now.parts (c.args.layer + 1) in
    let gates : List CircuitGate = get_or c.args.circuit.now.parts.layers c.args.layer [] in
    let rounds : List (List K) = round_messages m.rounds in
    let size = length-map m.rounds coefficients_of ∙ c.requires.shape.rounds in
    let place : Place K = place_of c.args.place.now in
    let same = ap round_messages c.as_slice.ensures in
    let state : g.C.Challenges.state c.absorb.new.self ≡ source.absorb (state_after source s rounds) m.last =
    c.absorb.ensures ∙ (λ j. source.absorb ((c.in-Ok.ensures.state ∙ (λ j. state_after source s (same j))) j) (c.as_slice-last.ensures j)) in
    end_holds c.args.form source s c.args.layer k gates below input (place_of c.args.place.now) c.args.claim rounds m.last qs size
    (λ rest more. coe 0 1 (j. answer source s (sum_equations c.args.layer 1 c.args.claim (same j) (draws source s (same j)) ++ rest) (same j ++ more) ≡ answer source (state_after source s (same j)) rest more) (c.in-Ok.ensures.holds c.args.layer rest more))
    c.in-Ok.claim c.end_value-want.result
    (c.in-Ok.ensures.claim ∙ (λ j. claim_after c.args.claim (same j) (draws source s (same j))))
    (c.end_value-want.ensures
    ∙ (λ i. weighted_summand_from k_ops gates place (c.split_at.ensures.front i) (c.split_at.ensures.back i) (said_left k_ops c.args.form (c.as_slice-last.ensures i)) (said_right k_ops c.args.form (c.as_slice-last.ensures i)))
    ∙ (λ i. weighted_summand_from k_ops gates place (take (c.coordinates-k.ensures.value i) c.check_rounds.new.drawn) (drop (c.coordinates-k.ensures.value i) c.check_rounds.new.drawn) (said_left k_ops c.args.form m.last) (said_right k_ops c.args.form m.last))
    ∙ (λ i. weighted_summand_from k_ops gates place (take k (c.in-Ok.ensures.drawn i)) (drop k (c.in-Ok.ensures.drawn i)) (said_left k_ops c.args.form m.last) (said_right k_ops c.args.form m.last))
    ∙ (λ i. weighted_summand_from k_ops gates place (take k (draws source s (same i))) (drop k (draws source s (same i))) (said_left k_ops c.args.form m.last) (said_right k_ops c.args.form m.last)))
    (sym c.equals.ensures.computed ∙ c.if-not-equals.false)
    (place_between k_ops c.args.form (take k c.check_rounds.new.drawn) (drop k c.check_rounds.new.drawn) c.challenge-challenge.result) c.value_at.result (g.C.Challenges.state c.challenge-challenge.new.self) c.challenge-challenge.result
    (c.challenge-challenge.ensures.value ∙ ap source.draw state)
    ((λ i. place_between k_ops c.args.form (take k (c.in-Ok.ensures.drawn i)) (drop k (c.in-Ok.ensures.drawn i)) c.challenge-challenge.result)
    ∙ (λ i. place_between k_ops c.args.form (take k (draws source s (same i))) (drop k (draws source s (same i))) c.challenge-challenge.result))
    (c.value_at.ensures ∙ (λ i. value_at k_ops (c.as_slice-last.ensures i) c.challenge-challenge.result))
    (c.challenge-challenge.ensures.state ∙ ap source.after state)

pub returns-clause-state : goal.returns-clause-state
returns-clause-state g c =
    let source : Source = g.C.Challenges.source in
    let s = g.C.Challenges.state c.args.challenges.now in
    let m = c.args.messages.now in
    let k : ℕ = exponent_at c.args.circuit.now.parts (c.args.layer + 1) in
    let gates : List CircuitGate = get_or c.args.circuit.now.parts.layers c.args.layer [] in
    let rounds : List (List K) = round_messages m.rounds in
    let size = length-map m.rounds coefficients_of ∙ c.requires.shape.rounds in
    let same = ap round_messages c.as_slice.ensures in
    c.challenge-challenge.ensures.state
    ∙ ap source.after (c.absorb.ensures ∙ (λ j. source.absorb ((c.in-Ok.ensures.state ∙ (λ j. state_after source s (same j))) j) (c.as_slice-last.ensures j)))
    ∙ sym (state-append source s rounds (m.last ∷ []))

pub check_rounds-requires-clause-capacity : goal.check_rounds-requires-clause-capacity
check_rounds-requires-clause-capacity g c = search rules

pub check_rounds-requires-clause-has : goal.check_rounds-requires-clause-has
check_rounds-requires-clause-has g c = search rules

pub returns-in-Err-clause-holds : goal.returns-in-Err-clause-holds
returns-in-Err-clause-holds g c = search rules

pub returns-in-Err-clause-state : goal.returns-in-Err-clause-state
returns-in-Err-clause-state g c = search rules

pub overflow_add-layer : goal.overflow_add-layer
overflow_add-layer g c = search rules

pub coordinates-k-requires : goal.coordinates-k-requires
coordinates-k-requires g c = search rules

pub split_at-requires : goal.split_at-requires
split_at-requires g c = search rules

pub end_value-want-requires-clause-layer : goal.end_value-want-requires-clause-layer
end_value-want-requires-clause-layer g c = search rules

pub end_value-want-requires-clause-wiring : goal.end_value-want-requires-clause-wiring
end_value-want-requires-clause-wiring g c = search rules

pub end_value-want-requires-clause-place : goal.end_value-want-requires-clause-place
end_value-want-requires-clause-place g c = search rules

pub end_value-want-requires-clause-left : goal.end_value-want-requires-clause-left
end_value-want-requires-clause-left g c = search rules

pub end_value-want-requires-clause-right : goal.end_value-want-requires-clause-right
end_value-want-requires-clause-right g c = search rules

pub returns-then-not-equals-clause-holds : goal.returns-then-not-equals-clause-holds
returns-then-not-equals-clause-holds g c = search rules

pub returns-then-not-equals-clause-state : goal.returns-then-not-equals-clause-state
returns-then-not-equals-clause-state g c = search rules

pub returns-clause-fails : goal.returns-clause-fails
returns-clause-fails g c = search rules
