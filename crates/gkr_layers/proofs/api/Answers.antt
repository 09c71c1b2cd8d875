-- The answer with the state that it leaves: its verdict is the first failure, and where there is none every message was taken in
use Rattle.std.proofs.Common.{◌≡◌, ℕ, suc, ◌+◌, ◌≤◌, List, [], ◌∷◌, ◌++◌, length, get_or, take, drop, Bool, true, false, if◌then◌else◌, refl, sym, ◌∙◌, ap, arith, length-append, length-take, length-drop}
use Rattle.field_ext.specs.Field.{K, k_ops, zero_k, same_k}
use Rattle.field_ext.specs.Polynomial.{value_at}
use Rattle.transcript_fs.specs.Source.{Source, point_draws, state_after_point, draws, all_draws, state_after}
use Rattle.transcript_fs.proofs.api.Draws.{point_front, point_rest, length-draws}
use Rattle.gkr_layers.specs.declared.verdict.Verdict.{Verdict}
use Rattle.gkr_layers.specs.declared.verdict.Verdict.TheVariants.{Accepted}
use Rattle.gkr_layers.specs.Places.{Place, value_over}
use Rattle.gkr_layers.specs.Places.Place.{At}
use Rattle.proof_wire.specs.declared.form.ProofForm.{ProofForm}
use Rattle.gkr_layers.specs.Layers.{GateLayer, next_place, message_count}
use Rattle.gkr_layers.specs.Equations.{Equation, sum_equations, equations, first_failure, Answered, answer}
use Rattle.gkr_layers.specs.Acceptance.{CircuitClaim, answer_from, verdict_of}
use Rattle.gkr_layers.proofs.api.Accepted.{accepts, differ}

either_way : {A B : Type 0} (f : A → B) (b : Bool) (x y : A) (z w : B) → f x ≡ z → f y ≡ w → f (if b then x else y) ≡ (if b then z else w)
either_way f true x y z w e h = e
either_way f false x y z w e h = h

pub answer-verdict : (source : Source) (s : List ℕ) (es : List Equation) (qs : List (List K)) → (answer source s es qs).verdict ≡ first_failure es
answer-verdict source s [] qs = refl
answer-verdict source s (e ∷ es) qs =
    either_way (λ (x : Answered). x.verdict) (same_k e.had e.want) (answer source (state_after source s (take 1 qs)) es (drop 1 qs)) (record { verdict = e.failed; state = s }) (first_failure es) e.failed
    (answer-verdict source (state_after source s (take 1 qs)) es (drop 1 qs)) refl

-- with no messages the state stays
pub answer-still : (source : Source) (s : List ℕ) (es : List Equation) → answer source s es [] ≡ record { verdict = first_failure es; state = s }
answer-still source s [] = refl
answer-still source s (e ∷ es) = still (same_k e.had e.want) (answer source s es []) (first_failure es) e.failed (answer-still source s es)
  where
    still : (b : Bool) (x : Answered) (v w : Verdict) → x ≡ record { verdict = v; state = s } → (if b then x else record { verdict = w; state = s }) ≡ record { verdict = if b then v else w; state = s }
    still true x v w h = h
    still false x v w h = refl

-- an answer from a source is that for the challenges that the source gives
pub answer_from-verdict : (stated : CircuitClaim) (source : Source) (s : List ℕ) (qs : List (List K)) → (answer_from stated source s qs).verdict ≡ verdict_of stated qs (all_draws source s stated.k qs)
answer_from-verdict stated source s qs =
    let k : ℕ = stated.k in
    let behind : List ℕ = state_after_point source s k in
    let rest : List K = draws source behind qs in
    let point : List K = point_draws source s k in
    answer-verdict source behind (equations stated.form 0 stated.layers stated.input_table (At point) (value_over k_ops stated.claimed_table (At point)) qs rest) qs
    ∙ (λ i. first_failure (equations stated.form 0 stated.layers stated.input_table (At (sym (point_front source s k rest) i)) (value_over k_ops stated.claimed_table (At (sym (point_front source s k rest) i))) qs (sym (point_rest source s k rest) i)))

-- none of the equations answers that all hold where it fails
abbrev Tell : List Equation → Type 0
Tell [] = Unit {0}
Tell (e ∷ es) = (accepts e.failed ≡ false) × Tell es

tell-append : (es fs : List Equation) → Tell es → Tell fs → Tell (es ++ fs)
tell-append [] fs t u = u
tell-append (e ∷ es) fs t u = (t.0, tell-append es fs t.1 u)

tell-sums : (layer round : ℕ) (claim : K) (qs : List (List K)) (rs : List K) → Tell (sum_equations layer round claim qs rs)
tell-sums layer round claim [] rs = tt
tell-sums layer round claim (q ∷ qs) [] = tt
tell-sums layer round claim (q ∷ qs) (r ∷ rs) = (refl, tell-sums layer (suc round) (value_at k_ops q r) qs rs)

count-sums : (layer round : ℕ) (claim : K) (qs : List (List K)) (rs : List K) → length qs ≡ length rs → length (sum_equations layer round claim qs rs) ≡ length qs
count-sums layer round claim [] rs e = refl
count-sums layer round claim (q ∷ qs) [] e = absurd (omega (arith, e))
count-sums layer round claim (q ∷ qs) (r ∷ rs) e = ap (λ (n : ℕ). suc n) (count-sums layer (suc round) (value_at k_ops q r) qs rs (omega (arith, e)))

tell-all : (form : ProofForm) (number : ℕ) (layers : List GateLayer) (input : List K) (place : Place K) (claim : K) (qs : List (List K)) (rs : List K) → Tell (equations form number layers input place claim qs rs)
tell-all form number [] input place claim qs rs = (refl, tt)
tell-all form number (layer ∷ layers) input place claim qs rs =
    let k = layer.k in
    tell-append (sum_equations number 1 claim (take (k + k) qs) (take (k + k) rs)) _ (tell-sums number 1 claim (take (k + k) qs) (take (k + k) rs))
    (refl, tell-all form (suc number) layers input (next_place k_ops form k rs) (value_at k_ops (get_or qs (k + k) []) (get_or rs (k + k) zero_k)) (drop (k + k + 1) qs) (drop (k + k + 1) rs))

-- there is an equation for each message, and one more
count-all : (form : ProofForm) (number : ℕ) (layers : List GateLayer) (input : List K) (place : Place K) (claim : K) (qs : List (List K)) (rs : List K) → length qs ≡ message_count layers → length rs ≡ message_count layers →
    length (equations form number layers input place claim qs rs) ≡ message_count layers + 1
count-all form number [] input place claim qs rs e f = refl
count-all form number (layer ∷ layers) input place claim qs rs e f =
    let k = layer.k in
    let one : length (take (k + k) qs) ≡ k + k = omega (arith, length-take (k + k) qs, e) in
    let two : length (take (k + k) rs) ≡ k + k = omega (arith, length-take (k + k) rs, f) in
    let rest = count-all form (suc number) layers input (next_place k_ops form k rs) (value_at k_ops (get_or qs (k + k) []) (get_or rs (k + k) zero_k)) (drop (k + k + 1) qs) (drop (k + k + 1) rs)
    (omega (arith, length-drop (k + k + 1) qs, e)) (omega (arith, length-drop (k + k + 1) rs, f)) in
    length-append (sum_equations number 1 claim (take (k + k) qs) (take (k + k) rs)) _
    ∙ omega (arith, count-sums number 1 claim (take (k + k) qs) (take (k + k) rs) (one ∙ sym two), one, rest)

-- an answer that is one of two, the second of which is no `Accepted`
the_first : (b : Bool) (x : Answered) (w : Verdict) (s t : List ℕ) → accepts w ≡ false → (x.verdict ≡ Accepted → x.state ≡ t) → (if b then x else record { verdict = w; state = s }).verdict ≡ Accepted →
    (if b then x else record { verdict = w; state = s }).state ≡ t
the_first true x w s t d f h = f h
the_first false x w s t d f h = absurd (differ d h)

taken_whole : (source : Source) (s : List ℕ) (es : List Equation) (qs : List (List K)) → Tell es → length qs ≤ length es → (answer source s es qs).verdict ≡ Accepted → (answer source s es qs).state ≡ state_after source s qs
taken_whole source s [] [] t u h = refl
taken_whole source s [] (q ∷ qs) t u h = absurd (omega (arith, u))
taken_whole source s (e ∷ es) [] t u h = the_first (same_k e.had e.want) (answer source s es []) e.failed s s t.0 (taken_whole source s es [] t.1 (omega arith)) h
taken_whole source s (e ∷ es) (q ∷ qs) t u h =
    let next : List ℕ = source.after (source.absorb s q) in
    let v : length qs ≤ length es = omega (arith, u) in
    the_first (same_k e.had e.want) (answer source next es qs) e.failed s (state_after source next qs) t.0 (taken_whole source next es qs t.1 v) h

pub all_taken : (stated : CircuitClaim) (source : Source) (s : List ℕ) (qs : List (List K)) → length qs ≡ message_count stated.layers → (answer_from stated source s qs).verdict ≡ Accepted →
    (answer_from stated source s qs).state ≡ state_after source (state_after_point source s stated.k) qs
all_taken stated source s qs size accepted =
    let behind : List ℕ = state_after_point source s stated.k in
    let place : Place K = At (point_draws source s stated.k) in
    let claim : K = value_over k_ops stated.claimed_table place in
    let rs : List K = draws source behind qs in
    let count = count-all stated.form 0 stated.layers stated.input_table place claim qs rs size (length-draws source behind qs ∙ size) in
    taken_whole source behind (equations stated.form 0 stated.layers stated.input_table place claim qs rs) qs
    (tell-all stated.form 0 stated.layers stated.input_table place claim qs rs) (omega (arith, count, size)) accepted
