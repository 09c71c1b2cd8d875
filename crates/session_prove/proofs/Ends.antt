-- What both ends of a session have sent after prefixes of each other's bytes, and that neither waits for the other before its end
use Rattle.std.proofs.Common.{◌≡◌, ℕ, ◌+◌, ◌-◌, ◌*◌, ◌<◌, ◌≤◌, List, [], ◌∷◌, ◌++◌, length, map, take, drop, Bool, true, false, if◌then◌else◌, ◌==◌, IsTrue, Result, Ok, Err, Some, None, get_or, inl, inr, refl, sym, ◌∙◌, ap, ap₂, subst, arith, length-append, length-drop, length-take, append-nil}
use Rattle.std.specs.Prelude.{is_none, nat_le}
use Rattle.std.specs.List.{flat_map}
use Rattle.std.proofs.lemmas.Bool.{cases_lt, eq-eqb, eqb-true, le-leb}
use Rattle.std.proofs.lemmas.List.{drop-append-le, get_or_push, take_all, take-append-drop, take-append-le, take-take}
use Rattle.field_ext.specs.Bytes.{bytes_of}
use Rattle.field_ext.specs.Field.{K}
use Rattle.circuit_core.specs.Faults.{fault_of}
use Rattle.circuit_core.specs.Parts.{Parts, input_table, layer_values}
use Rattle.circuit_core.specs.Sound.{SoundCircuit, exponent_at, greatest}
use Rattle.gkr_layers.proofs.api.Honest.{honest_of_circuit}
use Rattle.gkr_layers.specs.Acceptance.{claim_of, verdict_of}
use Rattle.gkr_layers.specs.Honest.{AreHonest}
use Rattle.gkr_layers.specs.Layers.{challenges_of, layers_of, message_count}
use Rattle.gkr_layers.specs.Places.Place.{At}
use Rattle.gkr_layers.specs.declared.verdict.Verdict.TheVariants.{Accepted}
use Rattle.gkr_layers.specs.declared.verdict.Verdict.{Verdict}
use Rattle.gkr_verify.proofs.api.GivenDraws.{given-all, given-coordinates, given-rest}
use Rattle.proof_wire.specs.declared.form.ProofForm.TheVariants.{Line}
use Rattle.transcript_fs.specs.Given.{given, numbers_of}
use Rattle.live_session.specs.Layout.{messages_in, sizes_of, whole}
use Rattle.live_session.specs.Elements.{leading}
use Rattle.live_session.specs.Proving.{honest_for, honest_messages, message_bytes, prover_sent, stop_of, verdict_known}
use Rattle.live_session.specs.Verifying.{Session, element_count, elements_in, last_byte, lower, progress_in, verifier_sent}
use Rattle.live_session.specs.declared.progress.LiveFault.{LiveFault}
use Rattle.live_session.specs.declared.progress.LiveFault.TheVariants.{Extra, Range}
use Rattle.live_session.specs.declared.progress.Progress.{Progress}
use Rattle.live_session.specs.declared.progress.Progress.TheVariants.{Ended, Waiting}
use Rattle.live_session.proofs.api.ElementSteps.{either}
use Rattle.live_session.proofs.api.HonestList.{are_honest, length-honest}
use Rattle.live_session.proofs.api.LayoutSteps.{length-sizes, whole-most, whole_all}
use Rattle.live_session.proofs.api.ProverSteps.{told_end}
use Rattle.live_session.proofs.api.VerifierSteps.{leading_take}
use Rattle.proof_wire.proofs.api.Lengths.{bytes_length as length-bytes}
use Rattle.session_prove.specs.Exchange.{HasEnded}
use Rattle.session_prove.proofs.Fronts.{in-front, whole-first}
use Rattle.session_prove.proofs.Messages.{bytes-flat, cut-flat, earlier, elements-count, flat, message-sizes}

module _ (c : SoundCircuit) (s : Session) (same : s.parts ≡ c.parts) (as_many : length s.outputs ≡ s.parts.outputs)
    (stand : s.outputs ≡ take (length s.outputs) (drop 1 (layer_values s.parts s.inputs 0))) (words : length s.words ≡ challenges_of s.parts) where
  abbrev k₀ : ℕ
  k₀ = exponent_at s.parts 0

  abbrev n : ℕ
  n = element_count s.parts

  abbrev sizes : List ℕ
  sizes = sizes_of (lower s.parts)

  abbrev all : List (List K)
  all = honest_for s.parts s.inputs s.words

  abbrev xs : List K
  xs = flat (honest_for s.parts s.inputs s.words)

  abbrev bytes : List ℕ
  bytes = prover_sent s.parts s.inputs s.words

  all-count : length all ≡ message_count (layers_of s.parts)
  all-count = length-honest (layers_of s.parts) (input_table s.parts s.inputs) (At (take k₀ s.words)) (drop k₀ s.words)

  many : length s.words ≡ exponent_at s.parts 0 + length all
  many = omega (arith, words, all-count)

  bytes-are : prover_sent s.parts s.inputs s.words ≡ flat_map bytes_of xs
  bytes-are = ap message_bytes (take_all (length s.words + 1 - exponent_at s.parts 0) all (omega (arith, many))) ∙ bytes-flat all

  xs-count : length xs ≡ element_count s.parts
  xs-count = elements-count (layers_of s.parts) (input_table s.parts s.inputs) (At (take k₀ s.words)) (drop k₀ s.words)

  pub bytes-count : length (prover_sent s.parts s.inputs s.words) ≡ 8 * element_count s.parts
  bytes-count = omega (arith, ap length bytes-are, length-bytes xs, xs-count)

  abbrev sound : SoundCircuit
  sound = record {
    parts = s.parts;
    faultless = subst (λ (q : Parts). IsTrue (is_none (fault_of greatest q))) (sym same) c.faultless;
    has_output = subst (λ (q : Parts). 1 ≤ q.outputs) (sym same) c.has_output;
  }

  pub accepted : verdict_of (claim_of s.parts s.inputs s.outputs) all s.words ≡ Accepted
  accepted =
      let honest = are_honest (layers_of s.parts) (input_table s.parts s.inputs) (At (take k₀ s.words)) (drop k₀ s.words) in
      ap (verdict_of (claim_of s.parts s.inputs s.outputs) all) (sym (given-all s.words k₀ all many))
      ∙ honest_of_circuit Line sound s.inputs s.outputs given (numbers_of s.words) all as_many stand all-count
      (coe 1 0 (i. AreHonest Line (layers_of s.parts) (input_table s.parts s.inputs) (At (given-coordinates s.words k₀ (omega (arith, many)) i)) all (given-rest s.words k₀ all many i)) honest)

  -- ---- the verifier, after the first g bytes

  abbrev pub fed : ℕ → Session
  fed g = record s { bytes = take g (prover_sent s.parts s.inputs s.words) }

  elements-at : (e r : ℕ) → e ≤ n → r < 8 → elements_in (fed (8 * e + r)) ≡ take e xs
  elements-at e r u v = ap (λ (b : List ℕ). elements_in (record s { bytes = take (8 * e + r) b })) bytes-are ∙ in-front n e r xs u v

  abbrev pub sent-of : ℕ → List ℕ
  sent-of e = flat_map bytes_of (take (exponent_at s.parts 0 + whole (sizes_of (lower s.parts)) e) s.words) ++ (if e == element_count s.parts then 1 ∷ [] else [])

  abbrev sent-by : ℕ → List K → List ℕ
  sent-by m es = flat_map bytes_of (take (k₀ + whole sizes m) s.words) ++ (if m == n then last_byte (verdict_of (claim_of s.parts s.inputs s.outputs) (messages_in (lower s.parts) es) s.words) ∷ [] else [])

  -- where all elements are there, the verdict is that on the honest messages
  end-of : (e : ℕ) → e ≤ n → sent-by e (take e xs) ≡ sent-of e
  end-of e u = elim (either (e == n)) [
    | inl h ↦
        let whole-list : take e xs ≡ xs = take_all e xs (omega (arith, eqb-true e n h, xs-count)) in
        let end : verdict_of (claim_of s.parts s.inputs s.outputs) (messages_in (lower s.parts) (take e xs)) s.words ≡ Accepted =
        ap (λ (es : List K). verdict_of (claim_of s.parts s.inputs s.outputs) (messages_in (lower s.parts) es) s.words) whole-list
        ∙ ap (λ (qs : List (List K)). verdict_of (claim_of s.parts s.inputs s.outputs) qs s.words) (cut-flat (layers_of s.parts) (input_table s.parts s.inputs) (At (take k₀ s.words)) (drop k₀ s.words))
        ∙ accepted in
        ap (λ v. flat_map bytes_of (take (k₀ + whole sizes e) s.words) ++ (if e == n then last_byte v ∷ [] else [])) end
    | inr h ↦
        let front : List ℕ = flat_map bytes_of (take (k₀ + whole sizes e) s.words) in
        ap (λ (b : Bool). front ++ (if b then last_byte (verdict_of (claim_of s.parts s.inputs s.outputs) (messages_in (lower s.parts) (take e xs)) s.words) ∷ [] else [])) h
        ∙ ap (λ (b : Bool). front ++ (if b then 1 ∷ [] else [])) (sym h)
  ]

  pub sent-at : (e r : ℕ) → e ≤ n → r < 8 → verifier_sent (fed (8 * e + r)) ≡ sent-of e
  sent-at e r u v =
      let es = elements-at e r u v in
      let count : length (take e xs) ≡ e = omega (arith, length-take e xs, xs-count, u) in
      (λ i. sent-by (length (es i)) (es i)) ∙ ap (λ (m : ℕ). sent-by m (take e xs)) count ∙ end-of e u

  abbrev flag : ℕ → ℕ
  flag e = if e == n then 1 else 0

  pub sent-count : (e : ℕ) → e ≤ n → (e < n → length (sent-of e) ≡ 8 * (k₀ + whole sizes e)) × (e ≡ n → length (sent-of e) ≡ 8 * challenges_of s.parts + 1)
  sent-count e u =
      let most : whole sizes e ≤ message_count (layers_of s.parts) = omega (arith, whole-most sizes e, length-sizes (layers_of s.parts)) in
      let taken : length (take (k₀ + whole sizes e) s.words) ≡ k₀ + whole sizes e = omega (arith, length-take (k₀ + whole sizes e) s.words, words, most) in
      let front : length (flat_map bytes_of (take (k₀ + whole sizes e) s.words)) ≡ 8 * (k₀ + whole sizes e) = omega (arith, length-bytes (take (k₀ + whole sizes e) s.words), taken) in (
        λ w.
            let none : (e == n) ≡ false = differs e n w in
            ap (λ (b : Bool). length (flat_map bytes_of (take (k₀ + whole sizes e) s.words) ++ (if b then 1 ∷ [] else []))) none
            ∙ ap length (append-nil (flat_map bytes_of (take (k₀ + whole sizes e) s.words))) ∙ front,
        λ w.
            let there : (e == n) ≡ true = eq-eqb e n w in
            let last : whole sizes e ≡ message_count (layers_of s.parts) = ap (whole sizes) w ∙ whole_all (layers_of s.parts) in
            ap (λ (b : Bool). length (flat_map bytes_of (take (k₀ + whole sizes e) s.words) ++ (if b then 1 ∷ [] else []))) there
            ∙ length-append (flat_map bytes_of (take (k₀ + whole sizes e) s.words)) (1 ∷ [])
            ∙ (let f : length (flat_map bytes_of (take (k₀ + whole sizes e) s.words)) + 1 ≡ 8 * challenges_of s.parts + 1 = omega (arith, front, last) in f),
      )
    where
      differs : (a b : ℕ) → a < b → (a == b) ≡ false
      differs a b u = elim (either (a == b)) [
        | inl h ↦ absurd (omega (arith, eqb-true a b h, u))
        | inr h ↦ h
      ]

  -- ---- the prover, after the first w challenges

  pub prover-at : (w : ℕ) → w ≤ length s.words → prover_sent s.parts s.inputs (take w s.words) ≡ message_bytes (take (w + 1 - exponent_at s.parts 0) all)
  prover-at w u =
      let count : length (take w s.words) ≡ w = omega (arith, length-take w s.words, u) in
      let layers = layers_of s.parts in
      let input : List K = input_table s.parts s.inputs in
      elim (cases_lt w (exponent_at s.parts 0)) [
        | inl v ↦
            ap message_bytes
            (ap (λ (m : ℕ). take m (honest_for s.parts s.inputs (take w s.words))) (let f : length (take w s.words) + 1 - exponent_at s.parts 0 ≡ 0 = omega (arith, count, v) in f)
            ∙ ap (λ (m : ℕ). take m all) (let f : 0 ≡ w + 1 - exponent_at s.parts 0 = omega (arith, v) in f))
        | inr v ↦
            let rs : List K = drop (exponent_at s.parts 0) (take w s.words) in
            let behind : drop (exponent_at s.parts 0) s.words ≡ rs ++ drop w s.words =
            ap (drop (exponent_at s.parts 0)) (sym (take-append-drop w s.words)) ∙ drop-append-le (exponent_at s.parts 0) (take w s.words) (drop w s.words) (omega (arith, count, v)) in
            let point : take (exponent_at s.parts 0) (take w s.words) ≡ take (exponent_at s.parts 0) s.words = take-take (exponent_at s.parts 0) w s.words v in
            let few : w + 1 - exponent_at s.parts 0 ≤ length (drop (exponent_at s.parts 0) (take w s.words)) + 1 = omega (arith, count, v, length-drop (exponent_at s.parts 0) (take w s.words)) in
            ap message_bytes
            (ap (λ (m : ℕ). take m (honest_for s.parts s.inputs (take w s.words))) (let f : length (take w s.words) + 1 - exponent_at s.parts 0 ≡ w + 1 - exponent_at s.parts 0 = omega (arith, count) in f)
            ∙ ap (λ (z : List K). take (w + 1 - exponent_at s.parts 0) (honest_messages (layers_of s.parts) (input_table s.parts s.inputs) (At z) (drop (exponent_at s.parts 0) (take w s.words)))) point
            ∙ sym (earlier (layers_of s.parts) (input_table s.parts s.inputs) (At (take (exponent_at s.parts 0) s.words)) rs (drop w s.words) (w + 1 - exponent_at s.parts 0) few)
            ∙ ap (λ (ys : List K). take (w + 1 - exponent_at s.parts 0) (honest_messages (layers_of s.parts) (input_table s.parts s.inputs) (At (take (exponent_at s.parts 0) s.words)) ys)) (sym behind))
      ]

  -- ---- neither end waits for the other: where the prover has sent a message more than the verifier has whole, some bytes are on their way

  pub goes-on : (e : ℕ) → e < n → e ≡ length (flat (take (whole sizes e + 1) all)) → ⊥
  goes-on e u is = elim (cases_lt (whole sizes e) (length all)) [
    | inl v ↦
        let more = whole-first all (whole sizes e + 1) (omega (arith, v)) in
        let counted : whole (map length all) (length (flat (take (whole sizes e + 1) all))) ≡ whole sizes e =
        ap₂ whole (message-sizes (layers_of s.parts) (input_table s.parts s.inputs) (At (take k₀ s.words)) (drop k₀ s.words)) (sym is) in
        omega (arith, more, counted)
    | inr v ↦
        let every : take (whole sizes e + 1) all ≡ all = take_all (whole sizes e + 1) all (omega (arith, v)) in
        omega (arith, u, is, ap (λ (qs : List (List K)). length (flat qs)) every, xs-count)
  ]

  -- ---- the end

  whole-taken : take (8 * n + 0) bytes ≡ bytes
  whole-taken = take_all (8 * n + 0) bytes (omega (arith, bytes-count))

  -- all that the verifier sends
  pub all-sent : verifier_sent (record s { bytes = prover_sent s.parts s.inputs s.words }) ≡ flat_map bytes_of s.words ++ 1 ∷ []
  all-sent =
      let last : whole sizes n ≡ message_count (layers_of s.parts) = whole_all (layers_of s.parts) in
      ap (λ (b : List ℕ). verifier_sent (record s { bytes = b })) (sym whole-taken)
      ∙ sent-at n 0 (omega arith) (omega arith)
      ∙ ap (λ (b : Bool). flat_map bytes_of (take (k₀ + whole sizes n) s.words) ++ (if b then 1 ∷ [] else [])) (eq-eqb n n refl)
      ∙ ap (λ (ws : List K). flat_map bytes_of ws ++ 1 ∷ []) (take_all (k₀ + whole sizes n) s.words (omega (arith, words, last)))

  all-elements : elements_in (record s { bytes = prover_sent s.parts s.inputs s.words }) ≡ xs
  all-elements =
      ap (λ (b : List ℕ). elements_in (record s { bytes = b })) (sym whole-taken) ∙ elements-at n 0 (omega arith) (omega arith) ∙ take_all n xs (omega (arith, xs-count))

  -- what a verifier says that has so many elements of all bytes
  abbrev said : ℕ → Verdict → Result Progress LiveFault
  said good verdict = if good == n then (if length bytes == 8 * good then Ok (Ended verdict) else Err (Extra (8 * good))) else (if nat_le (8 * good + 8) (length bytes) then Err (Range (8 * good)) else Ok Waiting)

  accepts : progress_in (record s { bytes = prover_sent s.parts s.inputs s.words }) ≡ Ok (Ended Accepted)
  accepts =
      let es = all-elements in
      (λ i. said (length (es i)) (verdict_of (claim_of s.parts s.inputs s.outputs) (messages_in (lower s.parts) (es i)) s.words))
      ∙ ap (λ (qs : List (List K)). said (length xs) (verdict_of (claim_of s.parts s.inputs s.outputs) qs s.words)) (cut-flat (layers_of s.parts) (input_table s.parts s.inputs) (At (take k₀ s.words)) (drop k₀ s.words))
      ∙ ap (said (length xs)) accepted
      ∙ ap (λ (b : Bool). if b then (if length bytes == 8 * length xs then Ok (Ended Accepted) else Err (Extra (8 * length xs))) else (if nat_le (8 * length xs + 8) (length bytes) then Err (Range (8 * length xs)) else Ok Waiting)) (eq-eqb (length xs) n xs-count)
      ∙ ap (λ (b : Bool). if b then Ok (Ended Accepted) else Err (Extra (8 * length xs))) (eq-eqb (length bytes) (8 * length xs) (let f : length bytes ≡ 8 * length xs = omega (arith, bytes-count, xs-count) in f))

  abbrev told-bytes : List ℕ
  told-bytes = flat_map bytes_of s.words ++ 1 ∷ []

  pub words-length : length (flat_map bytes_of s.words) ≡ 8 * challenges_of s.parts
  words-length = omega (arith, length-bytes s.words, words)

  all-words : length (leading (challenges_of s.parts) told-bytes) ≡ challenges_of s.parts
  all-words =
      let due : ℕ = challenges_of s.parts in
      ap length
      (sym (leading_take due (8 * due + 0) told-bytes (omega arith))
      ∙ ap (leading due) (take-append-le (8 * due + 0) (flat_map bytes_of s.words) (1 ∷ []) (omega (arith, words-length)))
      ∙ in-front due due 0 s.words (omega arith) (omega arith)
      ∙ take_all due s.words (omega (arith, words)))
      ∙ words

  last-bit : get_or told-bytes (8 * challenges_of s.parts) 0 ≡ 1
  last-bit = get_or_push (flat_map bytes_of s.words) 1 0 (8 * challenges_of s.parts) words-length

  told-length : length told-bytes ≡ 8 * challenges_of s.parts + 1
  told-length = length-append (flat_map bytes_of s.words) (1 ∷ []) ∙ (let f : length (flat_map bytes_of s.words) + 1 ≡ 8 * challenges_of s.parts + 1 = omega (arith, words-length) in f)

  pub ends : HasEnded (record s { bytes = prover_sent s.parts s.inputs s.words })
  ends =
      let due : ℕ = challenges_of s.parts in
      record {
        accepts = accepts;
        faultless =
            ap (stop_of due) all-sent
            ∙ told_end due (length (leading due told-bytes)) (length told-bytes) (get_or told-bytes (8 * due) 0) all-words (omega (arith, last-bit)) (omega (arith, told-length));
        known =
            ap (verdict_known due) all-sent
            ∙ ap (λ (b : Bool). if b then Some (get_or told-bytes (8 * due) 0 == 1) else None) (le-leb (8 * due + 1) (length told-bytes) (omega (arith, told-length)))
            ∙ ap (λ (b : Bool). Some b) (eq-eqb (get_or told-bytes (8 * due) 0) 1 last-bit);
      }
