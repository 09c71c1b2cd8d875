-- A session with more bytes, and with those that are kept of them
use Rattle.std.proofs.Common.{◌≡◌, ◌≢◌, ℕ, zero, suc, ◌+◌, ◌-◌, ◌*◌, ◌<◌, ◌≤◌, min, List, [], ◌∷◌, ◌++◌, length, take, drop, Bool, true, false, if◌then◌else◌, Option, Some, None, Result, Ok, Err, inl, inr, ◌==◌, refl, sym, ◌∙◌, ap, ap₂, subst, arith, length-take, append-nil}
use Rattle.std.specs.List.{flat_map}
use Rattle.std.specs.Prelude.{◌&&◌, nat_le}
use Rattle.std.proofs.lemmas.Bool.{cases_lt, eq-eqb, eqb-true, eqb-false}
use Rattle.std.proofs.lemmas.Bool.Decides.{nat_tests}
use Rattle.std.proofs.lemmas.Grind.{flat_map-append}
use Rattle.std.proofs.lemmas.List.{take_all, take_at, take-append-drop, take-take}
use Rattle.field_ext.specs.Bytes.{bytes_of}
use Rattle.field_ext.specs.Field.{K}
use Rattle.gkr_layers.proofs.api.Lists.{drop-take}
use Rattle.gkr_layers.specs.Acceptance.{claim_of, verdict_of}
use Rattle.gkr_layers.specs.Layers.{challenges_of}
use Rattle.gkr_layers.specs.declared.verdict.Verdict.{Verdict}
use Rattle.live_session.specs.Elements.{element_of, in_range, has_element, leading}
use Rattle.live_session.specs.Ending.{EndsWith, IsReadyFor}
use Rattle.live_session.specs.Intake.{Fed}
use Rattle.live_session.specs.Layout.{messages_in}
use Rattle.live_session.specs.Verifying.{Session, element_count, elements_in, is_done, joined, kept, last_byte, lower, progress_in, verdict_in}
use Rattle.live_session.specs.VerifierState.{IsKept, intake_of}
use Rattle.live_session.specs.declared.ending.Ending.{Ending}
use Rattle.live_session.specs.declared.progress.LiveFault.{LiveFault}
use Rattle.live_session.specs.declared.progress.LiveFault.TheVariants.{Range, Extra}
use Rattle.live_session.specs.declared.progress.Progress.{Progress}
use Rattle.live_session.specs.declared.progress.Progress.TheVariants.{Waiting, Ended}
use Rattle.std.specs.Prelude.{IsTrue, IfOk, is_none}
use Rattle.std.proofs.lemmas.Result.{IfOk-weaker}
use Rattle.circuit_core.specs.Faults.{fault_of}
use Rattle.circuit_core.specs.Sound.{SoundCircuit, exponent_at, greatest}
use Rattle.circuit_core.proofs.api.Faultless.{height_bounds, none_from_test}
use Rattle.gkr_layers.proofs.api.Circuits.{length-layers}
use Rattle.gkr_layers.proofs.api.Shapes.{sound_in}
use Rattle.gkr_layers.specs.Layers.{layers_of}
use Rattle.gkr_layers.specs.Soundness.{IsFalse, LetsPass}
use Rattle.gkr_layers.specs.declared.verdict.Verdict.TheVariants.{Accepted}
use Rattle.proof_wire.specs.declared.form.ProofForm.TheVariants.{Line}
use Rattle.live_session.specs.Layout.{sizes_of, whole}
use Rattle.live_session.specs.Verifying.{messages_whole, spelled, verifier_sent}
use Rattle.live_session.specs.VerifierState.{IsConcluded}
use Rattle.live_session.proofs.api.ElementSteps.{either, short, first_none, leading-more, leading-most}
use Rattle.live_session.proofs.api.LayoutSteps.{due, length-sizes, whole-most, whole_all}
use Rattle.live_session.proofs.SpelledSteps.{have_degrees}
use Rattle.proof_wire.proofs.api.Lengths.{bytes_length as length-bytes}

pub bytes-take : (n : ℕ) (xs : List K) → n ≤ length xs → flat_map bytes_of (take n xs) ≡ take (8 * n) (flat_map bytes_of xs)
bytes-take n xs u =
    let count : length (flat_map bytes_of (take n xs)) ≡ 8 * n = omega (arith, length-bytes (take n xs), length-take n xs, u) in
    sym (
    ap (λ (ys : List K). take (8 * n) (flat_map bytes_of ys)) (sym (take-append-drop n xs))
    ∙ ap (take (8 * n)) (flat_map-append bytes_of (take n xs) (drop n xs))
    ∙ take_at (flat_map bytes_of (take n xs)) (flat_map bytes_of (drop n xs)) (8 * n) count)

long_enough : (n m : ℕ) → 8 ≤ m → nat_le 8 (min m n) ≡ nat_le 8 n
long_enough n m u = grind (arith, nat_tests)

-- no more bytes than those of n elements decide which the first n are
pub leading_take : (n m : ℕ) (bytes : List ℕ) → 8 * n ≤ m → leading n (take m bytes) ≡ leading n bytes
leading_take zero m bytes u = refl
leading_take (suc n) m bytes u =
    let v : 8 ≤ m = omega arith in
    let front : take 8 (take m bytes) ≡ take 8 bytes = take-take 8 m bytes v in
    let there : has_element (take m bytes) ≡ has_element bytes =
    ap₂ ◌&&◌ (ap (nat_le 8) (length-take m bytes) ∙ long_enough (length bytes) m v) (ap in_range front) in
    let rest : leading n (drop 8 (take m bytes)) ≡ leading n (drop 8 bytes) = ap (leading n) (drop-take 8 m bytes) ∙ leading_take n (m - 8) (drop 8 bytes) (omega arith) in
    λ i. if there i then element_of (front i) ∷ rest i else []

module _ (s : Session) where
  -- what is kept decides which elements there are
  pub kept_elements : elements_in (kept s) ≡ elements_in s
  kept_elements = leading_take (element_count s.parts) (8 * element_count s.parts + 1) s.bytes (omega arith)

  done_count : is_done s ≡ true → length (elements_in s) ≡ element_count s.parts
  done_count e = eqb-true (length (elements_in s)) (element_count s.parts) e

  -- once all are there, more bytes change none
  pub done_more : (more : List ℕ) → is_done s ≡ true → elements_in (joined s more) ≡ elements_in s
  done_more more e =
      let n = element_count s.parts in
      let z : element_count s.parts - length (elements_in s) ≡ 0 = omega (arith, done_count e) in
      leading-more n s.bytes more
      ∙ ap (λ (m : ℕ). leading n s.bytes ++ leading m (drop (8 * length (leading n s.bytes)) (s.bytes ++ more))) z
      ∙ append-nil (leading n s.bytes)

pub leading_nothing : (n : ℕ) → leading n [] ≡ []
leading_nothing zero = refl
leading_nothing (suc n) = first_none n [] (short [] (omega arith))

-- there is an element to be sent
some_due : (c : SoundCircuit) → 1 ≤ element_count c.parts
some_due c =
    omega (arith, due (layers_of c.parts), length-layers c.parts 0 c.parts.layers, (height_bounds c.parts (none_from_test _ c.faultless)).0)

-- so that not all are there at the start
pub not_done : (c : SoundCircuit) (s : Session) → s.parts ≡ c.parts → s.bytes ≡ [] → is_done s ≡ false
not_done c s p e =
    let some : 1 ≤ element_count s.parts = omega (arith, some_due c, ap element_count p) in
    let none : length (elements_in s) ≡ 0 = ap length (ap (leading (element_count s.parts)) e ∙ leading_nothing (element_count s.parts)) in
    not_equal (length (elements_in s)) (element_count s.parts) (omega arith)
  where
    not_equal : (a b : ℕ) → a < b → (a == b) ≡ false
    not_equal a b u = grind (arith, nat_tests)

-- what is known, by how many elements are there and how many bytes
abbrev told : ℕ → ℕ → Verdict → ℕ → Result Progress LiveFault
told n good verdict fed =
    if good == n then (if fed == 8 * good then Ok (Ended verdict) else Err (Extra (8 * good)))
    else (if nat_le (8 * good + 8) fed then Err (Range (8 * good)) else Ok Waiting)

same_end : (n good fed : ℕ) → good ≡ n → (min (8 * n + 1) fed == 8 * good) ≡ (fed == 8 * good)
same_end n good fed e = grind (arith, nat_tests)

same_wait : (n good fed : ℕ) → good < n → nat_le (8 * good + 8) (min (8 * n + 1) fed) ≡ nat_le (8 * good + 8) fed
same_wait n good fed u = grind (arith, nat_tests)

told_kept : (n good : ℕ) (verdict : Verdict) (fed : ℕ) → good ≤ n → told n good verdict (min (8 * n + 1) fed) ≡ told n good verdict fed
told_kept n good verdict fed u = elim (either (good == n)) [
  | inl e ↦
      ap (λ (b : Bool). if b then (if min (8 * n + 1) fed == 8 * good then Ok (Ended verdict) else Err (Extra (8 * good))) else (if nat_le (8 * good + 8) (min (8 * n + 1) fed) then Err (Range (8 * good)) else Ok Waiting)) e
      ∙ ap (λ (b : Bool). if b then Ok (Ended verdict) else Err (Extra (8 * good))) (same_end n good fed (eqb-true good n e))
      ∙ ap (λ (b : Bool). if b then (if fed == 8 * good then Ok (Ended verdict) else Err (Extra (8 * good))) else (if nat_le (8 * good + 8) fed then Err (Range (8 * good)) else Ok Waiting)) (sym e)
  | inr e ↦
      let differs = eqb-false good n e in
      let fewer : good < n = omega arith in
      ap (λ (b : Bool). if b then (if min (8 * n + 1) fed == 8 * good then Ok (Ended verdict) else Err (Extra (8 * good))) else (if nat_le (8 * good + 8) (min (8 * n + 1) fed) then Err (Range (8 * good)) else Ok Waiting)) e
      ∙ ap (λ (b : Bool). if b then Err (Range (8 * good)) else Ok Waiting) (same_wait n good fed fewer)
      ∙ ap (λ (b : Bool). if b then (if fed == 8 * good then Ok (Ended verdict) else Err (Extra (8 * good))) else (if nat_le (8 * good + 8) fed then Err (Range (8 * good)) else Ok Waiting)) (sym e)
]

-- what is kept says the same
pub progress_kept : (s : Session) → progress_in (kept s) ≡ progress_in s
progress_kept s =
    let n = element_count s.parts in
    let e = kept_elements s in
    (λ i. told n (length (e i)) (verdict_of (claim_of s.parts s.inputs s.outputs) (messages_in (lower s.parts) (e i)) s.words) (length-take (8 * n + 1) s.bytes i))
    ∙ told_kept n (length (elements_in s)) (verdict_in s) (length s.bytes) (leading-most n s.bytes)

accepted_when : (n good fed : ℕ) (verdict : Verdict) → IfOk (told n good verdict fed) (λ p. p ≡ Ended Accepted → (good ≡ n) × (verdict ≡ Accepted))
accepted_when n good fed verdict = elim (either (good == n)) [
  | inl e ↦ elim (either (fed == 8 * good)) [
    | inl f ↦
        let is : told n good verdict fed ≡ Ok (Ended verdict) =
        ap (λ (b : Bool). if b then (if fed == 8 * good then Ok (Ended verdict) else Err (Extra (8 * good))) else (if nat_le (8 * good + 8) fed then Err (Range (8 * good)) else Ok Waiting)) e
        ∙ ap (λ (b : Bool). if b then Ok (Ended verdict) else Err (Extra (8 * good))) f in
        subst (λ r. IfOk r (λ p. p ≡ Ended Accepted → (good ≡ n) × (verdict ≡ Accepted))) (sym is) (λ same. (eqb-true good n e, cc))
    | inr f ↦
        let is : told n good verdict fed ≡ Err (Extra (8 * good)) =
        ap (λ (b : Bool). if b then (if fed == 8 * good then Ok (Ended verdict) else Err (Extra (8 * good))) else (if nat_le (8 * good + 8) fed then Err (Range (8 * good)) else Ok Waiting)) e
        ∙ ap (λ (b : Bool). if b then Ok (Ended verdict) else Err (Extra (8 * good))) f in
        subst (λ r. IfOk r (λ p. p ≡ Ended Accepted → (good ≡ n) × (verdict ≡ Accepted))) (sym is) tt
  ]
  | inr e ↦ elim (either (nat_le (8 * good + 8) fed)) [
    | inl f ↦
        let is : told n good verdict fed ≡ Err (Range (8 * good)) =
        ap (λ (b : Bool). if b then (if fed == 8 * good then Ok (Ended verdict) else Err (Extra (8 * good))) else (if nat_le (8 * good + 8) fed then Err (Range (8 * good)) else Ok Waiting)) e
        ∙ ap (λ (b : Bool). if b then Err (Range (8 * good)) else Ok Waiting) f in
        subst (λ r. IfOk r (λ p. p ≡ Ended Accepted → (good ≡ n) × (verdict ≡ Accepted))) (sym is) tt
    | inr f ↦
        let is : told n good verdict fed ≡ Ok Waiting =
        ap (λ (b : Bool). if b then (if fed == 8 * good then Ok (Ended verdict) else Err (Extra (8 * good))) else (if nat_le (8 * good + 8) fed then Err (Range (8 * good)) else Ok Waiting)) e
        ∙ ap (λ (b : Bool). if b then Err (Range (8 * good)) else Ok Waiting) f in
        subst (λ r. IfOk r (λ p. p ≡ Ended Accepted → (good ≡ n) × (verdict ≡ Accepted))) (sym is) (λ same. (absurd (apart same), absurd (apart same)))
  ]
]
  where
    apart : Waiting ≡ Ended Accepted → ⊥
    apart e = cc

-- accepted with false outputs, some word is exceptional
pub sound_session : (c : SoundCircuit) (s : Session) (result : Result Progress LiveFault) → s.parts ≡ c.parts → length s.outputs ≡ s.parts.outputs → length s.words ≡ challenges_of s.parts → result ≡ progress_in s →
    IfOk result (λ progress. progress ≡ Ended Accepted → IsFalse s.parts s.inputs s.outputs → (n : ℕ) × LetsPass (claim_of s.parts s.inputs s.outputs) (spelled s) s.words n)
sound_session c s result p outputs words is =
    subst (λ r. IfOk r (λ progress. progress ≡ Ended Accepted → IsFalse s.parts s.inputs s.outputs → (n : ℕ) × LetsPass (claim_of s.parts s.inputs s.outputs) (spelled s) s.words n)) (sym is)
    (IfOk-weaker (progress_in s) _ _ (λ progress when accepted false'. shown (when accepted) false') (accepted_when (element_count s.parts) (length (elements_in s)) (length s.bytes) (verdict_in s)))
  where
    shown : (length (elements_in s) ≡ element_count s.parts) × (verdict_in s ≡ Accepted) → IsFalse s.parts s.inputs s.outputs → (n : ℕ) × LetsPass (claim_of s.parts s.inputs s.outputs) (spelled s) s.words n
    shown h false' =
        let have = have_degrees (layers_of s.parts) (elements_in s) h.0 in
        let sc : SoundCircuit = record { parts = s.parts; faultless = subst (λ q. IsTrue (is_none (fault_of greatest q))) (sym p) c.faultless; has_output = subst (λ q. 1 ≤ q.outputs) (sym p) c.has_output } in
        sound_in sc s.inputs s.outputs outputs Line (spelled s) s.words have.0 have.1 words h.1 false'

-- with more bytes
pub kept_on : (s : Session) (more : List ℕ) (ending ending' : Ending) (reply reply' : List ℕ) (verdict verdict' : Option Verdict) →
    IsKept s (intake_of s.parts s.bytes) ending reply verdict → IsReadyFor s.parts ending' → length reply' ≡ length reply →
    (verdict ≢ None → (verdict' ≡ verdict) × (reply' ≡ reply)) →
    (verdict ≡ None → length (elements_in (kept (joined s more))) < element_count s.parts → (verdict' ≡ None) × (reply' ≡ reply) × (ending'.challenges ≡ ending.challenges)) →
    (verdict ≡ None → length (elements_in (kept (joined s more))) ≡ element_count s.parts →
    EndsWith (verdict_of (claim_of s.parts s.inputs s.outputs) (messages_in (lower s.parts) (elements_in (kept (joined s more)))) ending.challenges) (8 * challenges_of s.parts) reply reply' verdict') →
    IsKept (kept (joined s more)) (intake_of s.parts (take (8 * element_count s.parts + 1) (s.bytes ++ more))) ending' reply' verdict'
kept_on s more ending ending' reply reply' (Some v) verdict' is ready size stays waits ends =
    let s' = kept (joined s more) in
    let stay = stays (λ e. apart e) in
    let same : elements_in (kept (joined s more)) ≡ elements_in s = kept_elements (joined s more) ∙ done_more s more is.concluded.0 in
    record {
      inputs = is.inputs;
      outputs = is.outputs;
      words = is.words;
      taken = refl;
      ready = ready;
      unused = λ e. absurd (apart (sym stay.0 ∙ e));
      reply_length = size ∙ is.reply_length;
      reply_words = ap (take (8 * challenges_of s.parts)) stay.1 ∙ is.reply_words;
      concluded = subst (IsConcluded s' reply') (sym stay.0) (
        ap (λ (xs : List K). length xs == element_count s.parts) same ∙ is.concluded.0,
        is.concluded.1 ∙ ap (λ (xs : List K). verdict_of (claim_of s.parts s.inputs s.outputs) (messages_in (lower s.parts) xs) s.words) (sym same),
        ap (drop (8 * challenges_of s.parts)) stay.1 ∙ is.concluded.2,
      );
    }
  where
    apart : {x : Verdict} → Some x ≡ None → ⊥
    apart e = cc
kept_on s more ending ending' reply reply' None verdict' is ready size stays waits ends =
    let s' = kept (joined s more) in
    let n = element_count s.parts in
    let words : ending.challenges ≡ s.words = is.unused refl in
    elim (cases_lt (length (elements_in (kept (joined s more)))) (element_count s.parts)) [
      | inl u ↦
          let wait = waits refl u in
          record {
            inputs = is.inputs;
            outputs = is.outputs;
            words = is.words;
            taken = refl;
            ready = ready;
            unused = λ e. wait.2 ∙ words;
            reply_length = size ∙ is.reply_length;
            reply_words = ap (take (8 * challenges_of s.parts)) wait.1 ∙ is.reply_words;
            concluded = subst (IsConcluded s' reply') (sym wait.0) (fewer (length (elements_in s')) n u);
          }
      | inr u ↦
          let all : length (elements_in (kept (joined s more))) ≡ element_count s.parts = omega (arith, u, leading-most (element_count s.parts) (take (8 * element_count s.parts + 1) (s.bytes ++ more))) in
          let end = ends refl all in
          let reached : verdict_of (claim_of s.parts s.inputs s.outputs) (messages_in (lower s.parts) (elements_in (kept (joined s more)))) ending.challenges ≡ verdict_in (kept (joined s more)) =
          ap (verdict_of (claim_of s.parts s.inputs s.outputs) (messages_in (lower s.parts) (elements_in s'))) words in
          record {
            inputs = is.inputs;
            outputs = is.outputs;
            words = is.words;
            taken = refl;
            ready = ready;
            unused = λ e. absurd (apart (sym end.reached ∙ e));
            reply_length = size ∙ is.reply_length;
            reply_words = end.before ∙ is.reply_words;
            concluded = subst (IsConcluded s' reply') (sym end.reached) (eq-eqb (length (elements_in s')) n all, reached, end.end);
          }
    ]
  where
    apart : {x : Verdict} → Some x ≡ None → ⊥
    apart e = cc

    fewer : (a b : ℕ) → a < b → (a == b) ≡ false
    fewer a b u = grind (arith, nat_tests)

-- how many words are sent at most
pub words_within : (s : Session) → length s.words ≡ challenges_of s.parts → exponent_at s.parts 0 + messages_whole s ≤ length s.words
words_within s e = omega (arith, e, whole-most (sizes_of (lower s.parts)) (length (elements_in s)), length-sizes (layers_of s.parts))

module _ (s : Session) (intake : Fed) (ending : Ending) (reply : List ℕ) (n : ℕ) (is-n : n ≡ exponent_at s.parts 0 + messages_whole s) where
  pub sent_waiting : IsKept s intake ending reply None → take (8 * n) reply ≡ verifier_sent s
  sent_waiting is =
      let within = words_within s is.words in
      let few : 8 * n ≤ 8 * challenges_of s.parts = omega (arith, within, is.words, is-n) in
      sym (take-take (8 * n) (8 * challenges_of s.parts) reply few) ∙ ap (take (8 * n)) is.reply_words
      ∙ sym (bytes-take n s.words (omega (arith, within, is-n)))
      ∙ ap (λ (m : ℕ). flat_map bytes_of (take m s.words)) is-n
      ∙ sym (append-nil (flat_map bytes_of (take (exponent_at s.parts 0 + messages_whole s) s.words)))
      ∙ ap (λ (b : Bool). flat_map bytes_of (take (exponent_at s.parts 0 + messages_whole s) s.words) ++ (if b then last_byte (verdict_in s) ∷ [] else [])) (sym is.concluded)

  pub sent_ended : (v : Verdict) → IsKept s intake ending reply (Some v) → take (8 * n + 1) reply ≡ verifier_sent s
  sent_ended v is =
      let count : length (elements_in s) ≡ element_count s.parts = done_count s is.concluded.0 in
      let all : n ≡ challenges_of s.parts = omega (arith, is-n, ap (whole (sizes_of (lower s.parts))) count, whole_all (layers_of s.parts)) in
      let end : List ℕ = last_byte (verdict_in s) ∷ [] in
      take_all (8 * n + 1) reply (omega (arith, is.reply_length, all))
      ∙ sym (take-append-drop (8 * challenges_of s.parts) reply)
      ∙ ap₂ (λ (xs ys : List ℕ). xs ++ ys) is.reply_words (is.concluded.2 ∙ ap (λ (w : Verdict). last_byte w ∷ []) is.concluded.1)
      ∙ ap (λ (xs : List K). flat_map bytes_of xs ++ end) (sym (take_all (exponent_at s.parts 0 + messages_whole s) s.words (omega (arith, is.words, all, is-n))))
      ∙ ap (λ (b : Bool). flat_map bytes_of (take (exponent_at s.parts 0 + messages_whole s) s.words) ++ (if b then last_byte (verdict_in s) ∷ [] else [])) (sym is.concluded.0)

-- the reply holds as many words
pub reply_holds : (s : Session) (intake : Fed) (ending : Ending) (reply : List ℕ) (verdict : Option Verdict) (k w : ℕ) (es : List K) → IsKept s intake ending reply verdict →
    k ≡ exponent_at s.parts 0 → w ≡ whole (sizes_of (lower s.parts)) (length es) → es ≡ leading intake.most intake.bytes →
    (k + w ≡ exponent_at s.parts 0 + messages_whole s) × (8 * (k + w) + 1 ≤ length reply)
reply_holds s intake ending reply verdict k w es is first messages read =
    let count = messages ∙ ap (λ (xs : List K). whole (sizes_of (lower s.parts)) (length xs)) (read ∙ ap (λ (f : Fed). leading f.most f.bytes) is.taken) in
    let n : k + w ≡ exponent_at s.parts 0 + messages_whole s = omega (arith, first, count) in
    (n, omega (arith, n, words_within s is.words, is.words, is.reply_length))
