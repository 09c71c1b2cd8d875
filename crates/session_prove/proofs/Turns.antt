-- What each end has sent after a prefix of the other's bytes: a prefix of all that it sends, that only grows, and that ends with the session
use Rattle.std.proofs.Common.{◌≡◌, ℕ, ◌+◌, ◌-◌, ◌*◌, ◌/◌, ◌%◌, ◌<◌, ◌≤◌, List, [], ◌∷◌, ◌++◌, length, take, drop, Bool, false, if◌then◌else◌, ◌==◌, inl, inr, refl, sym, ◌∙◌, ap, arith, length-append, length-take, append-nil}
use Rattle.std.specs.List.{flat_map}
use Rattle.std.proofs.lemmas.Bool.{cases_lt, eqb-true}
use Rattle.std.proofs.lemmas.Grind.{flat_map-append}
use Rattle.std.proofs.lemmas.List.{take_all, take_at, take-append-drop, take-append-le, take-take}
use Rattle.field_ext.specs.Bytes.{bytes_of}
use Rattle.field_ext.specs.Field.{K}
use Rattle.circuit_core.specs.Parts.{input_table, layer_values}
use Rattle.circuit_core.specs.Sound.{SoundCircuit, exponent_at}
use Rattle.gkr_layers.specs.Layers.{challenges_of, layers_of, message_count}
use Rattle.gkr_layers.specs.Places.Place.{At}
use Rattle.live_session.specs.Elements.{leading}
use Rattle.live_session.specs.Layout.{sizes_of, whole}
use Rattle.live_session.specs.Proving.{honest_for, message_bytes, prover_sent}
use Rattle.live_session.specs.Verifying.{Session, element_count, lower, verifier_sent}
use Rattle.live_session.proofs.api.ElementSteps.{either}
use Rattle.live_session.proofs.api.HonestList.{length-honest}
use Rattle.live_session.proofs.api.LayoutSteps.{length-sizes, whole-most}
use Rattle.live_session.proofs.api.VerifierSteps.{bytes-take, leading_take}
use Rattle.proof_wire.proofs.api.Lengths.{bytes_length as length-bytes}
use Rattle.session_prove.specs.Exchange.{whole_session}
use Rattle.session_prove.proofs.Ends.{all-sent, bytes-count, goes-on, prover-at, sent-at, sent-count, words-length}
use Rattle.session_prove.proofs.Fronts.{in-front, whole-mono}
use Rattle.session_prove.proofs.Messages.{bytes-flat, flat}

-- ---- the bytes of a prefix of messages

front-bytes : (m : ℕ) (qs : List (List K)) → message_bytes qs ≡ message_bytes (take m qs) ++ message_bytes (drop m qs)
front-bytes m qs = ap message_bytes (sym (take-append-drop m qs)) ∙ flat_map-append (flat_map bytes_of) (take m qs) (drop m qs)

fewer-bytes : (m : ℕ) (qs : List (List K)) → length (message_bytes (take m qs)) ≤ length (message_bytes qs)
fewer-bytes m qs = omega (arith, ap length (front-bytes m qs), length-append (message_bytes (take m qs)) (message_bytes (drop m qs)))

front-is : (m : ℕ) (qs : List (List K)) → message_bytes (take m qs) ≡ take (length (message_bytes (take m qs))) (message_bytes qs)
front-is m qs =
    sym (ap (take (length (message_bytes (take m qs)))) (front-bytes m qs) ∙ take_at (message_bytes (take m qs)) (message_bytes (drop m qs)) (length (message_bytes (take m qs))) refl)

module _ (c : SoundCircuit) (s : Session) (same : s.parts ≡ c.parts) (as_many : length s.outputs ≡ s.parts.outputs)
    (stand : s.outputs ≡ take (length s.outputs) (drop 1 (layer_values s.parts s.inputs 0))) (words : length s.words ≡ challenges_of s.parts) where
  abbrev k₀ : ℕ
  k₀ = exponent_at s.parts 0

  abbrev n : ℕ
  n = element_count s.parts

  abbrev due : ℕ
  due = challenges_of s.parts

  abbrev sizes : List ℕ
  sizes = sizes_of (lower s.parts)

  abbrev all : List (List K)
  all = honest_for s.parts s.inputs s.words

  -- all that the prover sends, and all that the verifier does
  abbrev given : List ℕ
  given = prover_sent s.parts s.inputs s.words

  abbrev taken : List ℕ
  taken = verifier_sent (whole_session s)

  abbrev word-bytes : List ℕ
  word-bytes = flat_map bytes_of s.words

  given-length : length given ≡ 8 * n
  given-length = bytes-count c s same as_many stand words

  taken-is : verifier_sent (whole_session s) ≡ flat_map bytes_of s.words ++ 1 ∷ []
  taken-is = all-sent c s same as_many stand words

  pub taken-length : length (verifier_sent (whole_session s)) ≡ 8 * challenges_of s.parts + 1
  taken-length = ap length taken-is ∙ length-append (flat_map bytes_of s.words) (1 ∷ []) ∙ (let f : length (flat_map bytes_of s.words) + 1 ≡ 8 * challenges_of s.parts + 1 = omega (arith, words-length c s same as_many stand words) in f)

  -- ---- the verifier

  abbrev reply : ℕ → List ℕ
  reply g = verifier_sent (record s { bytes = take g (prover_sent s.parts s.inputs s.words) })

  abbrev sent-of : ℕ → List ℕ
  sent-of e = flat_map bytes_of (take (exponent_at s.parts 0 + whole (sizes_of (lower s.parts)) e) s.words) ++ (if e == element_count s.parts then 1 ∷ [] else [])

  reply-is : (g : ℕ) → g ≤ 8 * element_count s.parts → reply g ≡ sent-of (g / 8)
  reply-is g u =
      let cut : g ≡ 8 * (g / 8) + g % 8 = omega arith in
      ap (λ (m : ℕ). verifier_sent (record s { bytes = take m (prover_sent s.parts s.inputs s.words) })) cut
      ∙ sent-at c s same as_many stand words (g / 8) (g % 8) (omega (arith, u)) (omega arith)

  -- all words are sent at the end alone
  most-words : (e : ℕ) → exponent_at s.parts 0 + whole (sizes_of (lower s.parts)) e ≤ challenges_of s.parts
  most-words e = omega (arith, whole-most (sizes_of (lower s.parts)) e, length-sizes (layers_of s.parts))

  reply-early : (g : ℕ) → g < 8 * element_count s.parts → length (reply g) ≡ 8 * (exponent_at s.parts 0 + whole (sizes_of (lower s.parts)) (g / 8))
  reply-early g u = ap length (reply-is g (omega (arith, u))) ∙ (sent-count c s same as_many stand words (g / 8) (omega (arith, u))).0 (omega (arith, u))

  reply-whole : reply (8 * element_count s.parts) ≡ verifier_sent (whole_session s)
  reply-whole = ap (λ (b : List ℕ). verifier_sent (record s { bytes = b })) (take_all (8 * n) given (omega (arith, given-length)))

  pub reply-front : (g : ℕ) → g ≤ 8 * element_count s.parts → reply g ≡ take (length (reply g)) (verifier_sent (whole_session s))
  reply-front g u = elim (cases_lt g (8 * element_count s.parts)) [
    | inl v ↦
        let m : ℕ = exponent_at s.parts 0 + whole (sizes_of (lower s.parts)) (g / 8) in
        let none : (g / 8 == element_count s.parts) ≡ false = differs (g / 8) (element_count s.parts) (omega (arith, v)) in
        let count : 8 * m ≡ length (reply g) = sym (reply-early g v) in
        reply-is g u
        ∙ ap (λ (b : Bool). flat_map bytes_of (take m s.words) ++ (if b then 1 ∷ [] else [])) none
        ∙ append-nil (flat_map bytes_of (take m s.words))
        ∙ bytes-take m s.words (omega (arith, most-words (g / 8), words))
        ∙ sym (take-append-le (8 * m) word-bytes (1 ∷ []) (omega (arith, most-words (g / 8), words-length c s same as_many stand words)))
        ∙ ap (take (8 * m)) (sym taken-is)
        ∙ ap (λ (i : ℕ). take i (verifier_sent (whole_session s))) count
    | inr v ↦
        let end : reply g ≡ verifier_sent (whole_session s) = ap reply (let f : g ≡ 8 * element_count s.parts = omega (arith, u, v) in f) ∙ reply-whole in
        end ∙ sym (take_all (length (reply g)) taken (omega (arith, ap length end)))
  ]
    where
      differs : (a b : ℕ) → a < b → (a == b) ≡ false
      differs a b u = elim (either (a == b)) [
        | inl h ↦ absurd (omega (arith, eqb-true a b h, u))
        | inr h ↦ h
      ]

  pub reply-grows : (g h : ℕ) → g ≤ h → h ≤ 8 * element_count s.parts → length (reply g) ≤ length (reply h)
  reply-grows g h u v = elim (cases_lt h (8 * element_count s.parts)) [
    | inl w ↦ omega (arith, reply-early g (omega (arith, u, w)), reply-early h w, whole-mono (sizes_of (lower s.parts)) (g / 8) (h / 8) (omega (arith, u)))
    | inr w ↦
        let end : reply h ≡ verifier_sent (whole_session s) = ap reply (let f : h ≡ 8 * element_count s.parts = omega (arith, v, w) in f) ∙ reply-whole in
        omega (arith, ap length end, ap length (reply-front g (omega (arith, u, v))), length-take (length (reply g)) (verifier_sent (whole_session s)))
  ]

  -- the last byte is sent after all messages alone
  pub reply-last : (g : ℕ) → g ≤ 8 * element_count s.parts → 8 * challenges_of s.parts + 1 ≤ length (reply g) → g ≡ 8 * element_count s.parts
  reply-last g u v = elim (cases_lt g (8 * element_count s.parts)) [
    | inl w ↦ absurd (omega (arith, v, reply-early g w, most-words (g / 8)))
    | inr w ↦ omega (arith, u, w)
  ]

  -- ---- the prover

  abbrev messages : ℕ → List ℕ
  messages t = prover_sent s.parts s.inputs (leading (challenges_of s.parts) (take t (verifier_sent (whole_session s))))

  words-early : (t : ℕ) → t ≤ 8 * challenges_of s.parts → leading (challenges_of s.parts) (take t (verifier_sent (whole_session s))) ≡ take (t / 8) s.words
  words-early t u =
      let cut : t ≡ 8 * (t / 8) + t % 8 = omega arith in
      ap (leading due) (
      ap (take t) taken-is
      ∙ take-append-le t word-bytes (1 ∷ []) (omega (arith, u, words-length c s same as_many stand words))
      ∙ ap (λ (m : ℕ). take m word-bytes) cut)
      ∙ in-front due (t / 8) (t % 8) s.words (omega (arith, u)) (omega arith)

  words-at : (t : ℕ) → t ≤ 8 * challenges_of s.parts + 1 → leading (challenges_of s.parts) (take t (verifier_sent (whole_session s))) ≡ take (t / 8) s.words
  words-at t u = elim (cases_lt (8 * challenges_of s.parts) t) [
    | inl v ↦
        let last : t ≡ 8 * challenges_of s.parts + 1 = omega (arith, u, v) in
        leading_take due t taken (omega (arith, v))
        ∙ sym (leading_take due (8 * due) taken (omega arith))
        ∙ words-early (8 * due) (omega arith)
        ∙ ap (λ (m : ℕ). take m s.words) (let f : (8 * challenges_of s.parts) / 8 ≡ t / 8 = omega (arith, last) in f)
    | inr v ↦ words-early t v
  ]

  messages-are : (t : ℕ) → t ≤ 8 * challenges_of s.parts + 1 → messages t ≡ message_bytes (take (t / 8 + 1 - exponent_at s.parts 0) (honest_for s.parts s.inputs s.words))
  messages-are t u =
      ap (prover_sent s.parts s.inputs) (words-at t u) ∙ prover-at c s same as_many stand words (t / 8) (omega (arith, u, words))

  given-is : prover_sent s.parts s.inputs s.words ≡ message_bytes (honest_for s.parts s.inputs s.words)
  given-is = messages-all ∙ ap message_bytes (take_all (length s.words + 1 - exponent_at s.parts 0) all (omega (arith, words, count)))
    where
      messages-all : prover_sent s.parts s.inputs s.words ≡ message_bytes (take (length s.words + 1 - exponent_at s.parts 0) (honest_for s.parts s.inputs s.words))
      messages-all = refl

      count : length (honest_for s.parts s.inputs s.words) ≡ message_count (layers_of s.parts)
      count = length-honest (layers_of s.parts) (input_table s.parts s.inputs) (At (take (exponent_at s.parts 0) s.words)) (drop (exponent_at s.parts 0) s.words)

  pub messages-front : (t : ℕ) → t ≤ 8 * challenges_of s.parts + 1 → messages t ≡ take (length (messages t)) (prover_sent s.parts s.inputs s.words)
  messages-front t u =
      let is = messages-are t u in
      let m : ℕ = t / 8 + 1 - exponent_at s.parts 0 in
      is ∙ front-is m all ∙ ap (take (length (message_bytes (take m all)))) (sym given-is) ∙ ap (λ (i : ℕ). take i (prover_sent s.parts s.inputs s.words)) (sym (ap length is))

  pub messages-grow : (t v : ℕ) → t ≤ v → v ≤ 8 * challenges_of s.parts + 1 → length (messages t) ≤ length (messages v)
  messages-grow t v u w =
      let m : ℕ = t / 8 + 1 - exponent_at s.parts 0 in
      let m' : ℕ = v / 8 + 1 - exponent_at s.parts 0 in
      let fewer : t / 8 + 1 - exponent_at s.parts 0 ≤ v / 8 + 1 - exponent_at s.parts 0 = omega (arith, u) in
      omega (arith, ap length (messages-are t (omega (arith, u, w))), ap length (messages-are v w), fewer-bytes m (take m' all), ap (λ (qs : List (List K)). length (message_bytes qs)) (take-take m m' all fewer))

  -- ---- where each end has all that the other has sent, the session is at its end
  pub none-waits : (t g : ℕ) → t ≤ 8 * challenges_of s.parts + 1 → g ≤ 8 * element_count s.parts → t ≡ length (reply g) → g ≡ length (messages t) → t ≡ 8 * challenges_of s.parts + 1
  none-waits t g u v has-all has-all' = elim (cases_lt g (8 * element_count s.parts)) [
    | inl w ↦
        let e : ℕ = whole (sizes_of (lower s.parts)) (g / 8) in
        let early : t ≡ 8 * (exponent_at s.parts 0 + whole (sizes_of (lower s.parts)) (g / 8)) = has-all ∙ reply-early g w in
        let count : t / 8 + 1 - exponent_at s.parts 0 ≡ whole (sizes_of (lower s.parts)) (g / 8) + 1 = omega (arith, early) in
        let size : length (messages t) ≡ 8 * length (flat (take (e + 1) all)) =
        ap length (messages-are t u ∙ ap (λ (m : ℕ). message_bytes (take m all)) count ∙ bytes-flat (take (e + 1) all)) ∙ length-bytes (flat (take (e + 1) all)) in
        absurd (goes-on c s same as_many stand words (g / 8) (omega (arith, w)) (let f : g / 8 ≡ length (flat (take (e + 1) all)) = omega (arith, has-all', size) in f))
    | inr w ↦
        has-all ∙ ap (λ (m : ℕ). length (reply m)) (let f : g ≡ 8 * element_count s.parts = omega (arith, v, w) in f) ∙ ap length reply-whole ∙ taken-length
  ]
