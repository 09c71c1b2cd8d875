-- The messages that elements are
use Rattle.std.proofs.Common.{◌≡◌, ℕ, zero, suc, ◌+◌, ◌*◌, ◌<◌, ◌≤◌, List, [], ◌∷◌, ◌++◌, All, length, take, drop, get_or, refl, sym, ◌∙◌, ap, ap₂, subst, arith, length-append, append_assoc, length-take, length-drop}
use Rattle.std.specs.List.{flat_map}
use Rattle.std.proofs.lemmas.List.{drop_at, take_at}
use Rattle.std.proofs.lemmas.List.Concat.{flat_map-cons}
use Rattle.field_ext.specs.Field.{K}
use Rattle.gkr_layers.proofs.api.Lists.{front-take, next-read, rest-drop}
use Rattle.gkr_layers.specs.Layers.{GateLayer, lower_exponents, message_count}
use Rattle.gkr_layers.specs.Soundness.{HaveDegrees}
use Rattle.proof_wire.proofs.api.Lengths.{rounds_length}
use Rattle.proof_wire.specs.declared.form.ProofForm.TheVariants.{Line}
use Rattle.proof_wire.specs.declared.messages.LayerMessages.{LayerMessages}
use Rattle.proof_wire.specs.declared.messages.Round.{Round}
use Rattle.proof_wire.specs.Lists.{HaveShape, all_messages, round_messages}
use Rattle.proof_wire.specs.Spelling.{all_coefficients, coefficient_count, coefficients_of, layer_coefficients}
use Rattle.live_session.specs.Layout.{messages_in, triples}
use Rattle.live_session.proofs.api.LayoutSteps.{due_more}

triples-rounds : (rounds : List Round) → triples (flat_map coefficients_of rounds) ≡ round_messages rounds
triples-rounds [] = refl
triples-rounds (r ∷ rs) = ap triples (flat_map-cons coefficients_of r rs) ∙ ap (λ (qs : List (List K)). coefficients_of r ∷ qs) (triples-rounds rs)

-- the elements of messages are cut into these messages
pub spelled_as : (ks : List ℕ) (ms : List LayerMessages) → HaveShape Line ks ms → messages_in ks (all_coefficients ms) ≡ all_messages ms
spelled_as [] [] h = refl
spelled_as [] (m ∷ ms) h = absurd h
spelled_as (k ∷ ks) [] h = absurd h
spelled_as (k ∷ ks) (m ∷ ms) h =
    let rounds : List K = flat_map coefficients_of m.rounds in
    let rest : List K = all_coefficients ms in
    let count : length (flat_map coefficients_of m.rounds) ≡ 6 * k = omega (arith, rounds_length m.rounds, h.0.rounds) in
    let both : length (flat_map coefficients_of m.rounds ++ m.last) ≡ 6 * k + (k + 1) = omega (arith, length-append (flat_map coefficients_of m.rounds) m.last, count, h.0.last) in
    let all : all_coefficients (m ∷ ms) ≡ (rounds ++ m.last) ++ rest = flat_map-cons layer_coefficients m ms in
    let flat : all_coefficients (m ∷ ms) ≡ rounds ++ (m.last ++ rest) = all ∙ append_assoc rounds m.last rest in
    let front : take (6 * k) (all_coefficients (m ∷ ms)) ≡ rounds = ap (take (6 * k)) flat ∙ take_at rounds (m.last ++ rest) (6 * k) count in
    let last : take (k + 1) (drop (6 * k) (all_coefficients (m ∷ ms))) ≡ m.last =
    ap (take (k + 1)) (ap (drop (6 * k)) flat ∙ drop_at rounds (m.last ++ rest) (6 * k) count) ∙ take_at m.last rest (k + 1) h.0.last in
    let back : drop (6 * k + (k + 1)) (all_coefficients (m ∷ ms)) ≡ rest = ap (drop (6 * k + (k + 1))) all ∙ drop_at (rounds ++ m.last) rest (6 * k + (k + 1)) both in
    ap₂ (λ (xs ys : List (List K)). xs ++ ys)
    (ap₂ (λ (xs : List (List K)) (q : List K). xs ++ q ∷ []) (ap triples front ∙ triples-rounds m.rounds) last)
    (ap (messages_in ks) back ∙ spelled_as ks ms h.1)

triples-count : (m : ℕ) (xs : List K) → length xs ≡ 3 * m → (length (triples xs) ≡ m) × ((j : ℕ) (d : List K) → j < length (triples xs) → length (get_or (triples xs) j d) ≤ 3)
triples-count zero [] e = (refl, λ j d u. absurd (omega (arith, u)))
triples-count (suc m) [] e = absurd (omega arith)
triples-count zero (a ∷ xs) e = absurd (omega arith)
triples-count (suc m) (a ∷ []) e = absurd (omega arith)
triples-count (suc m) (a ∷ b ∷ []) e = absurd (omega arith)
triples-count (suc m) (a ∷ b ∷ c ∷ xs) e =
    let more = triples-count m xs (omega arith) in (
      ap (λ (n : ℕ). suc n) more.0,
      at (triples xs) more.1,
    )
  where
    at : (xs : List (List K)) → ((j : ℕ) (d : List K) → j < length xs → length (get_or xs j d) ≤ 3) → (j : ℕ) (d : List K) → j < length ((a ∷ b ∷ c ∷ []) ∷ xs) → length (get_or ((a ∷ b ∷ c ∷ []) ∷ xs) j d) ≤ 3
    at xs h zero d u = omega arith
    at xs h (suc j) d u = h j d (omega arith)

-- as many messages as the layers take, of the coefficients that each may have
pub have_degrees : (layers : List GateLayer) (xs : List K) → length xs ≡ coefficient_count Line (lower_exponents layers) →
    HaveDegrees Line layers (messages_in (lower_exponents layers) xs) × (length (messages_in (lower_exponents layers) xs) ≡ message_count layers)
have_degrees [] xs e = (tt, refl)
have_degrees (layer ∷ layers) xs e =
    let k = layer.k in
    let ks = lower_exponents layers in
    let count = due_more layer.k (lower_exponents layers) in
    let t : List (List K) = triples (take (6 * k) xs) in
    let q : List K = take (k + 1) (drop (6 * k) xs) in
    let rest : List (List K) = messages_in ks (drop (6 * k + (k + 1)) xs) in
    let rounds = triples-count (layer.k + layer.k) (take (6 * layer.k) xs) (omega (arith, length-take (6 * layer.k) xs, e, count)) in
    let size : length (triples (take (6 * layer.k) xs)) ≡ layer.k + layer.k = rounds.0 in
    let short : length (take (layer.k + 1) (drop (6 * layer.k) xs)) ≤ layer.k + 1 = omega (arith, length-take (layer.k + 1) (drop (6 * layer.k) xs)) in
    let more = have_degrees layers (drop (6 * layer.k + (layer.k + 1)) xs) (omega (arith, length-drop (6 * layer.k + (layer.k + 1)) xs, e, count)) in
    let flat : messages_in (layer.k ∷ lower_exponents layers) xs ≡ t ++ q ∷ rest = append_assoc t (q ∷ []) rest in (
      subst (HaveDegrees Line (layer ∷ layers)) (sym flat) (
        subst (λ (qs : List (List K)). All (λ p. length p ≤ 3) qs) (sym (front-take t (q ∷ rest) (k + k) size)) (λ j d u. rounds.1 j d u),
        subst (λ (p : List K). length p ≤ k + 1) (sym (next-read t rest q [] (k + k) size)) short,
        subst (HaveDegrees Line layers) (sym (rest-drop t rest q (k + k) (k + k + 1) size (let f : layer.k + layer.k + 1 ≡ suc (layer.k + layer.k) = omega arith in f))) more.0,
      ),
      omega (arith, ap length flat, length-append t (q ∷ rest), size, more.1),
    )
