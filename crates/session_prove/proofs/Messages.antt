-- Honest messages as elements and as bytes, and which of them need no later challenge
use Rattle.std.proofs.Common.{◌≡◌, ℕ, suc, ◌+◌, ◌-◌, ◌*◌, ◌<◌, ◌≤◌, List, [], ◌∷◌, ◌++◌, length, map, take, drop, get_or, replicate, inl, inr, refl, sym, ◌∙◌, ap, ap₂, arith, append_assoc, append-nil, length-append, length-drop}
use Rattle.std.specs.List.{flat_map, range_with_len}
use Rattle.std.proofs.lemmas.Bool.{cases_lt}
use Rattle.std.proofs.lemmas.Grind.{flat_map-append}
use Rattle.std.proofs.lemmas.List.{drop_at, drop-append-le, get_or_append_left, map-append, take_at, take-append-le}
use Rattle.std.proofs.lemmas.List.Concat.{flat_map-cons}
use Rattle.std.proofs.lemmas.List.FromFn.{get_or-map-range_with_len, length-map-range_with_len}
use Rattle.std.proofs.Math.Seq.{take-append-add}
use Rattle.field_ext.specs.Bytes.{bytes_of}
use Rattle.field_ext.specs.Field.{K, k_ops, zero_k}
use Rattle.gkr_layers.proofs.api.Coefficients.{length-coefficients}
use Rattle.gkr_layers.specs.Forms.{last_polynomial, place_between}
use Rattle.gkr_layers.specs.Layers.{GateLayer, lower_exponents, next_place, values_over}
use Rattle.gkr_layers.specs.Places.{Place}
use Rattle.gkr_layers.specs.Sumcheck.{round_polynomial}
use Rattle.proof_wire.specs.Forms.{last_degree}
use Rattle.proof_wire.specs.declared.form.ProofForm.TheVariants.{Line}
use Rattle.proof_wire.specs.Spelling.{coefficient_count}
use Rattle.live_session.specs.Layout.{messages_in, sizes_of, triples}
use Rattle.live_session.specs.Proving.{honest_messages, layer_messages, line_message, message_bytes, round_message}
use Rattle.live_session.proofs.api.HonestList.{length-layer, prefix, whole_layer}
use Rattle.live_session.proofs.api.LayoutSteps.{due_more}

-- the elements of messages
abbrev pub flat : List (List K) → List K
flat qs = flat_map (λ q. q) qs

flat-append : (qs more : List (List K)) → flat (qs ++ more) ≡ flat qs ++ flat more
flat-append qs more = flat_map-append (λ (q : List K). q) qs more

flat-cons : (q : List K) (qs : List (List K)) → flat (q ∷ qs) ≡ q ++ flat qs
flat-cons q qs = flat_map-cons (λ (p : List K). p) q qs

pub bytes-flat : (qs : List (List K)) → message_bytes qs ≡ flat_map bytes_of (flat qs)
bytes-flat [] = refl
bytes-flat (q ∷ qs) =
    flat_map-cons (flat_map bytes_of) q qs
    ∙ ap (λ (xs : List ℕ). flat_map bytes_of q ++ xs) (bytes-flat qs)
    ∙ sym (ap (flat_map bytes_of) (flat-cons q qs) ∙ flat_map-append bytes_of q (flat qs))

-- ---- messages of three elements

abbrev EachThree : List (List K) → Type 0
EachThree qs = (j : ℕ) → j < length qs → length (get_or qs j []) ≡ 3

others : (q : List K) (qs : List (List K)) → EachThree (q ∷ qs) → EachThree qs
others q qs each j u = each (suc j) (omega (arith, u))

triples-flat : (qs : List (List K)) → EachThree qs → triples (flat qs) ≡ qs
triples-flat [] each = refl
triples-flat ((a ∷ b ∷ c ∷ []) ∷ qs) each =
    ap triples (flat-cons (a ∷ b ∷ c ∷ []) qs) ∙ ap (λ (ps : List (List K)). (a ∷ b ∷ c ∷ []) ∷ ps) (triples-flat qs (others (a ∷ b ∷ c ∷ []) qs each))
triples-flat ([] ∷ qs) each = absurd (let e : 0 ≡ 3 = each 0 (omega arith) in omega (arith, e))
triples-flat ((a ∷ []) ∷ qs) each = absurd (let e : 1 ≡ 3 = each 0 (omega arith) in omega (arith, e))
triples-flat ((a ∷ b ∷ []) ∷ qs) each = absurd (let e : 2 ≡ 3 = each 0 (omega arith) in omega (arith, e))
triples-flat ((a ∷ b ∷ c ∷ d ∷ q) ∷ qs) each = absurd (omega (arith, each 0 (omega arith)))

flat-count : (qs : List (List K)) → EachThree qs → length (flat qs) ≡ 3 * length qs
flat-count [] each = refl
flat-count (q ∷ qs) each = omega (arith, ap length (flat-cons q qs), length-append q (flat qs), each 0 (omega arith), flat-count qs (others q qs each))

three-sizes : (qs : List (List K)) → EachThree qs → map length qs ≡ replicate (length qs) 3
three-sizes [] each = refl
three-sizes (q ∷ qs) each = ap₂ (λ (n : ℕ) (ns : List ℕ). n ∷ ns) (each 0 (omega arith)) (three-sizes qs (others q qs each))

-- ---- a layer

module _ (layer : GateLayer) (values : List K) (place : Place K) (rs : List K) where
  abbrev rounds : List (List K)
  rounds = map (round_message layer values place rs) (range_with_len 0 (layer.k + layer.k))

  round-count : length rounds ≡ layer.k + layer.k
  round-count = length-map-range_with_len (round_message layer values place rs) 0 (layer.k + layer.k)

  each-round : EachThree rounds
  each-round j u =
      ap length (get_or-map-range_with_len (round_message layer values place rs) 0 (layer.k + layer.k) j j [] (omega (arith, u, round-count)) (omega arith))
      ∙ length-coefficients k_ops 3 (round_polynomial k_ops layer.k layer.gates values place (take j rs) (layer.k + layer.k - j - 1))

  line-count : length (line_message layer values rs) ≡ layer.k + 1
  line-count = length-coefficients k_ops (last_degree Line layer.k + 1) (last_polynomial k_ops Line values (take layer.k (take (layer.k + layer.k) rs)) (drop layer.k (take (layer.k + layer.k) rs)))

  layer-sizes : map length (layer_messages layer values place rs) ≡ replicate (layer.k + layer.k) 3 ++ (layer.k + 1) ∷ []
  layer-sizes =
      map-append length rounds (line_message layer values rs ∷ [])
      ∙ ap₂ (λ (ns : List ℕ) (n : ℕ). ns ++ n ∷ []) (three-sizes rounds each-round ∙ ap (λ (n : ℕ). replicate n 3) round-count) line-count

  layer-flat : flat (layer_messages layer values place rs) ≡ flat rounds ++ line_message layer values rs
  layer-flat =
      flat-append rounds (line_message layer values rs ∷ [])
      ∙ ap (λ (xs : List K). flat rounds ++ xs) (flat-cons (line_message layer values rs) [] ∙ append-nil (line_message layer values rs))

  rounds-size : length (flat rounds) ≡ 6 * layer.k
  rounds-size = omega (arith, flat-count rounds each-round, round-count)

-- ---- all layers

-- how many elements each message has
pub message-sizes : (layers : List GateLayer) (input : List K) (place : Place K) (rs : List K) → map length (honest_messages layers input place rs) ≡ sizes_of (lower_exponents layers)
message-sizes [] input place rs = refl
message-sizes (layer ∷ layers) input place rs =
    let values : List K = values_over k_ops layers input in
    let mine : List (List K) = layer_messages layer values place rs in
    let rest : List (List K) = honest_messages layers input (next_place k_ops Line layer.k rs) (drop (layer.k + layer.k + 1) rs) in
    map-append length mine rest
    ∙ ap₂ (λ (ms ns : List ℕ). ms ++ ns) (layer-sizes layer values place rs) (message-sizes layers input (next_place k_ops Line layer.k rs) (drop (layer.k + layer.k + 1) rs))
    ∙ append_assoc (replicate (layer.k + layer.k) 3) ((layer.k + 1) ∷ []) (sizes_of (lower_exponents layers))

-- and how many all have
pub elements-count : (layers : List GateLayer) (input : List K) (place : Place K) (rs : List K) → length (flat (honest_messages layers input place rs)) ≡ coefficient_count Line (lower_exponents layers)
elements-count [] input place rs = refl
elements-count (layer ∷ layers) input place rs =
    let values : List K = values_over k_ops layers input in
    let mine : List (List K) = layer_messages layer values place rs in
    let t : List (List K) = map (round_message layer (values_over k_ops layers input) place rs) (range_with_len 0 (layer.k + layer.k)) in
    let q : List K = line_message layer (values_over k_ops layers input) rs in
    let rest : List (List K) = honest_messages layers input (next_place k_ops Line layer.k rs) (drop (layer.k + layer.k + 1) rs) in
    let own : length (flat mine) ≡ 6 * layer.k + (layer.k + 1) =
    omega (arith, ap length (layer-flat layer values place rs), length-append (flat t) q, rounds-size layer values place rs, line-count layer values place rs) in
    omega (arith, ap length (flat-append mine rest), length-append (flat mine) (flat rest), own, elements-count layers input (next_place k_ops Line layer.k rs) (drop (layer.k + layer.k + 1) rs), due_more layer.k (lower_exponents layers))

-- cut into messages, the elements are these again
pub cut-flat : (layers : List GateLayer) (input : List K) (place : Place K) (rs : List K) → messages_in (lower_exponents layers) (flat (honest_messages layers input place rs)) ≡ honest_messages layers input place rs
cut-flat [] input place rs = refl
cut-flat (layer ∷ layers) input place rs =
    let k = layer.k in
    let values : List K = values_over k_ops layers input in
    let t : List (List K) = map (round_message layer (values_over k_ops layers input) place rs) (range_with_len 0 (layer.k + layer.k)) in
    let q : List K = line_message layer (values_over k_ops layers input) rs in
    let mine : List (List K) = layer_messages layer values place rs in
    let rest : List (List K) = honest_messages layers input (next_place k_ops Line layer.k rs) (drop (layer.k + layer.k + 1) rs) in
    let xs : List K = flat (honest_messages (layer ∷ layers) input place rs) in
    let count : length (flat t) ≡ 6 * layer.k = rounds-size layer values place rs in
    let size : length q ≡ layer.k + 1 = line-count layer values place rs in
    let both : length (flat t ++ q) ≡ 6 * layer.k + (layer.k + 1) = omega (arith, length-append (flat t) q, count, size) in
    let all : xs ≡ (flat t ++ q) ++ flat rest = flat-append mine rest ∙ ap (λ (ys : List K). ys ++ flat rest) (layer-flat layer values place rs) in
    let parts : xs ≡ flat t ++ (q ++ flat rest) = all ∙ append_assoc (flat t) q (flat rest) in
    let front : take (6 * k) xs ≡ flat t = ap (take (6 * k)) parts ∙ take_at (flat t) (q ++ flat rest) (6 * k) count in
    let last : take (k + 1) (drop (6 * k) xs) ≡ q = ap (take (k + 1)) (ap (drop (6 * k)) parts ∙ drop_at (flat t) (q ++ flat rest) (6 * k) count) ∙ take_at q (flat rest) (k + 1) size in
    let back : drop (6 * k + (k + 1)) xs ≡ flat rest = ap (drop (6 * k + (k + 1))) all ∙ drop_at (flat t ++ q) (flat rest) (6 * k + (k + 1)) both in
    ap₂ (λ (ps qs : List (List K)). ps ++ qs)
    (ap₂ (λ (ps : List (List K)) (p : List K). ps ++ p ∷ []) (ap triples front ∙ triples-flat t (each-round layer values place rs)) last)
    (ap (messages_in (lower_exponents layers)) back ∙ cut-flat layers input (next_place k_ops Line layer.k rs) (drop (layer.k + layer.k + 1) rs))

-- ---- earlier challenges alone

same-next : (k : ℕ) (rs more : List K) → k + k + 1 ≤ length rs → next_place k_ops Line k (rs ++ more) ≡ next_place k_ops Line k rs
same-next k rs more u =
    let front : take (k + k) (rs ++ more) ≡ take (k + k) rs = take-append-le (k + k) rs more (omega (arith, u)) in
    let last : get_or (rs ++ more) (k + k) zero_k ≡ get_or rs (k + k) zero_k = get_or_append_left rs more zero_k (k + k) (omega (arith, u)) in
    λ j. place_between k_ops Line (take k (front j)) (drop k (front j)) (last j)

take-behind : (n j : ℕ) (a b : List (List K)) → length a ≡ n → n ≤ j → take j (a ++ b) ≡ a ++ take (j - n) b
take-behind n j a b e u = ap (λ (i : ℕ). take i (a ++ b)) (let f : j ≡ length a + (j - n) = omega (arith, e, u) in f) ∙ take-append-add a b (j - n)

-- one message more than there are challenges needs no later one
pub earlier : (layers : List GateLayer) (input : List K) (place : Place K) (rs more : List K) (j : ℕ) → j ≤ length rs + 1 → take j (honest_messages layers input place (rs ++ more)) ≡ take j (honest_messages layers input place rs)
earlier [] input place rs more j u = refl
earlier (layer ∷ layers) input place rs more j u =
    let k = layer.k in
    let n = layer.k + layer.k + 1 in
    let values : List K = values_over k_ops layers input in
    let long : List (List K) = layer_messages layer values place (rs ++ more) in
    let short : List (List K) = layer_messages layer values place rs in
    let rest : List (List K) = honest_messages layers input (next_place k_ops Line layer.k rs) (drop (layer.k + layer.k + 1) rs) in
    let others : List (List K) = honest_messages layers input (next_place k_ops Line layer.k (rs ++ more)) (drop (layer.k + layer.k + 1) (rs ++ more)) in
    elim (cases_lt (layer.k + layer.k + 1) j) [
      | inl w ↦
          let enough : layer.k + layer.k + 1 ≤ length rs = omega (arith, u, w) in
          let behind : drop (layer.k + layer.k + 1) (rs ++ more) ≡ drop (layer.k + layer.k + 1) rs ++ more = drop-append-le (layer.k + layer.k + 1) rs more enough in
          let same : take (j - (layer.k + layer.k + 1)) others ≡ take (j - (layer.k + layer.k + 1)) rest =
          (λ i. take (j - (layer.k + layer.k + 1)) (honest_messages layers input (same-next layer.k rs more enough i) (behind i)))
          ∙ earlier layers input (next_place k_ops Line layer.k rs) (drop (layer.k + layer.k + 1) rs) more (j - (layer.k + layer.k + 1)) (omega (arith, u, w, length-drop (layer.k + layer.k + 1) rs)) in
          take-behind n j long others (length-layer layer values place (rs ++ more)) (omega (arith, w))
          ∙ ap₂ (λ (ps qs : List (List K)). ps ++ qs) (whole_layer layer values place rs more (omega (arith, enough))) same
          ∙ sym (take-behind n j short rest (length-layer layer values place rs) (omega (arith, w)))
      | inr w ↦
          take-append-le j long others (omega (arith, w, length-layer layer values place (rs ++ more)))
          ∙ prefix layer values place rs more j u (omega (arith, w))
          ∙ sym (take-append-le j short rest (omega (arith, w, length-layer layer values place rs)))
    ]
