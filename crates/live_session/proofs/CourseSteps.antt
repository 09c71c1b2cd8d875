-- A prover's course, one challenge more
use Rattle.std.proofs.Common.{◌≡◌, ℕ, ◌+◌, ◌-◌, ◌<◌, ◌≤◌, List, [], ◌∷◌, ◌++◌, length, take, drop, get_or, Bool, if◌then◌else◌, inl, inr, refl, sym, ◌∙◌, ap, ap₂, subst, arith, length-append, length-take, length-drop, append_assoc, append-nil, drop_of_length-le}
use Rattle.std.specs.List.{flat_map}
use Rattle.std.proofs.Math.Seq.{take-append-add, take-length}
use Rattle.std.proofs.lemmas.Bool.{cases_lt, le-ltb, lt-ltb}
use Rattle.std.proofs.lemmas.Grind.{flat_map-append}
use Rattle.std.proofs.lemmas.List.{drop_at, drop-append-le, drop-drop, get_or_append_left, take_all, take_more, take-append-le, take-take}
use Rattle.field_ext.specs.Bytes.{bytes_of}
use Rattle.field_ext.specs.Field.{F, K, k_ops, zero_k}
use Rattle.field_ext.specs.Polynomial.{coefficients}
use Rattle.circuit_core.specs.Parts.{Parts, height, input_table}
use Rattle.circuit_core.specs.Sound.{exponent_at}
use Rattle.gkr_layers.proofs.api.Circuits.{below_more, below_none}
use Rattle.gkr_layers.proofs.api.Forms.{place_over}
use Rattle.gkr_layers.proofs.api.Lists.{drop-take, front-take, next-read}
use Rattle.gkr_layers.specs.Forms.{last_polynomial, place_between}
use Rattle.gkr_layers.specs.Layers.{GateLayer, layer_at, layers_below, layers_of, next_place}
use Rattle.gkr_layers.specs.Places.{Place, IsOver}
use Rattle.gkr_layers.specs.Places.Place.{At}
use Rattle.gkr_layers.specs.Sumcheck.{round_polynomial}
use Rattle.proof_wire.specs.Forms.{last_degree}
use Rattle.proof_wire.specs.declared.form.ProofForm.TheVariants.{Line}
use Rattle.round_tables.specs.LayerSum.{LayerSum, next_poly}
use Rattle.live_session.specs.Begun.{HasTables, IsIn, message_due}
use Rattle.live_session.specs.ProverState.{IsAfter, IsStage, IsWithin, IsAt, tables_at, values_below}
use Rattle.live_session.specs.Proving.{honest_for, honest_messages, layer_messages, message_bytes, prover_sent}
use Rattle.live_session.specs.declared.course.Course.{Course}
use Rattle.live_session.specs.declared.course.Stage.{Stage}
use Rattle.live_session.specs.declared.course.Stage.TheVariants.{Before, Within, After}
use Rattle.live_session.proofs.api.HonestList.{length-honest, length-layer, line_at, next_message, round_at, whole_layer}

message_more : (qs : List (List K)) (q : List K) → message_bytes (qs ++ q ∷ []) ≡ message_bytes qs ++ flat_map bytes_of q
message_more qs q = flat_map-append (flat_map bytes_of) qs (q ∷ []) ∙ ap (λ (xs : List ℕ). message_bytes qs ++ xs) (append-nil (flat_map bytes_of q))

-- the message due of a layer's tables is the next of its honest messages
pub due_is : (p : Parts) (inputs : List F) (i : ℕ) (place : Place K) (bound : List K) → length bound ≤ exponent_at p (i + 1) + exponent_at p (i + 1) →
    message_due (tables_at p inputs i place bound) ≡ get_or (layer_messages (layer_at p i) (values_below p inputs i) place bound) (length bound) []
due_is p inputs i place bound u =
    let k = exponent_at p (i + 1) in
    let gates = get_or p.layers i [] in
    let values : List K = values_below p inputs i in
    let layer : GateLayer = layer_at p i in
    let next = coefficients k_ops 3 (next_poly (tables_at p inputs i place bound)) in
    let line = coefficients k_ops (last_degree Line k + 1) (last_polynomial k_ops Line values (take k bound) (drop k bound)) in
    elim (cases_lt (length bound) (exponent_at p (i + 1) + exponent_at p (i + 1))) [
      | inl v ↦
          ap (λ (b : Bool). if b then next else line) (lt-ltb (length bound) (k + k) v)
          ∙ ap (λ (xs : List K). coefficients k_ops 3 (round_polynomial k_ops k gates values place xs (k + k - length bound - 1))) (sym (take-length bound))
          ∙ sym (round_at layer values place bound (length bound) v)
      | inr v ↦
          let e : length bound ≡ exponent_at p (i + 1) + exponent_at p (i + 1) = omega arith in
          ap (λ (b : Bool). if b then next else line) (le-ltb (length bound) (k + k) v)
          ∙ ap (λ (xs : List K). coefficients k_ops (last_degree Line k + 1) (last_polynomial k_ops Line values (take k xs) (drop k xs))) (sym (take_all (k + k) bound (omega arith)))
          ∙ sym (line_at layer values place bound (length bound) e)
    ]

-- where the words are, of which the first u were gone through
pub within_at : (p : Parts) (inputs : List F) (words : List K) (u i base : ℕ) (sent : List ℕ) (tables : LayerSum) → u ≤ length words → IsWithin p inputs (take u words) i base sent tables →
    (u ≡ base + length tables.bound) × (take (length tables.bound) (drop base words) ≡ tables.bound) × (tables.k ≡ exponent_at p (i + 1)) × (i < height p)
within_at p inputs words u i base sent tables v is =
    let count : u ≡ base + length tables.bound =
    omega (arith, v, is.begins, is.drawn, length-take u words, ap length is.split, length-drop (exponent_at p 0) (take u words), length-append is.done tables.bound) in
    let here : drop base (take u words) ≡ tables.bound =
    ap (λ (n : ℕ). drop n (take u words)) is.begins ∙ sym (drop-drop (length is.done) (exponent_at p 0) (take u words)) ∙ ap (drop (length is.done)) is.split ∙ drop_at is.done tables.bound (length is.done) refl in
    let from : u - base ≡ length tables.bound = omega (arith, count) in (
      count,
      ap (λ (n : ℕ). take n (drop base words)) (sym from) ∙ sym (drop-take base u words) ∙ here,
      ap (λ (t : LayerSum). t.k) is.tables_are,
      is.above,
    )

-- one more word
word_more : (words : List K) (u : ℕ) (r : K) → u < length words → r ≡ get_or words u r → take (u + 1) words ≡ take u words ++ r ∷ []
word_more words u r v e = take_more words u r v ∙ ap (λ (x : K). take u words ++ x ∷ []) (sym e)

module _ (p : Parts) (inputs : List F) (words : List K) (u i base : ℕ) (sent : List ℕ) (tables : LayerSum) (r : K) (v : u < length words) (e : r ≡ get_or words u r) (is : IsWithin p inputs (take u words) i base sent tables) where
  abbrev k₀ : ℕ
  k₀ = exponent_at p 0

  count : length (take u words) ≡ u
  count = omega (arith, v, length-take u words)

  first : k₀ ≤ u
  first = omega (arith, is.drawn, count)

  split_more : drop k₀ (take (u + 1) words) ≡ is.done ++ (tables.bound ++ r ∷ [])
  split_more =
      ap (drop k₀) (word_more words u r v e) ∙ drop-append-le k₀ (take u words) (r ∷ []) is.drawn
      ∙ ap (λ (xs : List K). xs ++ r ∷ []) is.split ∙ append_assoc is.done tables.bound (r ∷ [])

  same_point : take k₀ (take u words) ≡ take k₀ (take (u + 1) words)
  same_point = take-take k₀ u words first ∙ sym (take-take k₀ (u + 1) words (omega (arith, first)))

  drawn_more : k₀ ≤ length (take (u + 1) words)
  drawn_more = omega (arith, v, first, length-take (u + 1) words)

  same_k : tables.k ≡ exponent_at p (i + 1)
  same_k = ap (λ (t : LayerSum). t.k) is.tables_are

  -- a round's challenge
  pub bound_more : (new : LayerSum) (sent' : List ℕ) → new ≡ record tables { bound = tables.bound ++ r ∷ [] } → length tables.bound < tables.k + tables.k → sent' ≡ sent ++ flat_map bytes_of (message_due new) →
      IsWithin p inputs (take (u + 1) words) i base sent' new
  bound_more new sent' is-new left is-sent =
      let layer : GateLayer = layer_at p i in
      let values : List K = values_below p inputs i in
      let bound : List K = tables.bound in
      let bound' : List K = tables.bound ++ r ∷ [] in
      let size : length (tables.bound ++ r ∷ []) ≡ length tables.bound + 1 = length-append tables.bound (r ∷ []) in
      let capacity : length tables.bound < exponent_at p (i + 1) + exponent_at p (i + 1) = omega (arith, left, same_k) in
      let same : record tables { bound = bound' } ≡ tables_at p inputs i is.place bound' = λ j. record (is.tables_are j) { bound = bound' } in
      let due : message_due new ≡ get_or (layer_messages layer values is.place bound') (length bound + 1) [] =
      ap message_due (is-new ∙ same) ∙ due_is p inputs i is.place bound' (omega (arith, size, capacity))
      ∙ ap (λ (n : ℕ). get_or (layer_messages layer values is.place bound') n []) size in
      let prefix : List (List K) = is.prefix ++ take (length bound + 1) (layer_messages layer values is.place bound) in
      let messages : message_bytes (is.prefix ++ take (length (tables.bound ++ r ∷ []) + 1) (layer_messages layer values is.place bound')) ≡ sent' =
      ap (λ (n : ℕ). message_bytes (is.prefix ++ take (n + 1) (layer_messages layer values is.place bound'))) size
      ∙ ap (λ (qs : List (List K)). message_bytes (is.prefix ++ qs)) (next_message layer values is.place bound r capacity)
      ∙ ap message_bytes (sym (append_assoc is.prefix (take (length bound + 1) (layer_messages layer values is.place bound)) (get_or (layer_messages layer values is.place bound') (length bound + 1) [] ∷ [])))
      ∙ message_more prefix (get_or (layer_messages layer values is.place bound') (length bound + 1) [])
      ∙ ap₂ (λ (xs : List ℕ) (q : List K). xs ++ flat_map bytes_of q) (sym is.sent_is) (sym due)
      ∙ sym is-sent in
      subst (IsWithin p inputs (take (u + 1) words) i base sent') (sym is-new) (record {
        done = is.done;
        prefix = is.prefix;
        place = is.place;
        above = is.above;
        drawn = drawn_more;
        split = split_more;
        begins = is.begins;
        each = is.each;
        position = is.position;
        tables_are = same;
        few = omega (arith, size, left);
        whole = subst (λ (z : List K). (more : List K) → honest_messages (layers_of p) (input_table p inputs) (At z) (is.done ++ more) ≡ is.prefix ++ honest_messages (layers_below p i) (input_table p inputs) is.place more) same_point is.whole;
        sent_is = sym messages;
      })

  module _ (bound-all : length tables.bound ≡ tables.k + tables.k) where
    abbrev k : ℕ
    k = exponent_at p (i + 1)

    abbrev layer : GateLayer
    layer = layer_at p i

    abbrev values : List K
    values = values_below p inputs i

    abbrev all : List K
    all = tables.bound ++ r ∷ []

    all_bound : length tables.bound ≡ k + k
    all_bound = omega (arith, bound-all, same_k)

    -- the place after the line's challenge
    abbrev pub below_place : Place K
    below_place = next_place k_ops Line k all

    pub below_place_is : (place : Place K) → place ≡ place_between k_ops Line (take k tables.bound) (drop k tables.bound) r → place ≡ below_place
    below_place_is place h =
        h ∙ (λ j. place_between k_ops Line (take k (sym (front-take tables.bound (r ∷ []) (k + k) all_bound) j)) (drop k (sym (front-take tables.bound (r ∷ []) (k + k) all_bound) j)) (sym (next-read tables.bound [] r zero_k (k + k) all_bound) j))

    below_over : IsOver k below_place
    below_over =
        let left : length (take k (take (k + k) all)) ≡ k = omega (arith, length-take k (take (k + k) all), length-take (k + k) all, length-append tables.bound (r ∷ []), all_bound) in
        let right : length (drop k (take (k + k) all)) ≡ k = omega (arith, length-drop k (take (k + k) all), length-take (k + k) all, length-append tables.bound (r ∷ []), all_bound) in
        place_over k_ops Line (take k (take (k + k) all)) (drop k (take (k + k) all)) (get_or all (k + k) zero_k) k left right

    pub over_below : (place : Place K) → place ≡ below_place → IsOver k place
    over_below place h = subst (IsOver k) (sym h) below_over

    -- the messages of the layers so far, and those after them
    abbrev mine : List (List K)
    mine = layer_messages layer values is.place tables.bound

    mine_all : length mine ≡ k + k + 1
    mine_all = length-layer layer values is.place tables.bound

    whole_here : (more : List K) → layer_messages layer values is.place (all ++ more) ≡ mine
    whole_here more = ap (layer_messages layer values is.place) (append_assoc tables.bound (r ∷ []) more) ∙ whole_layer layer values is.place tables.bound (r ∷ more) (omega (arith, all_bound))

    next_here : (more : List K) → next_place k_ops Line k (all ++ more) ≡ below_place
    next_here more =
        let count' : length (tables.bound ++ r ∷ []) ≡ k + k + 1 = omega (arith, length-append tables.bound (r ∷ []), all_bound) in
        λ j. place_between k_ops Line (take k (take-append-le (k + k) all more (omega (arith, count')) j)) (drop k (take-append-le (k + k) all more (omega (arith, count')) j)) (get_or_append_left all more zero_k (k + k) (omega (arith, count')) j)

    rest_here : (more : List K) → drop (k + k + 1) (all ++ more) ≡ more
    rest_here more = drop_at all more (k + k + 1) (omega (arith, length-append tables.bound (r ∷ []), all_bound))

    whole_below : (more : List K) → honest_messages (layers_of p) (input_table p inputs) (At (take k₀ (take (u + 1) words))) ((is.done ++ all) ++ more)
        ≡ (is.prefix ++ mine) ++ honest_messages (layers_below p (i + 1)) (input_table p inputs) below_place more
    whole_below more =
        let input = input_table p inputs in
        let below = layers_below p (i + 1) in
        ap (λ (rs : List K). honest_messages (layers_of p) input (At (take k₀ (take (u + 1) words))) rs) (append_assoc is.done all more)
        ∙ ap (λ (z : List K). honest_messages (layers_of p) input (At z) (is.done ++ (all ++ more))) (sym same_point)
        ∙ is.whole (all ++ more)
        ∙ ap (λ (layers : List GateLayer). is.prefix ++ honest_messages layers input is.place (all ++ more)) (below_more p i is.above)
        ∙ (λ j. is.prefix ++ (whole_here more j ++ honest_messages below input (next_here more j) (rest_here more j)))
        ∙ sym (append_assoc is.prefix mine (honest_messages below input below_place more))

    done_all : length (is.done ++ all) ≡ length (is.prefix ++ mine)
    done_all = omega (arith, length-append is.done all, length-append tables.bound (r ∷ []), all_bound, length-append is.prefix mine, mine_all, is.each)

    words_all : u + 1 ≡ k₀ + length (is.done ++ all)
    words_all = omega (arith, length-append is.done all, length-append tables.bound (r ∷ []), first, count, ap length is.split, length-drop k₀ (take u words), length-append is.done tables.bound)

    sent_all : sent ≡ message_bytes (is.prefix ++ mine)
    sent_all = is.sent_is ∙ ap (λ (qs : List (List K)). message_bytes (is.prefix ++ qs)) (take_all (length tables.bound + 1) mine (omega (arith, mine_all, all_bound)))

    -- the line's challenge, where there is a layer below
    pub go_down : (place : Place K) (sent' : List ℕ) → place ≡ below_place → i + 1 < height p → sent' ≡ sent ++ flat_map bytes_of (message_due (tables_at p inputs (i + 1) place [])) →
        IsWithin p inputs (take (u + 1) words) (i + 1) (u + 1) sent' (tables_at p inputs (i + 1) place [])
    go_down place sent' h above is-sent =
        let next : GateLayer = layer_at p (i + 1) in
        let under : List K = values_below p inputs (i + 1) in
        let messages : List (List K) = layer_messages next under place [] in
        let some : 0 < length (layer_messages (layer_at p (i + 1)) (values_below p inputs (i + 1)) place []) = omega (arith, length-layer (layer_at p (i + 1)) (values_below p inputs (i + 1)) place []) in
        record {
          done = is.done ++ all;
          prefix = is.prefix ++ mine;
          place = place;
          above = above;
          drawn = drawn_more;
          split = split_more ∙ sym (append-nil (is.done ++ all));
          begins = words_all;
          each = sym done_all;
          position = over_below place h;
          tables_are = refl;
          few = omega arith;
          whole = λ more. whole_below more ∙ ap (λ (z : Place K). (is.prefix ++ mine) ++ honest_messages (layers_below p (i + 1)) (input_table p inputs) z more) (sym h);
          sent_is =
              is-sent ∙ ap₂ (λ (xs : List ℕ) (q : List K). xs ++ flat_map bytes_of q) sent_all (due_is p inputs (i + 1) place [] (omega arith))
              ∙ sym (message_more (is.prefix ++ mine) (get_or messages 0 []))
              ∙ ap (λ (qs : List (List K)). message_bytes ((is.prefix ++ mine) ++ qs)) (sym (take_more messages 0 [] some));
        }

    -- and where there is none
    pub ended : i + 1 ≡ height p → IsAfter p inputs (take (u + 1) words) sent
    ended last =
        let input = input_table p inputs in
        let none : honest_messages (layers_below p (i + 1)) input below_place [] ≡ [] = ap (λ (layers : List GateLayer). honest_messages layers input below_place []) (below_none p (i + 1) (omega (arith, last))) in
        let honest : honest_messages (layers_of p) (input_table p inputs) (At (take k₀ (take (u + 1) words))) (is.done ++ all) ≡ is.prefix ++ mine =
        ap (honest_messages (layers_of p) input (At (take k₀ (take (u + 1) words)))) (sym (append-nil (is.done ++ all))) ∙ whole_below [] ∙ ap (λ (qs : List (List K)). (is.prefix ++ mine) ++ qs) none ∙ append-nil (is.prefix ++ mine) in
        record {
          all = omega (arith, ap length honest, length-honest (layers_of p) (input_table p inputs) (At (take k₀ (take (u + 1) words))) (is.done ++ all), done_all, words_all, length-take (u + 1) words, v);
          sent_is = sent_all ∙ ap message_bytes (sym honest ∙ ap (honest_messages (layers_of p) input (At (take k₀ (take (u + 1) words)))) (sym split_more));
        }

-- a stage with tables
stage_with : (p : Parts) (inputs : List F) (words : List K) (i base : ℕ) (sent : List ℕ) (tables : LayerSum) (stage : Stage) → HasTables tables stage → IsWithin p inputs words i base sent tables → IsStage p inputs words i base sent stage
stage_with p inputs words i base sent tables (Before buffers) h is = absurd h
stage_with p inputs words i base sent tables (Within t) h is = subst (IsWithin p inputs words i base sent) (sym h) is
stage_with p inputs words i base sent tables After h is = absurd h

pub stands_in : (p : Parts) (inputs : List F) (words : List K) (course : Course) (i base : ℕ) (sent : List ℕ) (tables : LayerSum) → IsIn i base tables sent course → IsWithin p inputs words i base sent tables → IsAt p inputs words course
stands_in p inputs words course i base sent tables into is =
    coe 0 1 (j. IsStage p inputs words (sym into.layer_is j) (sym into.base_is j) (sym into.sent_is j) course.stage) (stage_with p inputs words i base sent tables course.stage into.stage_is is)

-- the last coordinate of the output point
pub begun : (p : Parts) (inputs : List F) (words : List K) (u : ℕ) (place : Place K) (sent sent' : List ℕ) → u < length words → u + 1 ≡ exponent_at p 0 → 0 < height p → sent ≡ [] →
    place ≡ At (take (exponent_at p 0) words) → sent' ≡ sent ++ flat_map bytes_of (message_due (tables_at p inputs 0 place [])) →
    IsWithin p inputs (take (u + 1) words) 0 (exponent_at p 0) sent' (tables_at p inputs 0 place [])
begun p inputs words u place sent sent' v e above nothing is-place is-sent =
    let k₀ = exponent_at p 0 in
    let layer : GateLayer = layer_at p 0 in
    let under : List K = values_below p inputs 0 in
    let messages : List (List K) = layer_messages layer under place [] in
    let count : length (take (u + 1) words) ≡ exponent_at p 0 = omega (arith, v, e, length-take (u + 1) words) in
    let same : take (exponent_at p 0) (take (u + 1) words) ≡ take (exponent_at p 0) words = take-take (exponent_at p 0) (u + 1) words (omega (arith, e)) in
    let some : 0 < length (layer_messages (layer_at p 0) (values_below p inputs 0) place []) = omega (arith, length-layer (layer_at p 0) (values_below p inputs 0) place []) in
    let over : length (take (exponent_at p 0) words) ≡ exponent_at p 0 = omega (arith, v, e, length-take (exponent_at p 0) words) in
    record {
      done = [];
      prefix = [];
      place = place;
      above = above;
      drawn = omega (arith, count);
      split = drop_of_length-le (take (u + 1) words) (omega (arith, count));
      begins = omega arith;
      each = refl;
      position = subst (IsOver k₀) (sym is-place) over;
      tables_are = refl;
      few = omega arith;
      whole = λ more. ap (λ (z : Place K). honest_messages (layers_of p) (input_table p inputs) z more) (ap At same ∙ sym is-place);
      sent_is =
          is-sent ∙ ap₂ (λ (xs : List ℕ) (q : List K). xs ++ flat_map bytes_of q) nothing (due_is p inputs 0 place [] (omega arith))
          ∙ sym (append-nil (flat_map bytes_of (get_or messages 0 [])))
          ∙ ap message_bytes (sym (take_more messages 0 [] some));
    }

-- what was sent
pub sent_stage : (p : Parts) (inputs : List F) (words : List K) (i base : ℕ) (sent : List ℕ) (stage : Stage) → IsStage p inputs words i base sent stage → sent ≡ prover_sent p inputs words
sent_stage p inputs words i base sent (Before buffers) is =
    let none : length words + 1 - exponent_at p 0 ≡ 0 = omega (arith, is.few) in
    is.nothing ∙ ap (λ (n : ℕ). message_bytes (take n (honest_for p inputs words))) (sym none)
sent_stage p inputs words i base sent (Within tables) is =
    let k₀ = exponent_at p 0 in
    let bound : List K = tables.bound in
    let layer : GateLayer = layer_at p i in
    let under : List K = values_below p inputs i in
    let mine : List (List K) = layer_messages layer under is.place bound in
    let rest = honest_messages (layers_below p (i + 1)) (input_table p inputs) (next_place k_ops Line layer.k bound) (drop (layer.k + layer.k + 1) bound) in
    let all : honest_for p inputs words ≡ is.prefix ++ (mine ++ rest) =
    ap (honest_messages (layers_of p) (input_table p inputs) (At (take k₀ words))) is.split ∙ is.whole bound
    ∙ ap (λ (layers : List GateLayer). is.prefix ++ honest_messages layers (input_table p inputs) is.place bound) (below_more p i is.above) in
    let n : length words + 1 - exponent_at p 0 ≡ length is.prefix + (length tables.bound + 1) =
    omega (arith, is.drawn, is.each, ap length is.split, length-drop (exponent_at p 0) words, length-append is.done tables.bound) in
    let few : length tables.bound + 1 ≤ length (layer_messages (layer_at p i) (values_below p inputs i) is.place tables.bound) =
    omega (arith, is.few, ap (λ (t : LayerSum). t.k) is.tables_are, length-layer (layer_at p i) (values_below p inputs i) is.place tables.bound) in
    is.sent_is
    ∙ ap (λ (qs : List (List K)). message_bytes (is.prefix ++ qs)) (sym (take-append-le (length bound + 1) mine rest few))
    ∙ ap message_bytes (sym (take-append-add is.prefix (mine ++ rest) (length bound + 1)) ∙ (λ j. take (sym n j) (sym all j)))
sent_stage p inputs words i base sent After is =
    let k₀ = exponent_at p 0 in
    is.sent_is
    ∙ ap message_bytes (sym (take_all (length words + 1 - exponent_at p 0) (honest_for p inputs words) (omega (arith, is.all, length-honest (layers_of p) (input_table p inputs) (At (take (exponent_at p 0) words)) (drop (exponent_at p 0) words)))))
