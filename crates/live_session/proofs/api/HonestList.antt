-- The list of honest messages, one after another
use Rattle.std.proofs.Common.{◌≡◌, ℕ, zero, suc, ◌+◌, ◌-◌, ◌<◌, ◌≤◌, List, [], ◌∷◌, ◌++◌, length, map, take, drop, get_or, inl, inr, refl, sym, ◌∙◌, ap, ap₂, subst, arith, add-one, length-append}
use Rattle.std.specs.List.{range_with_len}
use Rattle.std.proofs.lemmas.Bool.{cases_lt}
use Rattle.std.proofs.lemmas.List.{drop_at, get_or_append_left, get_or_push, take_all, take_more, take-append-le}
use Rattle.std.proofs.lemmas.List.FromFn.{get_or-map-range_with_len, length-map-range_with_len}
use Rattle.field_ext.specs.Field.{K, k_ops}
use Rattle.field_ext.specs.Polynomial.{coefficients}
use Rattle.gkr_layers.specs.Forms.{last_polynomial}
use Rattle.gkr_layers.specs.Honest.{AreHonest}
use Rattle.gkr_layers.specs.Layers.{GateLayer, message_count, next_place, values_over}
use Rattle.gkr_layers.specs.Places.{Place}
use Rattle.gkr_layers.specs.Sumcheck.{round_polynomial}
use Rattle.proof_wire.specs.Forms.{last_degree}
use Rattle.proof_wire.specs.declared.form.ProofForm.TheVariants.{Line}
use Rattle.live_session.specs.Proving.{honest_messages, layer_messages, line_message, round_message}

module _ (layer : GateLayer) (values : List K) (place : Place K) where
  length-rounds : (rs : List K) → length (map (round_message layer values place rs) (range_with_len 0 (layer.k + layer.k))) ≡ layer.k + layer.k
  length-rounds rs = length-map-range_with_len (round_message layer values place rs) 0 (layer.k + layer.k)

  pub length-layer : (rs : List K) → length (layer_messages layer values place rs) ≡ layer.k + layer.k + 1
  length-layer rs = omega (arith, length-append (map (round_message layer values place rs) (range_with_len 0 (layer.k + layer.k))) (line_message layer values rs ∷ []), length-rounds rs)

  pub round_at : (rs : List K) (j : ℕ) → j < layer.k + layer.k → get_or (layer_messages layer values place rs) j [] ≡ round_message layer values place rs j
  round_at rs j u =
      get_or_append_left (map (round_message layer values place rs) (range_with_len 0 (layer.k + layer.k))) (line_message layer values rs ∷ []) [] j (omega (arith, u, length-rounds rs))
      ∙ get_or-map-range_with_len (round_message layer values place rs) 0 (layer.k + layer.k) j j [] u (omega arith)

  pub line_at : (rs : List K) (j : ℕ) → j ≡ layer.k + layer.k → get_or (layer_messages layer values place rs) j [] ≡ line_message layer values rs
  line_at rs j e = get_or_push (map (round_message layer values place rs) (range_with_len 0 (layer.k + layer.k))) (line_message layer values rs) [] j (length-rounds rs ∙ sym e)

  -- a message needs the challenges before it alone
  same_message : (bs more : List K) (j : ℕ) → j ≤ length bs → j ≤ layer.k + layer.k → get_or (layer_messages layer values place (bs ++ more)) j [] ≡ get_or (layer_messages layer values place bs) j []
  same_message bs more j u v = elim (cases_lt j (layer.k + layer.k)) [
    | inl w ↦
        round_at (bs ++ more) j w
        ∙ ap (λ (xs : List K). coefficients k_ops 3 (round_polynomial k_ops layer.k layer.gates values place xs (layer.k + layer.k - j - 1))) (take-append-le j bs more u)
        ∙ sym (round_at bs j w)
    | inr w ↦
        let e : j ≡ layer.k + layer.k = omega arith in
        line_at (bs ++ more) j e
        ∙ ap (λ (xs : List K). coefficients k_ops (last_degree Line layer.k + 1) (last_polynomial k_ops Line values (take layer.k xs) (drop layer.k xs))) (take-append-le (layer.k + layer.k) bs more (omega arith))
        ∙ sym (line_at bs j e)
  ]

  pub prefix : (bs more : List K) (j : ℕ) → j ≤ length bs + 1 → j ≤ layer.k + layer.k + 1 → take j (layer_messages layer values place (bs ++ more)) ≡ take j (layer_messages layer values place bs)
  prefix bs more zero u v = refl
  prefix bs more (suc j) u v =
      let w : j < length (layer_messages layer values place (bs ++ more)) = omega (arith, length-layer (bs ++ more)) in
      let w' : j < length (layer_messages layer values place bs) = omega (arith, length-layer bs) in
      ap (λ (i : ℕ). take i (layer_messages layer values place (bs ++ more))) (sym (add-one j))
      ∙ take_more (layer_messages layer values place (bs ++ more)) j [] w
      ∙ ap₂ (λ (xs : List (List K)) (q : List K). xs ++ q ∷ []) (prefix bs more j (omega arith) (omega arith)) (same_message bs more j (omega arith) (omega arith))
      ∙ sym (take_more (layer_messages layer values place bs) j [] w')
      ∙ ap (λ (i : ℕ). take i (layer_messages layer values place bs)) (add-one j)

  -- so that all of a layer's are there with its rounds' challenges
  pub whole_layer : (bs more : List K) → layer.k + layer.k ≤ length bs → layer_messages layer values place (bs ++ more) ≡ layer_messages layer values place bs
  whole_layer bs more u =
      let n = layer.k + layer.k + 1 in
      sym (take_all n (layer_messages layer values place (bs ++ more)) (omega (arith, length-layer (bs ++ more))))
      ∙ prefix bs more n (omega arith) (omega arith)
      ∙ take_all n (layer_messages layer values place bs) (omega (arith, length-layer bs))

-- one more message
pub next_message : (layer : GateLayer) (values : List K) (place : Place K) (bs : List K) (r : K) → length bs < layer.k + layer.k →
    take (length bs + 1 + 1) (layer_messages layer values place (bs ++ r ∷ [])) ≡ take (length bs + 1) (layer_messages layer values place bs) ++ get_or (layer_messages layer values place (bs ++ r ∷ [])) (length bs + 1) [] ∷ []
next_message layer values place bs r u =
    take_more (layer_messages layer values place (bs ++ r ∷ [])) (length bs + 1) [] (omega (arith, length-layer layer values place (bs ++ r ∷ [])))
    ∙ ap (λ (xs : List (List K)). xs ++ get_or (layer_messages layer values place (bs ++ r ∷ [])) (length bs + 1) [] ∷ []) (prefix layer values place bs (r ∷ []) (length bs + 1) (omega arith) (omega arith))

-- there are as many as the layers take
pub length-honest : (layers : List GateLayer) (input : List K) (place : Place K) (rs : List K) → length (honest_messages layers input place rs) ≡ message_count layers
length-honest [] input place rs = refl
length-honest (layer ∷ layers) input place rs =
    let values = values_over k_ops layers input in
    let rest = honest_messages layers input (next_place k_ops Line layer.k rs) (drop (layer.k + layer.k + 1) rs) in
    omega (arith, length-append (layer_messages layer values place rs) rest, length-layer layer values place rs, length-honest layers input (next_place k_ops Line layer.k rs) (drop (layer.k + layer.k + 1) rs))

-- and they are honest
pub are_honest : (layers : List GateLayer) (input : List K) (place : Place K) (rs : List K) → AreHonest Line layers input place (honest_messages layers input place rs) rs
are_honest [] input place rs = tt
are_honest (layer ∷ layers) input place rs =
    let values : List K = values_over k_ops layers input in
    let mine : List (List K) = layer_messages layer values place rs in
    let next : Place K = next_place k_ops Line layer.k rs in
    let rest : List (List K) = honest_messages layers input next (drop (layer.k + layer.k + 1) rs) in
    let count = length-layer layer (values_over k_ops layers input) place rs in (
      record {
        rounds = λ j u. get_or_append_left mine rest [] j (omega (arith, u, count)) ∙ round_at layer values place rs j u;
        last = get_or_append_left mine rest [] (layer.k + layer.k) (omega (arith, count)) ∙ line_at layer values place rs (layer.k + layer.k) refl;
      },
      subst (λ (qs : List (List K)). AreHonest Line layers input next qs (drop (layer.k + layer.k + 1) rs)) (sym (drop_at mine rest (layer.k + layer.k + 1) count)) (are_honest layers input next (drop (layer.k + layer.k + 1) rs)),
    )
