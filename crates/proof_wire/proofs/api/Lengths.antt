-- Messages of a shape are spelled by as many bytes as the shape says.
use Rattle.std.specs.Prelude.{drop}
use Rattle.std.proofs.Common.{◌≡◌, ℕ, ◌+◌, ◌*◌, List, [], ◌∷◌, ◌++◌, length, refl, ◌∙◌, ap, length-append, arith}
use Rattle.std.specs.List.{flat_map}
use Rattle.std.proofs.lemmas.List.Concat.{flat_map-cons}
use Rattle.std.proofs.lemmas.List.Sums.{sum_by-append}
use Rattle.field_ext.specs.Field.{K}
use Rattle.proof_wire.specs.declared.messages.Round.{Round}
use Rattle.proof_wire.specs.declared.messages.LayerMessages.{LayerMessages}
use Rattle.proof_wire.specs.declared.messages.Messages.{Messages}
use Rattle.field_ext.specs.Bytes.{bytes_of}
use Rattle.proof_wire.specs.declared.form.ProofForm.{ProofForm}
use Rattle.proof_wire.specs.Forms.{last_degree, magic}
use Rattle.proof_wire.specs.Spelling.{coefficients_of, layer_coefficients, all_coefficients, coefficient_count, spelling, length_of}
use Rattle.proof_wire.specs.Lists.{HasShape, HaveShape}
use Rattle.std.proofs.lemmas.List.{nil_from_length as nothing}

pub bytes_length : (xs : List K) → length (flat_map bytes_of xs) ≡ 8 * length xs
bytes_length [] = refl
bytes_length (x ∷ xs) = ap length (flat_map-cons bytes_of x xs) ∙ length-append (bytes_of x) (flat_map bytes_of xs) ∙ omega (arith, bytes_length xs)

pub rounds_length : (rs : List Round) → length (flat_map coefficients_of rs) ≡ 3 * length rs
rounds_length [] = refl
rounds_length (r ∷ rs) = ap length (flat_map-cons coefficients_of r rs) ∙ length-append (coefficients_of r) (flat_map coefficients_of rs) ∙ omega (arith, rounds_length rs)

module _ (form : ProofForm) where
  pub layer_count : (k : ℕ) (layer : LayerMessages) → HasShape form k layer → length (layer_coefficients layer) ≡ 6 * k + (last_degree form k + 1)
  layer_count k layer h =
      length-append (flat_map coefficients_of layer.rounds) layer.last ∙ omega (arith, rounds_length layer.rounds, h.rounds, h.last)

  count_cons : (k : ℕ) (ks : List ℕ) → coefficient_count form (k ∷ ks) ≡ (6 * k + (last_degree form k + 1)) + coefficient_count form ks
  count_cons k ks = sum_by-append (λ k. 6 * k + (last_degree form k + 1)) (k ∷ []) ks ∙ ap (λ m. m + coefficient_count form ks) (omega arith)

  pub count_is : (ks : List ℕ) (ms : List LayerMessages) → HaveShape form ks ms → length (all_coefficients ms) ≡ coefficient_count form ks
  count_is [] [] h = refl
  count_is [] (m ∷ ms) h = absurd h
  count_is (k ∷ ks) [] h = absurd h
  count_is (k ∷ ks) (m ∷ ms) h =
      ap length (flat_map-cons layer_coefficients m ms) ∙ length-append (layer_coefficients m) (all_coefficients ms)
      ∙ omega (arith, count_is ks ms h.1, layer_count k m h.0, count_cons k ks)

  pub spelling_length : (ks : List ℕ) (messages : Messages) → HaveShape form (drop 1 ks) messages.layers → length (spelling form messages) ≡ length_of form ks
  spelling_length ks messages h =
      length-append (magic form) (flat_map bytes_of (all_coefficients messages.layers))
      ∙ ap (λ n. 4 + n) (bytes_length (all_coefficients messages.layers) ∙ ap (λ n. 8 * n) (count_is (drop 1 ks) messages.layers h))

  pub no_prefix : (ks : List ℕ) (some others : Messages) (more : List ℕ) → HaveShape form (drop 1 ks) some.layers → HaveShape form (drop 1 ks) others.layers →
      spelling form some ++ more ≡ spelling form others → more ≡ []
  no_prefix ks some others more a b e = nothing more (omega (arith, length-append (spelling form some) more, ap length e, spelling_length ks some a, spelling_length ks others b))
