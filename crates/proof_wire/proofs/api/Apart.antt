-- Messages of one shape with one spelling are the same.
use Rattle.std.proofs.Common.{◌≡◌, ℕ, ◌*◌, ◌<◌, List, [], ◌∷◌, ◌++◌, length, take, drop, sym, ◌∙◌, ap, refl, length-append, arith, lit<}
use Rattle.std.specs.List.{flat_map}
use Rattle.std.proofs.Math.Seq.{take-append_seam, drop-append_seam}
use Rattle.std.proofs.lemmas.List.{append_cancel_left}
use Rattle.std.proofs.lemmas.List.Concat.{flat_map-cons}
use Rattle.field_ext.specs.Field.{K}
use Rattle.field_ext.specs.Bytes.{bytes_of}
use Rattle.field_ext.proofs.api.ElementBytes.{bytes_apart}
use Rattle.proof_wire.specs.declared.messages.Round.{Round}
use Rattle.proof_wire.specs.declared.messages.LayerMessages.{LayerMessages}
use Rattle.proof_wire.specs.declared.messages.Messages.{Messages}
use Rattle.proof_wire.specs.declared.form.ProofForm.{ProofForm}
use Rattle.proof_wire.specs.Forms.{form_of, magic}
use Rattle.proof_wire.specs.declared.form.ProofForm.TheVariants.{Line, Pair}
use Rattle.proof_wire.specs.Spelling.{coefficients_of, layer_coefficients, all_coefficients, spelling}
use Rattle.proof_wire.specs.Lists.{HasShape, HaveShape}
use Rattle.proof_wire.proofs.api.Lengths.{rounds_length, layer_count}

pub prefix_same : {A : Type 0} (xs ys us vs : List A) → length xs ≡ length us → xs ++ ys ≡ us ++ vs → xs ≡ us
prefix_same xs ys us vs n e = sym (take-append_seam xs ys) ∙ ap (λ m. take m (xs ++ ys)) n ∙ ap (take (length us)) e ∙ take-append_seam us vs

pub back_same : {A : Type 0} (xs ys us vs : List A) → length xs ≡ length us → xs ++ ys ≡ us ++ vs → ys ≡ vs
back_same xs ys us vs n e = sym (drop-append_seam xs ys) ∙ ap (λ m. drop m (xs ++ ys)) n ∙ ap (drop (length us)) e ∙ drop-append_seam us vs

pub cons_same : {A : Type 0} (x y : A) (xs ys : List A) → x ≡ y → xs ≡ ys → x ∷ xs ≡ y ∷ ys
cons_same x y xs ys e f = cc (e, f)

-- pieces of one length that differ where what they are made of differs
pub pieces_apart : {A B : Type 0} (f : A → List B) (n : ℕ) → 0 < n → ((x : A) → length (f x) ≡ n) → ((x y : A) → f x ≡ f y → x ≡ y) → (xs ys : List A) → flat_map f xs ≡ flat_map f ys → xs ≡ ys
pieces_apart f n p l a [] [] e = refl
pieces_apart f n p l a [] (y ∷ ys) e = absurd (omega (arith, p, l y, ap length (e ∙ flat_map-cons f y ys) ∙ length-append (f y) (flat_map f ys)))
pieces_apart f n p l a (x ∷ xs) [] e = absurd (omega (arith, p, l x, ap length (sym e ∙ flat_map-cons f x xs) ∙ length-append (f x) (flat_map f xs)))
pieces_apart f n p l a (x ∷ xs) (y ∷ ys) e =
    let s : f x ++ flat_map f xs ≡ f y ++ flat_map f ys = sym (flat_map-cons f x xs) ∙ e ∙ flat_map-cons f y ys in
    let m : length (f x) ≡ length (f y) = l x ∙ sym (l y) in
    cons_same x y xs ys (a x y (prefix_same (f x) (flat_map f xs) (f y) (flat_map f ys) m s)) (pieces_apart f n p l a xs ys (back_same (f x) (flat_map f xs) (f y) (flat_map f ys) m s))

first_same : (a b c x y z : K) → a ∷ b ∷ c ∷ [] ≡ x ∷ y ∷ z ∷ [] → a ≡ x
first_same a b c x y z e = cc e

second_same : (a b c x y z : K) → a ∷ b ∷ c ∷ [] ≡ x ∷ y ∷ z ∷ [] → b ≡ y
second_same a b c x y z e = cc e

third_same : (a b c x y z : K) → a ∷ b ∷ c ∷ [] ≡ x ∷ y ∷ z ∷ [] → c ≡ z
third_same a b c x y z e = cc e

pub round_apart : (x y : Round) → coefficients_of x ≡ coefficients_of y → x ≡ y
round_apart x y e = λ i. record {
  c0 = first_same x.c0 x.c1 x.c2 y.c0 y.c1 y.c2 e i;
  c1 = second_same x.c0 x.c1 x.c2 y.c0 y.c1 y.c2 e i;
  c2 = third_same x.c0 x.c1 x.c2 y.c0 y.c1 y.c2 e i;
}

rounds_apart : (xs ys : List Round) → flat_map coefficients_of xs ≡ flat_map coefficients_of ys → xs ≡ ys
rounds_apart = pieces_apart coefficients_of 3 (lit< tt) (λ x. refl) round_apart

pub elements_apart : (xs ys : List K) → flat_map bytes_of xs ≡ flat_map bytes_of ys → xs ≡ ys
elements_apart = pieces_apart bytes_of 8 (lit< tt) (λ x. refl) bytes_apart

module _ (form : ProofForm) where
  layer_apart : (k : ℕ) (x y : LayerMessages) → HasShape form k x → HasShape form k y → layer_coefficients x ≡ layer_coefficients y → x ≡ y
  layer_apart k x y a b e =
      let size : length (flat_map coefficients_of x.rounds) ≡ length (flat_map coefficients_of y.rounds) =
      rounds_length x.rounds ∙ ap (λ n. 3 * n) (a.rounds ∙ sym b.rounds) ∙ sym (rounds_length y.rounds) in
      let rounds = rounds_apart x.rounds y.rounds (prefix_same (flat_map coefficients_of x.rounds) x.last (flat_map coefficients_of y.rounds) y.last size e) in
      let last = back_same (flat_map coefficients_of x.rounds) x.last (flat_map coefficients_of y.rounds) y.last size e in
      λ i. record { rounds = rounds i; last = last i }

  layers_apart : (ks : List ℕ) (xs ys : List LayerMessages) → HaveShape form ks xs → HaveShape form ks ys → all_coefficients xs ≡ all_coefficients ys → xs ≡ ys
  layers_apart [] [] [] a b e = refl
  layers_apart [] [] (y ∷ ys) a b e = absurd b
  layers_apart [] (x ∷ xs) ys a b e = absurd a
  layers_apart (k ∷ ks) [] ys a b e = absurd a
  layers_apart (k ∷ ks) (x ∷ xs) [] a b e = absurd b
  layers_apart (k ∷ ks) (x ∷ xs) (y ∷ ys) a b e =
      let size : length (layer_coefficients x) ≡ length (layer_coefficients y) = layer_count form k x a.0 ∙ sym (layer_count form k y b.0) in
      let whole : layer_coefficients x ++ all_coefficients xs ≡ layer_coefficients y ++ all_coefficients ys =
      sym (flat_map-cons layer_coefficients x xs) ∙ e ∙ flat_map-cons layer_coefficients y ys in
      cons_same x y xs ys
      (layer_apart k x y a.0 b.0 (prefix_same (layer_coefficients x) (all_coefficients xs) (layer_coefficients y) (all_coefficients ys) size whole))
      (layers_apart ks xs ys a.1 b.1 (back_same (layer_coefficients x) (all_coefficients xs) (layer_coefficients y) (all_coefficients ys) size whole))

  pub one_reading : (ks : List ℕ) (some others : Messages) → HaveShape form (drop 1 ks) some.layers → HaveShape form (drop 1 ks) others.layers → spelling form some ≡ spelling form others → some ≡ others
  one_reading ks some others a b e =
      let coefficients = elements_apart (all_coefficients some.layers) (all_coefficients others.layers)
      (append_cancel_left (magic form) (flat_map bytes_of (all_coefficients some.layers)) (flat_map bytes_of (all_coefficients others.layers)) e) in
      let layers = layers_apart (drop 1 ks) some.layers others.layers a b coefficients in
      λ i. record { layers = layers i }

-- the fourth byte tells the forms apart
pub one_form : (form : ProofForm) (messages : Messages) → form_of (spelling form messages) ≡ form
one_form Line messages = refl
one_form Pair messages = refl
