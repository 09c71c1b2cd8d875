-- The lines of a case are rows of parts, so they take exactly their texts.
use Rattle.std.proofs.Common.{◌≡◌, ℕ, ◌≤◌, eqb, inl, inr, List, [], ◌∷◌, ◌++◌, length, Option, Some, None, refl, sym, ap, subst, ◌∙◌, arith, mod-eq_of_lt}
use Rattle.std.proofs.lemmas.List.{append-nil}
use Rattle.std.specs.Prelude.{codes, IfSome}
use Rattle.field_ext.specs.Field.{F, of}
use Rattle.arr_ast.specs.declared.lang.Lang.{Lang}
use Rattle.arr_ast.specs.declared.lang.Lang.TheVariants.{One, Two}
use Rattle.field_ext.proofs.api.Elements.{of-value, of_self}
use Rattle.text_parts.specs.declared.due.DueKind.TheVariants.{Header, Section, Hex}
use Rattle.text_parts.specs.Bytes.{initial, newline, space}
use Rattle.text_parts.specs.Parts.{Taking, given_at, in_order, word_at}
use Rattle.text_parts.specs.Exact.{IsExact, IsSound}
use Rattle.text_parts.proofs.api.Compose.{same_texts}
use Rattle.text_parts.proofs.api.Choice.{Either, FirstIs, IsOther, choice_exact}
use Rattle.text_parts.proofs.api.Decimals.{closes}
use Rattle.text_parts.proofs.api.Rows.{Spelled, absent_row, counted_bytes_row, decimal_row, each_row, made_row, number_row, optional_first, optional_row, part_row, said, there_row, word_row}
use Rattle.case_text.specs.declared.case.form.Form.{Form}
use Rattle.case_text.specs.declared.case.form.Form.TheVariants as forms
use Rattle.case_text.specs.Rules.{after_value, text_length, value_count, value_rule, proof_length}
use Rattle.case_text.specs.Content.{Content, AreValues}
use Rattle.case_text.specs.Forms.{Allows}
use Rattle.case_text.specs.Hex.{IsHexOf}
use Rattle.case_text.specs.Spelling.{language_text, number, program_text, values_text, counted_text, outputs_text, proof_text, last_line, Spells}
use Rattle.case_text.specs.Due.{line_at}
use Rattle.case_text.specs.Reading.{language_at, program_at, value_at, counted_at, outputs_at, proof_at, case_at}
use Rattle.case_text.proofs.HexDigits.{hex_row}

program_row : IsExact (Spelled (λ (w : Unit {0}) p. length p ≤ 65536) (λ w p. program_text p)) program_at
unfolding program_at
program_row = said
    (λ v p h. (tt, omega (arith, h.0), refl))
    (λ w p h. ((tt, (tt, tt)), (omega (arith, h), (refl, refl)), refl))
    (word_row Section (codes "program ") (part_row length (number_row text_length newline (record { some = omega arith; fits = omega arith; zero_closes = refl; other_closes = refl }) refl refl)
    (λ n v g. part_row (λ p. p) (counted_bytes_row n) (λ p v g. word_row Section (newline ∷ []) (made_row p)) (λ p v w c g e. e))
    (λ n v w p g h. h.0)))

-- ---- the language

abbrev OneText : Lang → List ℕ → Type 0
OneText = Spelled (λ (w : Unit {0}) lang. lang ≡ One) (λ w lang. codes "1" ++ [])

abbrev TwoText : Lang → List ℕ → Type 0
TwoText = Spelled (λ (w : Unit {0}) lang. lang ≡ Two) (λ w lang. codes "2" ++ [])

language_from : (lang : Lang) (text : List ℕ) → text ≡ language_text lang → Either OneText TwoText lang text
language_from One text e = inl (record { way = tt; holds = refl; parts = e })
language_from Two text e = inr (record { way = tt; holds = refl; parts = e })

language_row : IsExact (Spelled (λ (w : Unit {0}) (lang : Lang). Unit {0}) (λ w lang. language_text lang)) language_at
unfolding language_at
language_row = same_texts (Either OneText TwoText) (Spelled (λ (w : Unit {0}) (lang : Lang). Unit {0}) (λ w lang. language_text lang)) language_at
    (λ lang text h. elim h [
      | inl one ↦ record { way = tt; holds = tt; parts = one.parts ∙ sym (ap language_text one.holds) }
      | inr two ↦ record { way = tt; holds = tt; parts = two.parts ∙ sym (ap language_text two.holds) }
    ])
    (λ lang text h. language_from lang text h.parts)
    (choice_exact (initial (codes "1")) OneText TwoText (in_order (word_at Header (codes "1")) (λ u. given_at One)) (in_order (word_at Header (codes "2")) (λ u. given_at Two))
    (word_row Header (codes "1") (made_row One)) (word_row Header (codes "2") (made_row Two))
    (λ lang text h. subst (FirstIs (λ b. eqb b (initial (codes "1")))) (sym h.parts) refl)
    (λ lang text h. subst (FirstIs (IsOther (initial (codes "1")))) (sym h.parts) refl))

-- ---- values

value_sound : (following : ℕ) → IsSound (value_rule following)
value_sound following =
    let closed = closes (eqb following 0) newline space refl refl in
    record { some = omega arith; fits = omega arith; zero_closes = closed; other_closes = closed }

value_row : (following : ℕ) → IsExact (Spelled (λ (w : Unit {0}) v. Unit {0}) (λ w v. number v.value (after_value following))) (value_at following)
value_row following = said
    (λ w v h. (tt, tt, append-nil (number v.value (after_value following))))
    (λ w v h. ((tt, tt), (v.below, sym (of_self v)), sym (append-nil (number v.value (after_value following)))))
    (part_row (λ v. v.value) (number_row (value_rule following) (after_value following) (value_sound following) refl refl) (λ n w g. made_row (of n))
    (λ n w u v below e. ap (λ (x : F). x.value) e ∙ of-value n ∙ mod-eq_of_lt below))

pub counted_row : IsExact (Spelled (λ (w : Unit {0}) vs. AreValues vs) (λ w vs. counted_text vs)) counted_at
unfolding counted_at
counted_row = said
    (λ v vs h. (tt, omega (arith, h.0), refl))
    (λ w vs h. ((tt, tt), (omega (arith, h), refl), refl))
    (part_row length (decimal_row value_count (record { some = omega arith; fits = omega arith; zero_closes = refl; other_closes = refl }))
    (λ n v g. each_row (λ following v. number v.value (after_value following)) values_text refl (λ v vs. refl) value_at value_row n)
    (λ n v w vs g h. h))

outputs_row : IsExact (Spelled (λ (w : Unit {0}) vs. AreValues vs) (λ w vs. outputs_text (Some vs))) outputs_at
unfolding outputs_at
outputs_row = word_row Section (codes "output ") counted_row

-- ---- the proof

abbrev IsProof : List ℕ → List ℕ → Type 0
IsProof digits proof = (length proof ≤ 2000000) × IsHexOf proof digits

proof_row : IsExact (Spelled IsProof (λ digits proof. proof_text (Some proof) digits)) proof_at
unfolding proof_at
proof_row = said
    (λ v p h. (v.1.0, (omega (arith, h.0), h.1.0.1), refl))
    (λ digits p h. ((tt, (digits, tt)), (omega (arith, h.0), ((refl, h.1), refl)), refl))
    (word_row Section (codes "proof ") (part_row length (number_row proof_length newline (record { some = omega arith; fits = omega arith; zero_closes = refl; other_closes = refl }) refl refl)
    (λ n v g. part_row (λ p. p) (hex_row n) (λ p v g. word_row Hex (newline ∷ []) (made_row p)) (λ p v w c g e. e))
    (λ n v w p g h. h.0.0)))

-- ---- a line that a form has, or lacks, or has where its first byte is there

module _ {V W A C : Type 0} {good : V → A → Type 0} {spell : V → A → List ℕ} {fits : Option A → W → C → Type 0} {says : Option A → W → C → List ℕ} {line : List ℕ → Taking A} {next : Option A → List ℕ → Taking C}
    (piece : C → Option A) (texts : V → Option A → List ℕ) (none : (v : V) → texts v None ≡ []) (some : (v : V) (a : A) → texts v (Some a) ≡ spell v a)
    (exact : IsExact (Spelled good spell) line) (exact_next : (o : Option A) → IsExact (Spelled (fits o) (says o)) (next o)) (is_piece : (o : Option A) (w : W) (c : C) → fits o w c → piece c ≡ o) where
  line_row : (byte : ℕ) → ((v : V) (a : A) → FirstIs (λ b. eqb b byte) (spell v a)) → ((w : W) (c : C) → fits None w c → FirstIs (IsOther byte) (says None w c)) → (form : Form)
      → IsExact (Spelled (λ (w : V × W) c. Allows form (piece c) × IfSome (piece c) (good w.0) × fits (piece c) w.1 c) (λ w c. texts w.0 (piece c) ++ says (piece c) w.1 c)) (in_order (line_at form byte line) next)
  unfolding line_at
  line_row byte begins other forms.Plain = absent_row piece texts none some exact exact_next is_piece (Allows forms.Plain) tt (λ a h. h)
  line_row byte begins other forms.Full = there_row piece texts none some exact exact_next is_piece (Allows forms.Full) (λ h. h) (λ a. tt)
  line_row byte begins other forms.Any = optional_row piece texts none some exact exact_next is_piece (Allows forms.Any) (λ o. tt) byte begins other

-- ---- a case

abbrev pub content : Lang → List ℕ → List F → Option (List F) → Option (List ℕ) → Content
content lang p vs ys proof = record { lang = lang; program = p; inputs = vs; outputs = ys; proof = proof }

both_of : {A : Type 0} (P Q : A → Type 0) (o : Option A) → IfSome o (λ a. P a × Q a) → IfSome o P × IfSome o Q
both_of P Q None h = (tt, tt)
both_of P Q (Some a) h = h

both_to : {A : Type 0} (P Q : A → Type 0) (o : Option A) → IfSome o P → IfSome o Q → IfSome o (λ a. P a × Q a)
both_to P Q None p q = tt
both_to P Q (Some a) p q = (p, q)

pub case_exact : (form : Form) → IsExact (λ c text. Spells form text c) (case_at form)
unfolding case_at
case_exact form = same_texts _ (λ c text. Spells form text c) (case_at form)
    (λ c text h.
    let lines = h.holds.1.1.1 in
    let digits = h.way.1.1.1.1.0 in
    let proof = both_of (λ p. length p ≤ 2000000) (λ p. IsHexOf p digits) c.proof lines.2.1 in
    record {
      fits = record { program = h.holds.1.0; inputs = h.holds.1.1.0; outputs = lines.1; proof = proof.0 };
      outputs = lines.0;
      proof = lines.2.0;
      digits = digits;
      hex = proof.1;
      text = h.parts;
    })
    (λ c text h. record {
      way = (tt, (tt, (tt, (tt, (h.digits, tt)))));
      holds = (tt, (h.fits.program, (h.fits.inputs, (h.outputs, h.fits.outputs, (h.proof, both_to (λ p. length p ≤ 2000000) (λ p. IsHexOf p h.digits) c.proof h.fits.proof h.hex, refl)))));
      parts = h.text;
    })
    (word_row Header (codes "gkr case ")
    (part_row (λ c. c.lang) language_row (λ lang v g. word_row Header (newline ∷ [])
    (part_row (λ c. c.program) program_row (λ p v g. word_row Section (codes "input ")
    (part_row (λ c. c.inputs) counted_row (λ vs v g.
    line_row (λ c. c.outputs) (λ w o. outputs_text o) (λ w. refl) (λ w a. refl) outputs_row (λ ys.
    line_row (λ c. c.proof) (λ digits o. proof_text o digits) (λ digits. refl) (λ digits a. refl) proof_row (λ proof.
    word_row Section last_line (made_row (content lang p vs ys proof)))
    (λ o w c e. ap (λ (x : Content). x.proof) e)
    (initial (codes "proof ")) (λ digits a. refl) (λ w c e. refl) form)
    (λ o w c h. ap (λ (x : Content). x.outputs) h.2)
    (initial (codes "output ")) (λ w a. refl)
    (λ w c h. optional_first (IsOther (initial (codes "output "))) (λ o. proof_text o w.0) (last_line ++ []) refl (λ a. refl) refl c.proof) form)
    (λ vs v w c g h. ap (λ (x : Content). x.inputs) h.2.2)))
    (λ p v w c g h. ap (λ (x : Content). x.program) h.1.2.2)))
    (λ lang v w c g h. ap (λ (x : Content). x.lang) h.1.1.2.2)))
