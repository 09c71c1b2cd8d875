-- The text of a proved case: that it spells the case, and how long it is at most.
use Rattle.std.proofs.Common.{◌≡◌, ℕ, zero, suc, ◌+◌, ◌*◌, ◌^◌, ◌<◌, ◌≤◌, List, [], ◌∷◌, ◌++◌, Some, length, refl, arith, length-append, decimal}
use Rattle.std.specs.Prelude.{codes}
use Rattle.std.specs.List.{concat, flat_map}
use Rattle.std.specs.Int.{w32, to_le_bytes}
use Rattle.std.proofs.lemmas.Fmt.{length-decimal-le}
use Rattle.arr_ast.specs.declared.lang.Lang.{Lang}
use Rattle.arr_ast.specs.declared.lang.Lang.TheVariants as langs
use Rattle.hex.specs.Hex.{IsBytes, encode_lower}
use Rattle.hex.specs.Hex as hex
use Rattle.hex.proofs.HexLemmas.{length-encode_with}
use Rattle.field_ext.specs.Field.{F, K}
use Rattle.field_ext.specs.Bytes.{bytes_of}
use Rattle.proof_wire.specs.declared.messages.Messages.{Messages}
use Rattle.proof_wire.specs.declared.form.ProofForm.{ProofForm}
use Rattle.proof_wire.specs.declared.form.ProofForm.TheVariants.{Line, Pair}
use Rattle.proof_wire.specs.Forms.{magic, mark}
use Rattle.proof_wire.specs.Spelling.{all_coefficients, spelling}
use Rattle.proof_two.specs.declared.kind.ProofKind.{ProofKind}
use Rattle.proof_two.specs.declared.kind.ProofKind.TheVariants.{ByLines, ByPairs}
use Rattle.proof_two.specs.declared.kind.ProofVersion.TheVariants.{One, Two}
use Rattle.proof_two.specs.Kinds.{kind_spelling}
use Rattle.proof_two.specs.Lists.{shortened}
use Rattle.proof_two.specs.Spelling.{all_elements, magic_two}
use Rattle.case_text.specs.Rules.{after_value}
use Rattle.case_text.specs.Content.{Content, Fits}
use Rattle.case_text.specs.Spelling.{language_text, number, program_text, values_text, counted_text, outputs_text, proof_text, last_line, lower_case_text, Spells}
use Rattle.case_text.specs.declared.case.form.Form.TheVariants.{Full}
use Rattle.case_text.proofs.api.HexWriting.{lower_is_hex, lower_spells}

-- ---- the bytes of a proof are bytes

four_bytes : (a b c d : ℕ) → a < 256 → b < 256 → c < 256 → d < 256 → IsBytes (a ∷ b ∷ c ∷ d ∷ [])
four_bytes a b c d u v w x zero = u
four_bytes a b c d u v w x (suc zero) = v
four_bytes a b c d u v w x (suc (suc zero)) = w
four_bytes a b c d u v w x (suc (suc (suc zero))) = x
four_bytes a b c d u v w x (suc (suc (suc (suc i)))) = omega arith

joined_bytes : (xs ys : List ℕ) → IsBytes xs → IsBytes ys → IsBytes (xs ++ ys)
joined_bytes [] ys h k i = k i
joined_bytes (x ∷ xs) ys h k zero = h 0
joined_bytes (x ∷ xs) ys h k (suc i) = joined_bytes xs ys (λ j. h (suc j)) k i

word_bytes : (n : ℕ) → IsBytes (to_le_bytes w32 n)
word_bytes n = four_bytes _ _ _ _ (omega arith) (omega arith) (omega arith) (omega arith)

coefficient_bytes : (xs : List K) → IsBytes (flat_map bytes_of xs)
coefficient_bytes [] = λ i. omega arith
coefficient_bytes (x ∷ xs) =
    joined_bytes (bytes_of x) (flat_map bytes_of xs)
    (joined_bytes (to_le_bytes w32 x.re.value) (to_le_bytes w32 x.im.value) (word_bytes x.re.value) (word_bytes x.im.value))
    (coefficient_bytes xs)

mark_byte : (form : ProofForm) → mark form < 256
mark_byte Line = omega arith
mark_byte Pair = omega arith

proof_bytes : (form : ProofForm) (messages : Messages) → IsBytes (spelling form messages)
proof_bytes form messages =
    joined_bytes (magic form) (flat_map bytes_of (all_coefficients messages.layers))
    (four_bytes 71 75 82 (mark form) (omega arith) (omega arith) (omega arith) (mark_byte form)) (coefficient_bytes (all_coefficients messages.layers))

kind_bytes : (kind : ProofKind) (messages : Messages) → IsBytes (kind_spelling kind messages)
kind_bytes (ByLines One) messages = proof_bytes Line messages
kind_bytes (ByLines Two) messages =
    joined_bytes magic_two (flat_map bytes_of (all_elements (shortened messages).layers))
    (four_bytes 71 75 82 50 (omega arith) (omega arith) (omega arith) (omega arith)) (coefficient_bytes (all_elements (shortened messages).layers))
kind_bytes ByPairs messages = proof_bytes Pair messages

pub spells : (kind : ProofKind) (lang : Lang) (program : List ℕ) (inputs outputs : List F) (messages : Messages) →
    let c : Content = record { lang = lang; program = program; inputs = inputs; outputs = Some outputs; proof = Some (kind_spelling kind messages) } in
    Fits c → Spells Full (lower_case_text c) c
spells kind lang program inputs outputs messages fits =
    lower_spells (record { lang = lang; program = program; inputs = inputs; outputs = Some outputs; proof = Some (kind_spelling kind messages) }) _ fits (lower_is_hex (kind_spelling kind messages) (kind_bytes kind messages)) refl Full tt tt

-- ---- its length

length-number : (k n close : ℕ) → 0 < k → n < 10 ^ k → n < 2 ^ 64 → length (number n close) ≤ k + 1
length-number k n close some fits small = omega (arith, length-append (decimal n) (close ∷ []), length-decimal-le k n some fits small)

length-values : (vs : List F) → length (values_text vs) ≤ 11 * length vs
length-values [] = omega arith
length-values (v ∷ vs) =
    let value : v.value < 2147483647 = v.below in
    let one : length (number v.value (after_value (length vs))) ≤ 10 + 1 = length-number 10 v.value (after_value (length vs)) (omega arith) (omega (arith, value)) (omega (arith, value)) in
    omega (arith, one, length-append (number v.value (after_value (length vs))) (values_text vs), length-values vs)

length-counted : (vs : List F) → length vs ≤ 262144 → length (counted_text vs) ≤ 7 + 11 * length vs
length-counted vs few =
    let count : length (number (length vs) (after_value (length vs))) ≤ 6 + 1 = length-number 6 (length vs) (after_value (length vs)) (omega arith) (omega (arith, few)) (omega (arith, few)) in
    omega (arith, count, length-append (number (length vs) (after_value (length vs))) (values_text vs), length-values vs)

length-two : (a b : List ℕ) (x y : ℕ) → length a ≤ x → length b ≤ y → length (a ++ b) ≤ x + y
length-two a b x y u v = omega (arith, length-append a b, u, v)

length-four : (a b c d : List ℕ) (x y z w : ℕ) → length a ≤ x → length b ≤ y → length c ≤ z → length d ≤ w → length (concat (a ∷ b ∷ c ∷ d ∷ [])) ≤ x + y + z + w
length-four a b c d x y z w h i j k =
    omega (arith, h, i, j, k, length-append a (concat (b ∷ c ∷ d ∷ [])), length-append b (concat (c ∷ d ∷ [])), length-append c (concat (d ∷ [])), length-append d [])

length-nine : (a b c d e f g h i : List ℕ) → length (concat (a ∷ b ∷ c ∷ d ∷ e ∷ f ∷ g ∷ h ∷ i ∷ [])) ≡ length a + (length b + (length c + (length d + (length e + length (concat (f ∷ g ∷ h ∷ i ∷ []))))))
length-nine a b c d e f g h i =
    omega (arith, length-append a (concat (b ∷ c ∷ d ∷ e ∷ f ∷ g ∷ h ∷ i ∷ [])), length-append b (concat (c ∷ d ∷ e ∷ f ∷ g ∷ h ∷ i ∷ [])), length-append c (concat (d ∷ e ∷ f ∷ g ∷ h ∷ i ∷ [])), length-append d (concat (e ∷ f ∷ g ∷ h ∷ i ∷ [])), length-append e (concat (f ∷ g ∷ h ∷ i ∷ [])))

exactly : (n m : ℕ) → n ≡ m → n ≤ m
exactly n m e = omega (arith, e)

length-program : (program : List ℕ) → length program ≤ 65536 → length (program_text program) ≤ 8 + 6 + length program + 1
length-program program few =
    length-four (codes "program ") (number (length program) 10) program (10 ∷ []) 8 6 (length program) 1
    (exactly _ _ refl) (length-number 5 (length program) 10 (omega arith) (omega (arith, few)) (omega (arith, few))) (exactly _ _ refl) (exactly _ _ refl)

length-outputs : (vs : List F) → length vs ≤ 262144 → length (outputs_text (Some vs)) ≤ 7 + (7 + 11 * length vs)
length-outputs vs few = length-two (codes "output ") (counted_text vs) 7 (7 + 11 * length vs) (exactly _ _ refl) (length-counted vs few)

length-proof : (proof : List ℕ) → length proof ≤ 2000000 → length (proof_text (Some proof) (encode_lower proof)) ≤ 6 + 8 + 2 * length proof + 1
length-proof proof few =
    length-four (codes "proof ") (number (length proof) 10) (encode_lower proof) (10 ∷ []) 6 8 (2 * length proof) 1
    (exactly _ _ refl) (length-number 7 (length proof) 10 (omega arith) (omega (arith, few)) (omega (arith, few)))
    (exactly _ _ (length-encode_with hex.lower_digits proof)) (exactly _ _ refl)

pub short : (lang : Lang) (program : List ℕ) (inputs outputs : List F) (proof : List ℕ) → length program ≤ 65536 → length inputs ≤ 262144 → length outputs ≤ 65535 → length proof ≤ 1155076 →
    length (lower_case_text (record { lang = lang; program = program; inputs = inputs; outputs = Some outputs; proof = Some proof })) < 8388608
short lang program inputs outputs proof u v w x =
    whole (language_text lang) (program_text program) (counted_text inputs) (outputs_text (Some outputs)) (proof_text (Some proof) (encode_lower proof))
    (one_digit lang) (omega (arith, length-program program u, u)) (omega (arith, length-counted inputs v, v)) (omega (arith, length-outputs outputs (omega (arith, w)), w)) (omega (arith, length-proof proof (omega (arith, x)), x))
  where
    one_digit : (lang : Lang) → length (language_text lang) ≤ 1
    one_digit langs.One = omega arith
    one_digit langs.Two = omega arith

    whole : (l a b c d : List ℕ) → length l ≤ 1 → length a ≤ 65551 → length b ≤ 2883591 → length c ≤ 720899 → length d ≤ 2310167 →
        length (concat (codes "gkr case " ∷ l ∷ (10 ∷ []) ∷ a ∷ codes "input " ∷ b ∷ c ∷ d ∷ last_line ∷ [])) < 8388608
    whole l a b c d g h i j k =
        let first : length (codes "gkr case ") ≤ 9 = exactly _ _ refl in
        let word : length (codes "input ") ≤ 6 = exactly _ _ refl in
        let after : length (concat (b ∷ c ∷ d ∷ last_line ∷ [])) ≤ 2883591 + 720899 + 2310167 + 4 = length-four b c d last_line 2883591 720899 2310167 4 i j k (exactly _ _ refl) in
        total (length (codes "gkr case ")) (length l) (length a) (length (codes "input ")) (length (concat (b ∷ c ∷ d ∷ last_line ∷ []))) _ first g h word after
        (length-nine (codes "gkr case ") l (10 ∷ []) a (codes "input ") b c d last_line)
      where
        total : (f l a b c n : ℕ) → f ≤ 9 → l ≤ 1 → a ≤ 65551 → b ≤ 6 → c ≤ 5914661 → n ≡ f + (l + (1 + (a + (b + c)))) → n < 8388608
        total f l a b c n g h i j k e = omega (arith, g, h, i, j, k, e)
