-- Reading a case: its parts in order, and the place of the first byte that isn't due.
use Rattle.std.specs.Prelude.{◌≡◌, ℕ, ◌-◌, List, [], ◌∷◌, length, codes, Result, Ok, Err}
use Rattle.field_ext.specs.Field.{F, of}
use Rattle.arr_ast.specs.declared.lang.Lang.{Lang}
use Rattle.arr_ast.specs.declared.lang.Lang.TheVariants.{One, Two}
use Rattle.hex.specs.declared.error.FromHexError.{FromHexError}
use Rattle.hex.specs.declared.error.FromHexError.TheVariants.{InvalidHexCharacter, OddLength, InvalidStringLength, OutOfMemory}
use Rattle.text_parts.specs.declared.due.DueKind.TheVariants.{Header, Section, Hex}
use Rattle.text_parts.specs.declared.stop.Stop.{Stop}
use Rattle.text_parts.specs.declared.stop.ReadError.{ReadError}
use Rattle.text_parts.specs.declared.stop.ReadError.TheVariants as errors
use Rattle.text_parts.specs.Bytes.{initial, newline}
use Rattle.text_parts.specs.Parts.{Taking, ◌>>=◌, at_end, choice_at, counted_bytes_at, decimal_at, each_at, given_at, in_order, word_at}
use Rattle.case_text.specs.declared.case.refusal.BadCase.{BadCase}
use Rattle.case_text.specs.declared.case.refusal.CaseRefused.{CaseRefused}
use Rattle.case_text.specs.declared.case.refusal.CaseRefused.TheVariants as refusals
use Rattle.case_text.specs.declared.case.form.Form.{Form}
use Rattle.case_text.specs.Rules.{text_length, value_count, value_rule, proof_length}
use Rattle.case_text.specs.Content.{Content}
use Rattle.case_text.specs.Spelling.{last_line}
use Rattle.case_text.specs.Due.{digits_stop, hex_byte_at, line_at}

-- the language of a header
unfoldable pub language_at : List ℕ → Taking Lang
language_at bytes = choice_at (initial (codes "1"))
    (in_order (word_at Header (codes "1")) (λ u. given_at One))
    (in_order (word_at Header (codes "2")) (λ u. given_at Two)) bytes

unfoldable pub program_at : List ℕ → Taking (List ℕ)
program_at bytes = do
  name ← word_at Section (codes "program ") bytes
  len ← decimal_at text_length name.1
  program ← counted_bytes_at len.0 len.1
  close ← word_at Section (newline ∷ []) program.1
  Ok (program.0, close.1)

-- a value that this many follow
abbrev pub value_at : ℕ → List ℕ → Taking F
value_at following = in_order (decimal_at (value_rule following)) (λ n bytes. Ok (of n, bytes))

abbrev pub values_at : ℕ → List ℕ → Taking (List F)
values_at = each_at value_at

unfoldable pub counted_at : List ℕ → Taking (List F)
counted_at bytes = do
  count ← decimal_at value_count bytes
  values_at count.0 count.1

unfoldable pub outputs_at : List ℕ → Taking (List F)
outputs_at bytes = do
  name ← word_at Section (codes "output ") bytes
  counted_at name.1

unfoldable pub proof_at : List ℕ → Taking (List ℕ)
proof_at bytes = do
  name ← word_at Section (codes "proof ") bytes
  len ← decimal_at proof_length name.1
  proof ← each_at hex_byte_at len.0 len.1
  close ← word_at Hex (newline ∷ []) proof.1
  Ok (proof.0, close.1)

unfoldable pub case_at : Form → List ℕ → Taking Content
case_at form bytes = do
  first ← word_at Header (codes "gkr case ") bytes
  lang ← language_at first.1
  line ← word_at Header (newline ∷ []) lang.1
  program ← program_at line.1
  name ← word_at Section (codes "input ") program.1
  inputs ← counted_at name.1
  outputs ← line_at form (initial (codes "output ")) outputs_at inputs.1
  proof ← line_at form (initial (codes "proof ")) proof_at outputs.1
  last ← word_at Section last_line proof.1
  Ok (
    record {
      lang = lang.0;
      program = program.0;
      inputs = inputs.0;
      outputs = outputs.0;
      proof = proof.0;
    },
    last.1,
  )

-- the case that all of the bytes spell
abbrev pub case_in : Form → List ℕ → Result Content Stop
case_in form bytes = at_end (case_at form bytes)

-- The refusal of so many bytes: how many of them the due parts take, and what was due there.
abbrev pub refused : {A : Type 0} → ℕ → Result A Stop → Result A BadCase
refused len (Ok a) = Ok a
refused len (Err s) = Err (record { at = len - s.left; kind = s.kind })

-- The case that bytes spell, or their refusal.
abbrev pub reading : Form → List ℕ → Result Content BadCase
reading form bytes = refused (length bytes) (case_in form bytes)

-- The refusal of so many bytes, where what a function returned says why reading ended.
abbrev pub refusal_of : ℕ → ReadError → CaseRefused
refusal_of len errors.Memory = refusals.Memory
refusal_of len (errors.Stopped s) = refusals.Bad (record { at = len - s.left; kind = s.kind })

-- What a call answered is what reading gives, unless memory ran out.
abbrev pub Answers : {A : Type 0} → Result A CaseRefused → Result A BadCase → Type 0
Answers (Ok a) given = given ≡ Ok a
Answers (Err refusals.Memory) given = Unit {0}
Answers (Err (refusals.Bad bad)) given = given ≡ Err bad

-- Where hex digits that don't decode stop.
abbrev pub hex_stop : FromHexError → List ℕ → ReadError
hex_stop (InvalidHexCharacter c i) bytes = errors.Stopped (digits_stop bytes)
hex_stop OddLength bytes = errors.Stopped (digits_stop bytes)
hex_stop InvalidStringLength bytes = errors.Stopped (digits_stop bytes)
hex_stop OutOfMemory bytes = errors.Memory
