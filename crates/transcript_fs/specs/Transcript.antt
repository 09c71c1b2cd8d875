-- The Fiat-Shamir transcript (Fiat and Shamir, 1986; Thaler, ch. 5) over SHA-256 (FIPS 180-4). Numbers are little-endian.
use Rattle.std.specs.Prelude.{ℕ, List, [], ◌∷◌, ◌++◌, length, drop, codes, true}
use Rattle.std.specs.List.{concat, flat_map}
use Rattle.std.specs.Int.{w32, w64, to_le_bytes, from_le_bytes}
use Rattle.std.proofs.Common.{refl}
use Rattle.sha2.specs.Sha256.{sha256}
use Rattle.field_ext.specs.Bytes.{bytes_of}
use Rattle.field_ext.specs.Field.{F, K, of}
use Rattle.transcript_fs.specs.Source.{Source}

-- a program's text, its inputs and its outputs
pub record Stated : Type 0 where
  pub text : List ℕ
  pub inputs : List F
  pub outputs : List F

-- a number below p as 4 bytes
abbrev pub number_bytes : F → List ℕ
number_bytes x = to_le_bytes w32 x.value

-- a count as 4 bytes, and what it counts
abbrev pub counted_bytes : ℕ → List ℕ → List ℕ
counted_bytes n bytes = to_le_bytes w32 n ++ bytes

-- the bytes of a statement: text, inputs and outputs, each after its count
abbrev pub statement_bytes : List ℕ → List F → List F → List ℕ
statement_bytes text inputs outputs = concat
    (counted_bytes (length text) text
    ∷ counted_bytes (length inputs) (flat_map number_bytes inputs)
    ∷ counted_bytes (length outputs) (flat_map number_bytes outputs)
    ∷ [])

-- the state before the first message: the hash of the transcript's name, a line feed and the statement
abbrev pub named_state : List ℕ → List ℕ → List F → List F → List ℕ
named_state name text inputs outputs =
    sha256 (concat (name ∷ (10 ∷ []) ∷ statement_bytes text inputs outputs ∷ []))

-- that of a proof by lines
abbrev pub start_state : List ℕ → List F → List F → List ℕ
start_state text inputs outputs = named_state (codes "gkr-transcript-1") text inputs outputs

-- that of a proof by pairs
abbrev pub pair_start_state : List ℕ → List F → List F → List ℕ
pair_start_state text inputs outputs = named_state (codes "gkr-transcript-p") text inputs outputs

-- the state after a message: the hash of the state, the byte 1 and the elements
abbrev pub absorbed_state : List ℕ → List K → List ℕ
absorbed_state state message = sha256 (concat (state ∷ (1 ∷ []) ∷ flat_map bytes_of message ∷ []))

-- the state after a challenge: the hash of the state and the byte 2
abbrev pub drawn_state : List ℕ → List ℕ
drawn_state state = sha256 (concat (state ∷ (2 ∷ []) ∷ []))

-- the element of the numbers that are read from the first 8 bytes and from the next 8, each modulo p
abbrev pub element_in : List ℕ → K
element_in state = record {
  re = of (from_le_bytes w64 state);
  im = of (from_le_bytes w64 (drop 8 state));
}

-- the transcript as a source: a challenge comes from the state that drawing it leaves, and there is always one more
abbrev pub transcript : Source
transcript = record {
  absorb = absorbed_state;
  draw = λ state. element_in (drawn_state state);
  after = drawn_state;
  has = λ state n. true;
  has_fewer = λ state n h. refl;
  has_after = λ state n h. refl;
  has_absorbed = λ state message n h. refl;
}
