-- What is wrong with bytes that should be a proof of a form and a shape: the first trouble from the beginning.
use Rattle.std.specs.Prelude.{◌≡◌, ◌≢◌, ℕ, ◌+◌, ◌*◌, ◌<◌, ◌≤◌, ◌++◌, List, length, take, drop, get_or}
use Rattle.std.specs.List.{flat_map}
use Rattle.field_ext.specs.Field.{prime, K}
use Rattle.field_ext.specs.Bytes.{bytes_of, real_half, imaginary_half}
use Rattle.proof_wire.specs.declared.refused.BadProof.{BadProof}
use Rattle.proof_wire.specs.declared.refused.BadProof.TheVariants.{Magic, Short, Range, Long}
use Rattle.proof_wire.specs.declared.refused.ProofRefused.{ProofRefused}
use Rattle.proof_wire.specs.declared.refused.ProofRefused.TheVariants.{Bad, Memory}
use Rattle.proof_wire.specs.declared.form.ProofForm.{ProofForm}
use Rattle.proof_wire.specs.Forms.{magic}
use Rattle.proof_wire.specs.Spelling.{coefficient_count, length_of}

-- the eight bytes of the coefficient with this index, the first having 0
abbrev pub element_at : List ℕ → ℕ → List ℕ
element_at bytes i = take 8 (drop (4 + 8 * i) bytes)

-- both halves of that coefficient are below the prime
pub record InRange (bytes : List ℕ) (i : ℕ) : Type 0 where
  pub real : real_half (element_at bytes i) < prime
  pub imaginary : imaginary_half (element_at bytes i) < prime

-- the bytes begin as a proof does, as far as there are any
abbrev pub Opens : ProofForm → List ℕ → Type 0
Opens form bytes = take 4 bytes ≡ take (length bytes) (magic form)

-- the byte at this position is the first that is not that of a proof's beginning
pub record Foreign (form : ProofForm) (bytes : List ℕ) (at : ℕ) : Type 0 where
  pub early : at < 4
  pub there : at < length bytes
  pub before : take at bytes ≡ take at (magic form)
  pub differs : get_or bytes at 0 ≢ get_or (magic form) at 0

-- the bytes end before all coefficients are there, and those that are there are good
pub record EndsEarly (form : ProofForm) (ks bytes : List ℕ) (at need : ℕ) : Type 0 where
  pub at_end : at ≡ length bytes
  pub whole : need ≡ length_of form ks
  pub early : at < need
  pub opens : Opens form bytes
  pub good : (i : ℕ) → 12 + 8 * i ≤ length bytes → InRange bytes i

-- the coefficient that begins at this byte is the first that is out of range
pub record OutOfRange (form : ProofForm) (ks bytes : List ℕ) (at : ℕ) : Type 0 where
  pub index : ℕ
  pub place : at ≡ 4 + 8 * index
  pub among : index < coefficient_count form (drop 1 ks)
  pub there : 12 + 8 * index ≤ length bytes
  pub opens : Opens form bytes
  pub good : (i : ℕ) → i < index → InRange bytes i
  pub bad : InRange bytes index → ⊥

-- all coefficients are there and good, and more bytes follow
pub record GoesOn (form : ProofForm) (ks bytes : List ℕ) (extra : ℕ) : Type 0 where
  pub some : 0 < extra
  pub after : length bytes ≡ length_of form ks + extra
  pub opens : Opens form bytes
  pub good : (i : ℕ) → i < coefficient_count form (drop 1 ks) → InRange bytes i

-- the bytes begin with these coefficients after the first four bytes
pub record BeginWith (form : ProofForm) (elements : List K) (bytes : List ℕ) : Type 0 where
  pub spelled : take (4 + 8 * length elements) bytes ≡ magic form ++ flat_map bytes_of elements
  pub good : (i : ℕ) → i < length elements → InRange bytes i

-- this is the first trouble of the bytes
abbrev pub TroubleIs : ProofForm → List ℕ → List ℕ → BadProof → Type 0
TroubleIs form ks bytes (Magic at) = Foreign form bytes at
TroubleIs form ks bytes (Short at need) = EndsEarly form ks bytes at need
TroubleIs form ks bytes (Range at) = OutOfRange form ks bytes at
TroubleIs form ks bytes (Long extra) = GoesOn form ks bytes extra

-- a refusal names the first trouble, or says that no memory is left
abbrev pub RefusedFor : ProofForm → List ℕ → List ℕ → ProofRefused → Type 0
RefusedFor form ks bytes (Bad trouble) = TroubleIs form ks bytes trouble
RefusedFor form ks bytes Memory = Unit
