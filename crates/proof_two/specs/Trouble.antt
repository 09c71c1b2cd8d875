-- What is wrong with bytes that should be a proof of version 2 of a shape: the first trouble from the front.
use Rattle.std.specs.Prelude.{◌≡◌, ◌≢◌, ℕ, ◌+◌, ◌*◌, ◌<◌, ◌≤◌, ◌++◌, List, length, take, drop, get_or}
use Rattle.std.specs.List.{flat_map}
use Rattle.field_ext.specs.Field.{K}
use Rattle.field_ext.specs.Bytes.{bytes_of}
use Rattle.proof_wire.specs.declared.refused.BadProof.{BadProof}
use Rattle.proof_wire.specs.declared.refused.BadProof.TheVariants.{Magic, Short, Range, Long}
use Rattle.proof_wire.specs.declared.refused.ProofRefused.{ProofRefused}
use Rattle.proof_wire.specs.declared.refused.ProofRefused.TheVariants.{Bad, Memory}
use Rattle.proof_wire.specs.Trouble.{InRange}
use Rattle.proof_two.specs.Spelling.{magic_two, element_count, length_two}

-- the bytes begin as a proof of version 2 does, as far as there are any
abbrev pub OpensTwo : List ℕ → Type 0
OpensTwo bytes = take 4 bytes ≡ take (length bytes) magic_two

-- the byte at this position is the first that is not that of a proof's beginning
pub record ForeignTwo (bytes : List ℕ) (at : ℕ) : Type 0 where
  pub early : at < 4
  pub there : at < length bytes
  pub before : take at bytes ≡ take at magic_two
  pub differs : get_or bytes at 0 ≢ get_or magic_two at 0

-- the bytes end before all coefficients are there, and those that are there are good
pub record EndsEarlyTwo (ks bytes : List ℕ) (at need : ℕ) : Type 0 where
  pub at_end : at ≡ length bytes
  pub whole : need ≡ length_two ks
  pub early : at < need
  pub opens : OpensTwo bytes
  pub good : (i : ℕ) → 12 + 8 * i ≤ length bytes → InRange bytes i

-- the coefficient that begins at this byte is the first that is out of range
pub record OutOfRangeTwo (ks bytes : List ℕ) (at : ℕ) : Type 0 where
  pub index : ℕ
  pub place : at ≡ 4 + 8 * index
  pub among : index < element_count (drop 1 ks)
  pub there : 12 + 8 * index ≤ length bytes
  pub opens : OpensTwo bytes
  pub good : (i : ℕ) → i < index → InRange bytes i
  pub bad : InRange bytes index → ⊥

-- all coefficients are there and good, and more bytes follow
pub record GoesOnTwo (ks bytes : List ℕ) (extra : ℕ) : Type 0 where
  pub some : 0 < extra
  pub after : length bytes ≡ length_two ks + extra
  pub opens : OpensTwo bytes
  pub good : (i : ℕ) → i < element_count (drop 1 ks) → InRange bytes i

-- the bytes begin with these coefficients after the first four bytes
pub record BeginWithTwo (elements : List K) (bytes : List ℕ) : Type 0 where
  pub spelled : take (4 + 8 * length elements) bytes ≡ magic_two ++ flat_map bytes_of elements
  pub good : (i : ℕ) → i < length elements → InRange bytes i

-- this is the first trouble of the bytes
abbrev pub TroubleIsTwo : List ℕ → List ℕ → BadProof → Type 0
TroubleIsTwo ks bytes (Magic at) = ForeignTwo bytes at
TroubleIsTwo ks bytes (Short at need) = EndsEarlyTwo ks bytes at need
TroubleIsTwo ks bytes (Range at) = OutOfRangeTwo ks bytes at
TroubleIsTwo ks bytes (Long extra) = GoesOnTwo ks bytes extra

-- a refusal names the first trouble, or says that no memory is left
abbrev pub RefusedForTwo : List ℕ → List ℕ → ProofRefused → Type 0
RefusedForTwo ks bytes (Bad trouble) = TroubleIsTwo ks bytes trouble
RefusedForTwo ks bytes Memory = Unit
