-- Bytes that were fed, and the elements read from them
use Rattle.std.specs.Prelude.{◌≡◌, ℕ, ◌*◌, ◌≤◌, List, length, take}
use Rattle.field_ext.specs.Field.{K}
use Rattle.live_session.specs.Elements.{leading}

-- bytes, of which at most `capacity` are kept, and at most `most` elements read
pub record Fed : Type 0 where
  pub most : ℕ
  pub capacity : ℕ
  pub bytes : List ℕ

-- the first `count` of the bytes were fed, and the first `good` elements are those that they begin with
pub record IsIntake (count good : ℕ) (bytes : List ℕ) (elements : List K) : Type 0 where
  pub kept : count ≤ length bytes
  pub enough : 8 * length elements ≤ length bytes
  pub known : good ≤ length elements
  pub read : take good elements ≡ leading (length elements) (take count bytes)
