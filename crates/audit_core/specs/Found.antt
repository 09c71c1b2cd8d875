-- What is found in two lists of messages, those of a proof and the true ones
use Rattle.std.specs.Prelude.{◌≡◌, ℕ, ◌+◌, ◌<◌, List, [], length, slice_index_or}
use Rattle.field_ext.specs.Field.{K, k_ops, zero_k}
use Rattle.field_ext.specs.Polynomial.{value_at}
use Rattle.proof_wire.specs.declared.messages.LayerMessages.{LayerMessages}
use Rattle.audit_core.specs.declared.found.Found.{Found}
use Rattle.audit_core.specs.First.{NamesFirst}

-- message n differs
abbrev pub Differs : List (List K) → List (List K) → ℕ → Type 0
Differs qs ts n = ¬ (slice_index_or qs n [] ≡ slice_index_or ts n [])

-- message n differs, and has none the less the other's value at the challenge after it
abbrev pub Passes : List (List K) → List (List K) → List K → ℕ → Type 0
Passes qs ts rs n =
    let r = slice_index_or rs n zero_k in
    Differs qs ts n
    × (value_at k_ops (slice_index_or qs n []) r ≡ value_at k_ops (slice_index_or ts n []) r)

-- the first of each below `count`
pub record IsFoundBelow (qs ts : List (List K)) (rs : List K) (count : ℕ) (found : Found)
    : Type 0 where
  pub message : NamesFirst (Differs qs ts) count (λ n. n) found.message
  pub challenge : NamesFirst (Passes qs ts rs) count (λ n. n) found.challenge

-- a list is in another from place n on
abbrev pub IsAt : List (List K) → ℕ → List (List K) → Type 0
IsAt whole n part =
    (j : ℕ) → j < length part → slice_index_or whole (n + j) [] ≡ slice_index_or part j []

-- layers of messages of the same shape
pub record AreAlike (ms ns : List LayerMessages) : Type 0 where
  pub count : length ns ≡ length ms
  pub rounds : (i : ℕ) (d : LayerMessages) → i < length ms
      → length (slice_index_or ns i d).rounds ≡ length (slice_index_or ms i d).rounds
  pub lasts : (i : ℕ) (d : LayerMessages) → i < length ms
      → length (slice_index_or ns i d).last ≡ length (slice_index_or ms i d).last
