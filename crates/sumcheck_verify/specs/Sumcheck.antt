-- The verifier's side of a sumcheck, between its rounds
use Rattle.std.specs.Prelude.{ℕ, ◌+◌, ◌-◌, ◌^◌, min, List, Bool}
use Rattle.field_ext.specs.Field.{K}
use Rattle.field_ext.specs.Ring.{Ops}

-- the claim as it is, the last message, whether it waits for its challenge, and how many messages were taken
pub record Sumcheck : Type 0 where
  pub claim : K
  pub message : List K
  pub waiting : Bool
  pub taken : ℕ

-- one more, up to the greatest number of 64 bits
abbrev pub counted : ℕ → ℕ
counted n = min (n + 1) (2 ^ 64 - 1)

module _ {A : Type 0} (o : Ops A) where
  infixl 65 ◌⊕◌
  infix 75 ⊖◌
  open o use {add as ◌⊕◌, neg as ⊖◌}

  -- the coefficient of X that a claim leaves: the values at 0 and at 1 are c0 and c0 + c1 + c2, and add to the claim
  abbrev pub middle_for : A → A → A → A
  middle_for claim c0 c2 = claim ⊕ ⊖ c0 ⊕ ⊖ c0 ⊕ ⊖ c2
