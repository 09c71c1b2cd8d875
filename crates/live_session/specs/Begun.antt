-- A step of a prover
use Rattle.std.specs.Prelude.{◌≡◌, ℕ, ◌+◌, List, length, take, drop, if◌then◌else◌, nat_lt}
use Rattle.field_ext.specs.Field.{K, k_ops}
use Rattle.field_ext.specs.Polynomial.{coefficients}
use Rattle.gkr_layers.specs.Forms.{last_polynomial}
use Rattle.proof_wire.specs.Forms.{last_degree}
use Rattle.proof_wire.specs.declared.form.ProofForm.TheVariants.{Line}
use Rattle.round_tables.specs.LayerSum.{LayerSum, next_poly}
use Rattle.live_session.specs.declared.course.Course.{Course}
use Rattle.live_session.specs.declared.course.Stage.{Stage}
use Rattle.live_session.specs.declared.course.Stage.TheVariants.{Before, Within, After}

-- the message due of a layer's tables: that of the next round, or after the last one that of the line
abbrev pub message_due : LayerSum → List K
message_due s =
    if nat_lt (length s.bound) (s.k + s.k) then coefficients k_ops 3 (next_poly s)
    else coefficients k_ops (last_degree Line s.k + 1)
    (last_polynomial k_ops Line s.values (take s.k s.bound) (drop s.k s.bound))

-- the prover is within a layer, with these tables
abbrev pub HasTables : LayerSum → Stage → Type 0
HasTables s (Before buffers) = ⊥
HasTables s (Within tables) = tables ≡ s
HasTables s After = ⊥

pub record IsIn (layer base : ℕ) (tables : LayerSum) (sent : List ℕ) (course : Course)
    : Type 0 where
  pub layer_is : course.layer ≡ layer
  pub base_is : course.base ≡ base
  pub stage_is : HasTables tables course.stage
  pub sent_is : course.sent.items ≡ sent
