-- What a case contains.
use Rattle.std.specs.Prelude.{ℕ, ◌≤◌, List, length, Option, IfSome}
use Rattle.field_ext.specs.Field.{F}
use Rattle.arr_ast.specs.declared.lang.Lang.{Lang}

pub record Content : Type 0 where
  pub lang : Lang
  pub program : List ℕ
  pub inputs : List F
  pub outputs : Option (List F)
  pub proof : Option (List ℕ)

-- No more values than a line may have.
abbrev pub AreValues : List F → Type 0
AreValues values = length values ≤ 262144

-- What has a text.
pub record Fits (c : Content) : Type 0 where
  pub program : length c.program ≤ 65536
  pub inputs : AreValues c.inputs
  pub outputs : IfSome c.outputs AreValues
  pub proof : IfSome c.proof (λ proof. length proof ≤ 2000000)
