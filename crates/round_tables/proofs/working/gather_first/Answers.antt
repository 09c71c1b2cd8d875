-- The gates' operands are places of the values
use Rattle.std.proofs.Common.{ℕ, All, length, sym, ap, ◌∙◌, subst}
use Rattle.std.proofs.lemmas.List.{length-map}
use Rattle.field_ext.specs.Field.{embed_k}
use Rattle.circuit_core.specs.Parts.{IsOver}
use Rattle.round_tables.proofs.working.gather_first.Goals as goal

pub gather_left-requires-clause-in_range : goal.gather_left-requires-clause-in_range
gather_left-requires-clause-in_range c =
    let layer = c.requires.layer.layer_is in
    let size = sym (length-map c.args.values.now embed_k) ∙ ap length c.requires.values ∙ layer.size in
    subst (λ (n : ℕ). All (IsOver n) c.args.layer.now.gates.now) (sym size) layer.operands
