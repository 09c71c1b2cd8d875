-- One zero more
use Rattle.std.proofs.Common.{rules, ◌++◌, [], ◌∷◌, List, append-nil, sym, ◌∙◌, ap, arith}
use Rattle.field_ext.specs.Field.{K}
use Rattle.table_parts.specs.Columns.{zeros}
use Rattle.table_parts.proofs.Columns.{zeros-more}
use Rattle.table_parts.proofs.column.push_zeros.Goals as goal

pub loop-init : goal.loop-init
loop-init c = record { items = sym (append-nil c.args.values.now.items); len = omega arith; capacity = omega arith }

pub loop-preserved : goal.loop-preserved
loop-preserved c = record {
  items = c.in-Ok.ensures.items ∙ ap (λ (t : List K). t ++ c.zero.result ∷ []) c.loop.invariant.items ∙ ap (λ (x : K). (c.args.values.now.items ++ zeros c.loop.counter) ++ x ∷ []) c.zero.ensures ∙ zeros-more c.args.values.now.items c.loop.counter;
  len = search rules;
  capacity = search rules;
}
