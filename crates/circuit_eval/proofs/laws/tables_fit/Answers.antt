-- The tables of a circuit's values have the sizes of its layers
use Rattle.std.proofs.Common.{length, ◌∙◌, ap, sym}
use Rattle.circuit_core.proofs.api.Sizes.{size_of}
use Rattle.circuit_eval.proofs.api.LayerTables.{length-table}
use Rattle.circuit_eval.proofs.laws.tables_fit.Goals as goal

pub returns : goal.returns
returns c = λ circuit inputs tables h. record {
  count = h.count;
  each = λ i u. ap length (h.each i u) ∙ length-table circuit inputs i u ∙ sym (size_of circuit i u).0;
}
