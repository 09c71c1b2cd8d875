use Rattle.std.proofs.Common.{◌≡◌, ◌++◌, drop}
use Rattle.case_text.specs.Replies.{layer_lines}
use Rattle.case_text.proofs.reply.put_layers.Given as goal

abbrev pub invariant-loop-layer : goal.invariant-loop-layer
invariant-loop-layer l = record {
  numbered : l.number ≡ l.layer-index;
  written : l.out.items ++ layer_lines l.number (drop l.layer-index l.layers) ≡ l.fn.out.items ++ layer_lines 0 l.layers;
}
