use Rattle.std.proofs.Common.{◌≡◌, ◌++◌, take}
use Rattle.std.specs.List.{flat_map}
use Rattle.field_ext.specs.Bytes.{bytes_of}
use Rattle.proof_two.specs.Spelling.{layer_elements, magic_two}
use Rattle.proof_two.proofs.encoding.encode_two.Given as goal

abbrev pub invariant-loop-layer : goal.invariant-loop-layer
invariant-loop-layer l = l.bytes.items ≡ magic_two ++ flat_map bytes_of (flat_map layer_elements (take l.layer-index l.pairs.layers))
