use Rattle.std.proofs.Common.{◌≡◌, ◌++◌, take}
use Rattle.std.specs.List.{flat_map}
use Rattle.field_ext.specs.Bytes.{bytes_of}
use Rattle.proof_wire.specs.Forms.{magic}
use Rattle.proof_wire.specs.Spelling.{layer_coefficients}
use Rattle.proof_wire.proofs.encoding.encode_as.Given as goal

abbrev pub invariant-loop-layer : goal.invariant-loop-layer
invariant-loop-layer l = l.bytes.items ≡ magic l.fn.form ++ flat_map bytes_of (flat_map layer_coefficients (take l.layer-index l.messages.layers))
