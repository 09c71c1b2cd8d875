-- How many coefficients the line of a part has
use Rattle.std.proofs.Common.{◌≡◌, List, length}
use Rattle.field_ext.specs.Field.{K, k_ops}
use Rattle.gkr_layers.specs.Sumcheck.{line_polynomial}
use Rattle.gkr_layers.proofs.api.Coefficients.{length-coefficients}
use Rattle.line_reduce.specs.Parts.{part_coefficients, part_line}

pub length-part : (vs b c : List K) → length (part_line vs b c) ≡ part_coefficients
unfolding part_line
length-part vs b c = length-coefficients k_ops part_coefficients (line_polynomial k_ops vs b c)
