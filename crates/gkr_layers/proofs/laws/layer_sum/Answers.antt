use Rattle.field_ext.specs.Field.{k_ops}
use Rattle.field_ext.proofs.api.KLaws.{k_laws}
use Rattle.gkr_layers.proofs.api.PlaceSums.{place_sum}
use Rattle.gkr_layers.proofs.laws.layer_sum.Goals as goal

pub returns : goal.returns
returns c = λ k gates below j place. place_sum k_ops k_laws k gates below j place
