use Rattle.field_ext.specs.Field.{k_ops}
use Rattle.field_ext.proofs.api.KLaws.{k_laws, k_same}
use Rattle.gkr_layers.proofs.SoundLayers.{sound_layers}
use Rattle.gkr_layers.proofs.laws.sound_layers.Goals as goal

pub returns : goal.returns
returns c = λ form. sound_layers k_ops k_laws k_same form
