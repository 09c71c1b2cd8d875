use Rattle.layer_compile.proofs.WiderLimits.{wider_fits}
use Rattle.layer_compile.proofs.laws.wider_fits.Goals as goal

pub returns : goal.returns
returns c = wider_fits
