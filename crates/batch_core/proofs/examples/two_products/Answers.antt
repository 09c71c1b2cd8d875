use Rattle.batch_core.proofs.Worked.{products_exponent, products_layers, products_inputs, products_claimed}
use Rattle.batch_core.proofs.examples.two_products.Goals as goal

pub returns-clause-outputs : goal.returns-clause-outputs
returns-clause-outputs c = products_exponent

pub returns-clause-layers : goal.returns-clause-layers
returns-clause-layers c = products_layers

pub returns-clause-inputs : goal.returns-clause-inputs
returns-clause-inputs c = products_inputs

pub returns-clause-claimed : goal.returns-clause-claimed
returns-clause-claimed c = products_claimed
