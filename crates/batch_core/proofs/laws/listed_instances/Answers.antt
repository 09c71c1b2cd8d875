use Rattle.batch_core.proofs.ListedValues.{listed_count, own_listed, outputs_listed, have_outputs}
use Rattle.batch_core.proofs.laws.listed_instances.Goals as goal

pub returns-clause-count : goal.returns-clause-count
returns-clause-count c = listed_count

pub returns-clause-own : goal.returns-clause-own
returns-clause-own c = own_listed

pub returns-clause-outputs : goal.returns-clause-outputs
returns-clause-outputs c = outputs_listed

pub returns-clause-as_many : goal.returns-clause-as_many
returns-clause-as_many c = have_outputs
