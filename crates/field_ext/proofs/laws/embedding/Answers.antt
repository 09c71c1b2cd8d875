use Rattle.field_ext.proofs.api.Embedding.{embed-add, embed-mul, embed-neg}
use Rattle.field_ext.proofs.laws.embedding.Goals as goal

pub returns-clause-sums : goal.returns-clause-sums
returns-clause-sums c = embed-add

pub returns-clause-products : goal.returns-clause-products
returns-clause-products c = embed-mul

pub returns-clause-opposites : goal.returns-clause-opposites
returns-clause-opposites c = embed-neg
