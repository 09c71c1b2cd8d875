-- A row has the nodes that its height needs
use Rattle.layer_compile.proofs.InRows as lemma
use Rattle.layer_compile.proofs.laws.rows_by_uses.Goals as goal

pub returns : goal.returns
returns c = lemma.rows_by_uses
