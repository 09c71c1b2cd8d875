use Rattle.std.proofs.Common.{rules}
use Rattle.case_prove.proofs.read_proof.read_messages.Goals as goal

pub transcript_of-start-requires : goal.transcript_of-start-requires
transcript_of-start-requires c = search rules

pub read_lines-requires-clause-as_many : goal.read_lines-requires-clause-as_many
read_lines-requires-clause-as_many c = search rules

pub read_pairs-requires-clause-as_many : goal.read_pairs-requires-clause-as_many
read_pairs-requires-clause-as_many c = search rules

pub read_lines-requires-clause-start : goal.read_lines-requires-clause-start
read_lines-requires-clause-start c = search rules

pub returns-clause-start : goal.returns-clause-start
returns-clause-start c = search rules
