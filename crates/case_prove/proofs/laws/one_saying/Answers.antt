use Rattle.case_prove.proofs.OneSaying.{says_form, says_none, says_one, trouble_one}
use Rattle.case_prove.proofs.laws.one_saying.Goals as goal

pub returns-clause-form : goal.returns-clause-form
returns-clause-form c = says_form

pub returns-clause-reading : goal.returns-clause-reading
returns-clause-reading c = says_one

pub returns-clause-trouble : goal.returns-clause-trouble
returns-clause-trouble c = trouble_one

pub returns-clause-none : goal.returns-clause-none
returns-clause-none c = says_none
