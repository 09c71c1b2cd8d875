use Rattle.std.proofs.Common.{sym, mod-eq_of_lt}
use Rattle.field_ext.proofs.api.Elements.{is_of}
use Rattle.field_ext.proofs.fp.Fp.made.Goals as goal

pub returns : goal.returns
returns c = is_of _ c.args.n (sym (mod-eq_of_lt c.requires))
