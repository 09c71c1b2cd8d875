use Rattle.arr_compile.proofs.TwoLanguages.{AreWider, keeps_programs, keeps_circuits}
use Rattle.arr_compile.proofs.laws.kept_in_two.Goals as goal

pub returns : goal.returns
returns c =
    let wider : AreWider = record {
      read = c.read_in_two.ensures.read;
      tree = c.read_in_two.ensures.tree;
      accepted = c.accepted_in_two.ensures;
      meaning_is = c.same_meaning.ensures;
      nodes_are = c.same_nodes.ensures;
      fits = c.wider_fits.ensures;
    } in
    record { programs = keeps_programs wider; circuits = keeps_circuits wider }
