use Rattle.case_prove.proofs.AcceptedOutputs as accepted
use Rattle.case_prove.proofs.laws.sound.Goals as goal

pub returns : goal.returns
returns c =
    accepted.sound
    (record {
      inputs = c.circuit_computes.ensures.inputs;
      computes = c.circuit_computes.ensures.computes;
      faultless = c.circuit_is_sound.ensures.faultless;
      has_output = c.circuit_is_sound.ensures.has_output;
      lists = c.sound.ensures.lists;
      draws = c.sound.ensures.draws;
    })
