-- More pairs than parts are more pairs than one a part
use Rattle.std.proofs.Common.{rules, ◌-◌, ◌<◌, IsTrue, length, nat_lt, arith, lt-ltb}
use Rattle.std.proofs.lemmas.Bool.{ltb-true}
use Rattle.round_tables.specs.LayerSum.{left_in_phase, piece_pairs}
use Rattle.table_parts.specs.PartTables.{cuts_left}
use Rattle.round_tables.proofs.PhaseSteps.{more-left}
use Rattle.round_tables.proofs.LaidOut.{more-pairs, more-than-one}
use Rattle.round_tables.proofs.gate_tables.GateTables.stays_in_parts.Goals as goal

pub returns-then-not-ends_first : goal.returns-then-not-ends_first
returns-then-not-ends_first c =
    let s = c.args.self.now in
    let m = left_in_phase s.k (length s.bound) in
    let pairs : IsTrue (nat_lt c.pieces.result c.pairs.result) → 1 < piece_pairs c.args.self.now = λ more.
    more-than-one (m - 1) (cuts_left s.k m) (omega (arith, ltb-true c.pieces.result c.pairs.result more, c.pairs.ensures, c.pieces.ensures)) in
    record {
      stays = λ more. ((λ e. search (c.ends_first.ensures.1 e, c.if-not-ends_first.true, rules)), pairs more);
      always = λ stays. lt-ltb c.pieces.result c.pairs.result (omega (arith, more-pairs (m - 1) (cuts_left s.k m) stays.1, c.pairs.ensures, c.pieces.ensures));
      left = λ more. more-left s.k (length s.bound) c.requires.left (pairs more);
    }
