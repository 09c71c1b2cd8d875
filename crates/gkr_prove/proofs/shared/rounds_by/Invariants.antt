-- The messages so far are honest
use Rattle.std.proofs.Common.{◌≡◌, ◌+◌, ◌-◌, IfSome, IsTrue}
use Rattle.sumcheck_prove.specs.Ahead.{IsNextMessage}
use Rattle.gkr_prove.specs.Rounds.{AreBegun}
use Rattle.gkr_prove.proofs.shared.rounds_by.Given as goal

abbrev pub invariant-loop-number : goal.invariant-loop-number
invariant-loop-number g l = record {
  all : l.count ≡ l.fn.tables.k + l.fn.tables.k;
  tables : l.tables ≡ record l.fn.tables { bound = l.drawn.items };
  begun : AreBegun g.C.Challenges.source l.fn.tables (g.C.Challenges.state l.fn.challenges) l._number l.messages.items l.drawn.items (g.C.Challenges.state l.challenges);
  has : IsTrue (g.C.Challenges.source.has (g.C.Challenges.state l.challenges) (l.count - l._number));
  ahead : IfSome l.ahead (IsNextMessage l.tables);
  gather : l.gather ≡ l.fn.gather;
}
