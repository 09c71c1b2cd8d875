-- The messages of the layers before are compared
use Rattle.std.proofs.Common.{◌≡◌}
use Rattle.proof_wire.specs.Lists.{all_messages}
use Rattle.audit_core.specs.Found.{IsFoundBelow}
use Rattle.audit_core.proofs.Flat.{first_number}
use Rattle.audit_core.proofs.comparing.compare.Given as goal

abbrev pub invariant-loop-layer : goal.invariant-loop-layer
invariant-loop-layer l = record {
  number : l.number ≡ first_number l.messages l.layer;
  other_number : l.number ≡ first_number l.truth l.layer;
  found : IsFoundBelow (all_messages l.messages) (all_messages l.truth) l.drawn l.number l.found;
}
