-- The rounds before are compared
use Rattle.std.proofs.Common.{◌+◌, List}
use Rattle.field_ext.specs.Field.{K}
use Rattle.proof_wire.specs.Lists.{messages_of}
use Rattle.audit_core.specs.Found.{IsFoundBelow, IsAt}
use Rattle.audit_core.proofs.comparing.compare_layer.Given as goal

abbrev pub invariant-loop-j : goal.invariant-loop-j
invariant-loop-j l =
    (qs ts : List (List K)) → IsFoundBelow qs ts l.drawn l.number l.fn.before → IsAt qs l.number (messages_of l.messages) → IsAt ts l.number (messages_of l.truth) →
    IsFoundBelow qs ts l.drawn (l.number + l.j) l.found
