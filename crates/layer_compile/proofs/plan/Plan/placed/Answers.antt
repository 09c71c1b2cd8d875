-- The operands of a node are below its level
use Rattle.std.proofs.Common.{◌∙◌, sym, ap, arith}
use Rattle.layer_compile.specs.Circuits.{placed}
use Rattle.layer_compile.proofs.LevelsOf.{operation_read}
use Rattle.layer_compile.proofs.Standing.{operands_stand}
use Rattle.layer_compile.proofs.plan.Plan.placed.Goals as goal

pub bounds-places-gate : goal.bounds-places-gate
bounds-places-gate c =
    let list = c.args.self.now.list.now in
    let k = c.args.k in
    let gate = c.in-Operation.gate in
    let is = operation_read list c.nodes.result.now k c.index-nodes-k.result gate c.nodes.ensures.value c.requires.node.within c.index-nodes-k.is c.in-Operation.is in
    let below = operands_stand list c.nodes.ensures.fine c.args.height k gate c.requires.node c.requires.own is in
    omega (arith, below.0.0, c.requires.capacity)

pub bounds-places-gate-in-Operation : goal.bounds-places-gate-in-Operation
bounds-places-gate-in-Operation c =
    let list = c.args.self.now.list.now in
    let k = c.args.k in
    let gate = c.in-Operation.gate in
    let is = operation_read list c.nodes.result.now k c.index-nodes-k.result gate c.nodes.ensures.value c.requires.node.within c.index-nodes-k.is c.in-Operation.is in
    let below = operands_stand list c.nodes.ensures.fine c.args.height k gate c.requires.node c.requires.own is in
    omega (arith, below.1.0, c.requires.capacity)

pub returns-in-Operation : goal.returns-in-Operation
returns-in-Operation c =
    let list = c.args.self.now.list.now in
    let k = c.args.k in
    let height = c.args.height in
    let gate = c.in-Operation.gate in
    let is = operation_read list c.nodes.result.now k c.index-nodes-k.result gate c.nodes.ensures.value c.requires.node.within c.index-nodes-k.is c.in-Operation.is in
    let below = operands_stand list c.nodes.ensures.fine height k gate c.requires.node c.requires.own is in
    let left = c.requires.places.each gate.left below.0.0 below.0.1 in
    let right = c.requires.places.each gate.right below.1.0 below.1.1 in
    (λ i. record { kind = gate.kind; left = left i; right = right i }) ∙ ap (placed list height) (sym is)
