-- The bytes of the elements so far
use Rattle.std.proofs.Common.{◌≡◌, ◌++◌, take}
use Rattle.std.specs.List.{flat_map}
use Rattle.field_ext.specs.Bytes.{bytes_of}
use Rattle.live_session.proofs.course.send_elements.Given as goal

abbrev pub invariant-loop-element : goal.invariant-loop-element
invariant-loop-element l = l.sent.items ≡ l.fn.sent.items ++ flat_map bytes_of (take l.element-index l.elements)
