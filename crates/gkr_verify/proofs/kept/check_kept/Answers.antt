use Rattle.std.proofs.Common.{rules}
use Rattle.gkr_verify.proofs.kept.check_kept.Goals as goal

pub coordinates-requires : goal.coordinates-requires
coordinates-requires g c = search rules

pub place_kept-place-requires : goal.place_kept-place-requires
place_kept-place-requires g c = search rules

pub overflow_add-layer : goal.overflow_add-layer
overflow_add-layer g c = search rules

pub coordinates-k-requires : goal.coordinates-k-requires
coordinates-k-requires g c = search rules

pub overflow_mul-k : goal.overflow_mul-k
overflow_mul-k g c = search rules

pub split_at_mut-drawn-requires : goal.split_at_mut-drawn-requires
split_at_mut-drawn-requires g c = search rules

pub check_layer-requires-clause-layer : goal.check_layer-requires-clause-layer
check_layer-requires-clause-layer g c = search rules

pub check_layer-requires-clause-wiring : goal.check_layer-requires-clause-wiring
check_layer-requires-clause-wiring g c = search rules

pub check_layer-requires-clause-shape : goal.check_layer-requires-clause-shape
check_layer-requires-clause-shape g c = search rules

pub check_layer-requires-clause-drawn : goal.check_layer-requires-clause-drawn
check_layer-requires-clause-drawn g c = search rules

pub check_layer-requires-clause-has : goal.check_layer-requires-clause-has
check_layer-requires-clause-has g c = search rules

pub both_followed-drawn : goal.both_followed-drawn
both_followed-drawn g c = search rules

pub slice_back_joined-drawn : goal.slice_back_joined-drawn
slice_back_joined-drawn g c = search rules

pub returns-in_err-next-clause-holds : goal.returns-in_err-next-clause-holds
returns-in_err-next-clause-holds g c = search rules

pub returns-in_err-next-clause-state : goal.returns-in_err-next-clause-state
returns-in_err-next-clause-state g c = search rules

pub returns-in_err-next-clause-fails : goal.returns-in_err-next-clause-fails
returns-in_err-next-clause-fails g c = search rules

pub split_at-requires : goal.split_at-requires
split_at-requires g c = search rules

pub keep_place-requires-clause-end : goal.keep_place-requires-clause-end
keep_place-requires-clause-end g c = search rules

pub keep_place-requires-clause-capacity : goal.keep_place-requires-clause-capacity
keep_place-requires-clause-capacity g c = search rules

pub both_followed-drawn-2 : goal.both_followed-drawn-2
both_followed-drawn-2 g c = search rules

pub slice_back_joined-drawn-2 : goal.slice_back_joined-drawn-2
slice_back_joined-drawn-2 g c = search rules

pub returns-clause-state : goal.returns-clause-state
returns-clause-state g c = search rules

pub returns-clause-fails : goal.returns-clause-fails
returns-clause-fails g c = search rules
