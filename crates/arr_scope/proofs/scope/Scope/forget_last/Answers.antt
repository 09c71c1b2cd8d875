use Rattle.std.proofs.Common.{None, get_or, sym, ap, ◌∙◌}
use Rattle.arr_scope.proofs.Places.{only_forgotten, again_forgotten, equal_place, other_place}
use Rattle.arr_scope.proofs.scope.Scope.forget_last.Goals as goal

pub invariant_of-self : goal.invariant_of-self
invariant_of-self g c = λ long.
    only_forgotten c.self.inside.places.items c.set_place.new.places.items c.self.inside.names.items c.pop.new.self.items c.in-Some.name c.in-Some.field-0-1 c.len-place.result (c.self.invariant long)
    c.in-Some.ensures.items (c.len-place.ensures ∙ c.pop.new.self.ok.0)
    (ap (λ places. get_or places c.in-Some.name None) (sym c.deref.ensures.value) ∙ sym c.place_at.ensures ∙ equal_place c.place_at.result c.len-place.result (sym c.eq.ensures ∙ c.if-eq.true))
    c.set_place.ensures

pub invariant_of-self-else-eq : goal.invariant_of-self-else-eq
invariant_of-self-else-eq g c = λ long.
    again_forgotten c.self.inside.places.items c.self.inside.names.items c.pop.new.self.items c.in-Some.name c.in-Some.field-0-1 c.len-place.result (c.self.invariant long)
    c.in-Some.ensures.items (c.len-place.ensures ∙ c.pop.new.self.ok.0)
    (λ e. other_place c.place_at.result c.len-place.result (sym c.eq.ensures ∙ c.if-eq.false) (c.place_at.ensures ∙ ap (λ places. get_or places c.in-Some.name None) c.deref.ensures.value ∙ e))
