-- The bytes before, and those for which there is capacity
use Rattle.std.proofs.Common.{◌≡◌, ◌+◌, ◌-◌, ◌*◌, ◌++◌, List, ℕ, length, take, drop, min, sym, ◌∙◌, ap, arith, length-take}
use Rattle.std.proofs.lemmas.List.{with_items_is}
use Rattle.live_session.specs.Elements.{leading}
use Rattle.live_session.specs.Intake.{Fed}
use Rattle.live_session.proofs.IntakeSteps.{kept_more, read_before}
use Rattle.live_session.proofs.intake.Intake.feed.Goals as goal

pub read_elements-self-inside-requires-clause-read : goal.read_elements-self-inside-requires-clause-read
read_elements-self-inside-requires-clause-read c =
    let a = c.self.inside in
    let m : ℕ = c.self.inside.count + length c.split_at.result.0.now in
    let size : length c.put.new.bytes ≡ c.self.inside.bytes.len = c.put.auto.bytes ∙ c.deref_mut.ensures.len in
    let joined : take (c.self.inside.count + length c.split_at.result.0.now) c.deref.result.now ≡ take c.self.inside.count c.self.inside.bytes.items ++ c.split_at.result.0.now =
    ap (take m) (c.deref.ensures.value ∙ with_items_is a.bytes c.put.new.bytes size) ∙ c.put.ensures ∙ ap (λ (xs : List ℕ). take a.count xs ++ c.split_at.result.0.now) c.deref_mut.ensures.value in
    coe 0 1 (j. leading (length (sym c.deref_mut-2.ensures.value j)) (sym joined j) ≡ take a.good (sym c.deref_mut-2.ensures.value j) ++ leading (length (sym c.deref_mut-2.ensures.value j) - a.good) (drop (8 * a.good) (sym joined j)))
    (read_before a.count a.good a.bytes.items a.elements.items c.split_at.result.0.now c.self.invariant)

pub returns : goal.returns
returns c =
    let a = c.self.inside in
    let more : List ℕ = c.args.more.now in
    let m : ℕ = c.self.inside.count + length c.split_at.result.0.now in
    let size : length c.put.new.bytes ≡ c.self.inside.bytes.len = c.put.auto.bytes ∙ c.deref_mut.ensures.len in
    let same : length c.read_elements-self-inside.new.elements ≡ c.self.inside.elements.len = c.read_elements-self-inside.auto.elements ∙ c.deref_mut-2.ensures.len in
    let before : length (take c.self.inside.count c.self.inside.bytes.items) ≡ c.self.inside.count = omega (arith, length-take c.self.inside.count c.self.inside.bytes.items, c.self.invariant.kept) in
    let kept : c.split_at.result.0.now ≡ take (min (length c.self.inside.bytes.items - c.self.inside.count) (length c.args.more.now)) c.args.more.now =
    c.split_at.ensures.front ∙ ap (λ (n : ℕ). take n more) (omega (arith, c.min.ensures, c.len.ensures, a.bytes.ok.0)) in
    (λ i. record {
      most = (ap length (with_items_is a.elements c.read_elements-self-inside.new.elements same) ∙ same ∙ a.elements.ok.0) i;
      capacity = (ap length (with_items_is a.bytes c.put.new.bytes size) ∙ size ∙ a.bytes.ok.0) i;
      bytes = (ap (take m) (with_items_is a.bytes c.put.new.bytes size) ∙ c.put.ensures ∙ ap (λ (xs : List ℕ). take a.count xs ++ c.split_at.result.0.now) c.deref_mut.ensures.value
          ∙ ap (λ (xs : List ℕ). take a.count a.bytes.items ++ xs) kept ∙ kept_more (take a.count a.bytes.items) more a.count (length a.bytes.items) c.self.invariant.kept before) i;
    })
    ∙ ap (λ (f : Fed). record { most = f.most; capacity = f.capacity; bytes = take f.capacity (f.bytes ++ more) }) c.self.view_is
