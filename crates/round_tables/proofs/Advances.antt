-- The working tables after a round, where their parts were folded
use Rattle.std.proofs.Common.{◌≡◌, ◌≢◌, ℕ, ◌+◌, ◌-◌, ◌*◌, ◌^◌, ◌<◌, Bool, true, false, IsTrue, List, [], ◌∷◌, ◌++◌, length, map, take, set, vec_len, All, if◌then◌else◌, ◌==◌, refl, sym, ◌∙◌, ap, arith, subst}
use Rattle.std.proofs.lemmas.Bool.Decides.{nat_tests}
use Rattle.std.proofs.lemmas.List.{length-map, take_more_set}
use Rattle.std.proofs.lemmas.List.Elements.{All-map}
use Rattle.std.proofs.lemmas.Nat.{pow-add}
use Rattle.field_ext.specs.Field.{K}
use Rattle.table_parts.specs.PartTables.{PartTables, HasCapacity, folded_part, cuts}
use Rattle.round_tables.specs.declared.working.Working.{Working}
use Rattle.round_tables.specs.Working.{bound_of, parts_of, HasCapacities, AreSameCapacities, AreFolded}

pub is-true : (b : Bool) → b ≡ true → IsTrue b
is-true b e = e

pub in-one-part : (w : Working) → w.merged ≡ true → parts_of w ≡ w.one.items
in-one-part w e = ap (λ (b : Bool). if b then w.one.items else w.many.items) e

pub in-many-parts : (w : Working) → w.merged ≡ false → parts_of w ≡ w.many.items
in-many-parts w e = ap (λ (b : Bool). if b then w.one.items else w.many.items) e

-- several parts in use aren't the one
pub spread-many : (k : ℕ) (w : Working) → HasCapacities k w → 1 < length (parts_of w) → w.merged ≡ false
spread-many k w capacities more = on w.merged refl where
  on : (b : Bool) → w.merged ≡ b → w.merged ≡ false
  on false e = e
  on true e = absurd (omega (arith, ap length (in-one-part w e), capacities.one))

-- all values are in parts
pub whole-parts : (k : ℕ) → 2 ^ cuts k * 2 ^ (k - cuts k) ≡ 2 ^ k
whole-parts k = let e : cuts k + (k - cuts k) ≡ k = omega arith in sym (pow-add 2 (cuts k) (k - cuts k)) ∙ ap (λ (x : ℕ). 2 ^ x) e

-- folded parts have the capacities that they had
pub capacities-folded : (k : ℕ) (old new : Working) (r : K) → HasCapacities k old → AreFolded old r new → HasCapacities k new
capacities-folded k old new r capacities is = let o = is.others in on old.merged refl where
  capacity-kept : (n : ℕ) (ps : List PartTables) → All (HasCapacity n) ps → All (HasCapacity n) (map (folded_part r) ps)
  capacity-kept n ps h = All-map (HasCapacity n) (folded_part r) ps (λ i d u. h i d u)

  on : (b : Bool) → old.merged ≡ b → HasCapacities k new
  on true e =
      let now : new.one.items ≡ map (folded_part r) old.one.items = sym (in-one-part new (is.others.merged ∙ e)) ∙ is.parts ∙ ap (map (folded_part r)) (in-one-part old e) in
      let same : new.many.items ≡ old.many.items = ap (λ v. v.items) (is.others.many e) in record {
        challenges = ap vec_len is.others.challenges ∙ capacities.challenges;
        scales = ap vec_len is.others.scales ∙ capacities.scales;
        shifts = ap vec_len is.others.shifts ∙ capacities.shifts;
        many = ap length same ∙ capacities.many;
        many_capacity = subst (All (HasCapacity (2 ^ (k - cuts k)))) (sym same) capacities.many_capacity;
        one = ap length now ∙ length-map old.one.items (folded_part r) ∙ capacities.one;
        one_capacity = subst (All (HasCapacity (2 ^ cuts k))) (sym now) (capacity-kept (2 ^ cuts k) old.one.items capacities.one_capacity);
      }
  on false e =
      let now : new.many.items ≡ map (folded_part r) old.many.items = sym (in-many-parts new (is.others.merged ∙ e)) ∙ is.parts ∙ ap (map (folded_part r)) (in-many-parts old e) in
      let same : new.one.items ≡ old.one.items = ap (λ v. v.items) (is.others.one e) in record {
        challenges = ap vec_len is.others.challenges ∙ capacities.challenges;
        scales = ap vec_len is.others.scales ∙ capacities.scales;
        shifts = ap vec_len is.others.shifts ∙ capacities.shifts;
        many = ap length now ∙ length-map old.many.items (folded_part r) ∙ capacities.many;
        many_capacity = subst (All (HasCapacity (2 ^ (k - cuts k)))) (sym now) (capacity-kept (2 ^ (k - cuts k)) old.many.items capacities.many_capacity);
        one = ap length same ∙ capacities.one;
        one_capacity = subst (All (HasCapacity (2 ^ cuts k))) (sym same) capacities.one_capacity;
      }

-- the challenges with one more
pub noted : (old self : Working) (r : K) (size : ℕ) → vec_len old.challenges ≡ size → old.count < size → AreSameCapacities old self → take (self.count + 1) (set self.challenges.items self.count r) ≡ bound_of old ++ r ∷ []
noted old self r size capacity u same =
    let len : length self.challenges.items ≡ size = sym self.challenges.ok.0 ∙ ap vec_len same.challenges ∙ capacity in
    take_more_set self.challenges.items self.count r (omega (arith, same.count))
    ∙ ap (λ (l : List K). l ++ r ∷ []) (λ i. take (same.count i) ((same.challenges i).items))

-- tests on numbers of challenges
pub same-number : (n k x : ℕ) → n ≡ k → x ≡ (if n == k then x else 0)
same-number n k x e = grind (arith, nat_tests)

pub other-number : (n k x : ℕ) → n ≢ k → 0 ≡ (if n == k then x else 0)
other-number n k x e = grind (arith, nat_tests)

pub gates-now : (n k x : ℕ) → n + 1 ≡ k → x ≡ (if n + 1 == k then x else 0)
gates-now n k x e = grind (arith, nat_tests)

pub no-gates : (n k x : ℕ) → n + 1 ≢ k → 0 ≡ (if n + 1 == k then x else 0)
no-gates n k x e = grind (arith, nat_tests)
