-- The instances that are listed have the values of the lists
use Rattle.std.proofs.Common.{◌≡◌, ℕ, zero, suc, ◌+◌, ◌*◌, ◌<◌, List, ◌++◌, length, take, sym, ◌∙◌, ap, arith}
use Rattle.std.proofs.Math.Seq.{take-add, take-length}
use Rattle.std.proofs.lemmas.List.FromFn.{get_or-map-range_with_len, length-map-range_with_len}
use Rattle.circuit_core.specs.Parts.{Parts}
use Rattle.batch_core.specs.declared.instances.Instances.{Instances}
use Rattle.batch_core.specs.Copies.{joined}
use Rattle.batch_core.specs.BatchClaim.{Instance, instance_at, HaveOutputs}
use Rattle.batch_core.specs.ListedInstances.{block, own_count, listed_instance, instances_of, AreInstancesOf}
use Rattle.batch_core.proofs.api.Joined.{joined-same}
use Rattle.batch_core.proofs.WeightedSums.{length-block}

-- blocks one after another are the front of the list
joined-blocks : {X : Type 0} (n size : ℕ) (xs : List X) → joined n (block size xs) ≡ take (n * size) xs
joined-blocks zero size xs = let none : 0 ≡ 0 * size = omega arith in ap (λ (k : ℕ). take k xs) none
joined-blocks (suc n) size xs =
    let more : n * size + size ≡ suc n * size = omega arith in
    ap (λ (ys : List _). ys ++ block size xs n) (joined-blocks n size xs) ∙ sym (take-add (n * size) size xs) ∙ ap (λ (k : ℕ). take k xs) more

all-joined : {X : Type 0} (n size : ℕ) (xs : List X) → length xs ≡ n * size → joined n (block size xs) ≡ xs
all-joined n size xs s = joined-blocks n size xs ∙ ap (λ (k : ℕ). take k xs) (sym s) ∙ take-length xs

module _ (p : Parts) (listed : Instances) where
  pub listed_count : length (instances_of p listed) ≡ listed.count
  listed_count = length-map-range_with_len (listed_instance p listed) 0 listed.count

  pub instance_listed : (m : ℕ) → m < listed.count → instance_at (instances_of p listed) m ≡ listed_instance p listed m
  instance_listed m u = get_or-map-range_with_len (listed_instance p listed) 0 listed.count m m _ u (omega arith)

  pub own_listed : AreInstancesOf p listed → joined listed.count (λ m. (instance_at (instances_of p listed) m).own) ≡ listed.own.now
  own_listed are =
      joined-same listed.count _ (block (own_count p listed) listed.own.now) (λ m u. ap (λ (i : Instance). i.own) (instance_listed m u))
      ∙ all-joined listed.count (own_count p listed) listed.own.now are.own

  pub outputs_listed : AreInstancesOf p listed → joined listed.count (λ m. (instance_at (instances_of p listed) m).outputs) ≡ listed.outputs.now
  outputs_listed are =
      joined-same listed.count _ (block p.outputs listed.outputs.now) (λ m u. ap (λ (i : Instance). i.outputs) (instance_listed m u))
      ∙ all-joined listed.count p.outputs listed.outputs.now are.outputs

  pub have_outputs : AreInstancesOf p listed → HaveOutputs p (instances_of p listed)
  have_outputs are m u =
      let inside : m < listed.count = omega (arith, u, listed_count) in
      ap (λ (i : Instance). length i.outputs) (instance_listed m inside) ∙ length-block m listed.count p.outputs listed.outputs.now inside are.outputs
