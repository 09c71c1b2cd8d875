-- The jobs of parts, and what comes of them
use Rattle.std.proofs.Common.{◌≡◌, ℕ, ◌+◌, ◌<◌, List, [], ◌∷◌, ◌++◌, map, take, drop, length, get_or, refl, sym, ◌∙◌, ap, arith}
use Rattle.std.proofs.lemmas.List.{length-map, get_or-map}
use Rattle.field_ext.specs.Field.{K, k_ops}
use Rattle.field_ext.proofs.api.KLaws.{k_laws}
use Rattle.field_ext.specs.Polynomial.{coefficients, value_at}
use Rattle.field_ext.specs.Sums.{sum_below}
use Rattle.mle_table.proofs.api.SumLaws.{sum_below-same}
use Rattle.wiring_poly.proofs.api.Identity.{written_back}
use Rattle.round_tables.specs.LayerSum.{LayerSum, pieces_of, SumToPieces, next_poly}
use Rattle.table_parts.specs.PartTables.{PartTables, folded_part, part_sum}
use Rattle.table_parts.proofs.api.PairSums.{length-sum}
use Rattle.sumcheck_prove.specs.declared.jobs.Job.{Job}
use Rattle.sumcheck_prove.specs.Jobs.{job_of, round_of}
use Rattle.sumcheck_prove.proofs.Summing.{piece_value, whole_round}

pub both_mapped : {A B C : Type 0} (g : B → C) (f : A → B) (xs : List A) → map g (map f xs) ≡ map (λ x. g (f x)) xs
both_mapped g f [] = refl
both_mapped g f (x ∷ xs) = ap (λ l. g (f x) ∷ l) (both_mapped g f xs)

no_part : PartTables
no_part = record { table = []; scales = []; shifts = []; capacity = 0 }

module _ (r : K) (none : List K) (parts : List PartTables) (jobs : List Job) (is : jobs ≡ map (λ part. round_of (job_of r none part)) parts) where
  parts_left : map (λ (job : Job). job.part) jobs ≡ map (folded_part r) parts
  parts_left = ap (map (λ (job : Job). job.part)) is ∙ both_mapped (λ (job : Job). job.part) (λ part. round_of (job_of r none part)) parts

  -- taken out of the jobs, they are written where parts were
  pub handed_back : (items out : List PartTables) (len : ℕ) (lent : List Job) → length out ≡ len → out ≡ map (λ (job : Job). job.part) lent → lent ≡ jobs → take len (out ++ drop (length out) items) ≡ map (folded_part r) parts
  handed_back items out len lent size unloaded same = written_back items out len size ∙ unloaded ∙ ap (map (λ (job : Job). job.part)) same ∙ parts_left

  as_many : length jobs ≡ length parts
  as_many = ap length is ∙ length-map parts (λ part. round_of (job_of r none part))

  -- the sum of a job is that of the part that it leaves
  sum_at : (k : ℕ) → k < length jobs → get_or (map (λ (job : Job). job.sum) jobs) k [] ≡ part_sum (get_or (map (folded_part r) parts) k no_part)
  sum_at k u =
      let within : k < length (map (folded_part r) parts) = omega (arith, as_many, length-map parts (folded_part r), u) in
      ap (λ (l : List (List K)). get_or l k [])
      (ap (map (λ (job : Job). job.sum)) is
      ∙ both_mapped (λ (job : Job). job.sum) (λ part. round_of (job_of r none part)) parts
      ∙ sym (both_mapped part_sum (folded_part r) parts))
      ∙ get_or-map part_sum (map (folded_part r) parts) k no_part [] within

  pub three_at : (k : ℕ) → k < length jobs → length (get_or (map (λ (job : Job). job.sum) jobs) k []) ≡ 3
  three_at k u = ap length (sum_at k u) ∙ length-sum (get_or (map (folded_part r) parts) k no_part)

  -- where the parts that are left sum to the pieces of a round, all sums add to the round's message
  pub whole_message : (s : LayerSum) → length parts ≡ pieces_of s → SumToPieces s (map (folded_part r) parts) → (q : List K) → length s.bound < s.k + s.k → length q ≡ 3 →
      ((e : K) → value_at k_ops q e ≡ sum_below k_ops (length jobs) (λ k. value_at k_ops (get_or (map (λ (job : Job). job.sum) jobs) k []) e)) → q ≡ coefficients k_ops 3 (next_poly s)
  whole_message s all each q left three value =
      whole_round s (length jobs) q left (as_many ∙ all) three (λ e.
      value e ∙ sum_below-same k_ops k_laws (length jobs) _ _ (λ k u. piece_value s k (get_or (map (λ (job : Job). job.sum) jobs) k []) e (sum_at k u ∙ each k no_part (omega (arith, as_many, all, u)))))
