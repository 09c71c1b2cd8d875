-- 2 ^ k is even where k is not 0
use Rattle.std.proofs.Common.{arith, ap, ◌≡◌, ◌<◌, ℕ, vec_len}
use Rattle.std.proofs.Common.{◌∙◌, sym, ◌^◌}
use Rattle.std.proofs.Math.Nat.{sub-zero}
use Rattle.mle_table.specs.Shape.{TableValues}
use Rattle.mle_table.proofs.api.Steps.{even_power}
use Rattle.mle_table.proofs.table.Table.fold.Goals as goal

pub fold_values-requires : goal.fold_values-requires
fold_values-requires c =
    let k : c.self.inside.k ≡ c.args.self.now.k = ap (λ (v : TableValues). v.k) c.self.view_is in
    let pos : 0 < c.self.inside.k = omega (arith, k, c.requires) in
    even_power c.self.inside.k 0 (vec_len c.self.inside.values) pos (c.self.inside.whole ∙ ap (λ (n : ℕ). 2 ^ n) (sym (sub-zero c.self.inside.k)))
