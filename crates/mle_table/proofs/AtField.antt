-- The law of folding at the field
use Rattle.std.proofs.Common.{◌≡◌, List, ◌∷◌}
use Rattle.field_ext.specs.Field.{K, k_ops}
use Rattle.field_ext.proofs.api.KLaws.{k_laws}
use Rattle.field_ext.specs.Multilinear.{extension_at, folded}
use Rattle.mle_table.proofs.api.Fold.{fold_law}

pub k_fold : (t us : List K) (r : K) → extension_at k_ops k_ops (λ x. x) (folded k_ops t r) us ≡ extension_at k_ops k_ops (λ x. x) t (r ∷ us)
k_fold = fold_law k_ops k_laws
