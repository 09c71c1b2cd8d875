-- A word that isn't whole.
use Rattle.std.proofs.Common.{◌≡◌, ℕ, ◌<◌, List, [], ◌∷◌, length, drop, Err, arith}
use Rattle.std.proofs.lemmas.List.{at_drop_more}
use Rattle.text_parts.specs.declared.due.DueKind.{DueKind}
use Rattle.text_parts.specs.declared.due.DueKind.TheVariants.{End}
use Rattle.text_parts.specs.Parts.{stopped, word_at}

-- nothing is left, and the word isn't at its end
pub word_ends : (kind : DueKind) (word rest : List ℕ) (i : ℕ) → i < length word → length rest < 1 → word_at kind (drop i word) rest ≡ Err (stopped End rest)
unfolding word_at
word_ends kind word [] i lt h = at_drop_more (λ (w : List ℕ). word_at kind w []) word i 0 lt
word_ends kind word (b ∷ rest) i lt h = absurd (omega arith)
