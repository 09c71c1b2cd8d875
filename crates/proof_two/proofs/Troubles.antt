-- Bytes that spell messages of the shape have no trouble.
use Rattle.std.proofs.Common.{◌≡◌, ℕ, ◌<◌, List, get_or, drop, sym, subst, arith, refl, ◌++◌}
use Rattle.std.specs.List.{flat_map}
use Rattle.field_ext.specs.Bytes.{bytes_of}
use Rattle.std.proofs.lemmas.List.{get_or_append_left}
use Rattle.proof_wire.specs.declared.refused.BadProof.{BadProof}
use Rattle.proof_wire.specs.declared.refused.BadProof.TheVariants.{Magic, Short, Range, Long}
use Rattle.proof_wire.specs.declared.refused.ProofRefused.{ProofRefused}
use Rattle.proof_wire.specs.declared.refused.ProofRefused.TheVariants.{Bad, Memory}
use Rattle.proof_two.specs.declared.pairs.Pairs.{Pairs}
use Rattle.proof_two.specs.Spelling.{all_elements, magic_two, spelling_two}
use Rattle.proof_two.specs.Lists.{HavePairs}
use Rattle.proof_two.specs.Trouble.{RefusedForTwo, TroubleIsTwo}
use Rattle.proof_two.proofs.api.Lengths.{count_is, spelling_length}
use Rattle.proof_two.proofs.Reading.{spelled_in_range_two}

begins : (ys : List ℕ) (i : ℕ) → i < 4 → get_or (magic_two ++ ys) i 0 ≡ get_or magic_two i 0
begins ys i h = get_or_append_left magic_two ys 0 i h

pub faultless : (ks : List ℕ) (m : Pairs) (trouble : BadProof) → HavePairs (drop 1 ks) m.layers → TroubleIsTwo ks (spelling_two m) trouble → ⊥
faultless ks m (Magic at) a t = t.differs (begins (flat_map bytes_of (all_elements m.layers)) at t.early)
faultless ks m (Short at need) a t = omega (arith, t.at_end, t.whole, t.early, spelling_length ks m a)
faultless ks m (Range at) a t = t.bad (spelled_in_range_two (all_elements m.layers) t.index (subst (λ n. t.index < n) (sym (count_is (drop 1 ks) m.layers a)) t.among))
faultless ks m (Long extra) a t = omega (arith, t.some, t.after, spelling_length ks m a)

pub only_memory : (ks : List ℕ) (m : Pairs) (bytes : List ℕ) (e : ProofRefused) → HavePairs (drop 1 ks) m.layers → bytes ≡ spelling_two m → RefusedForTwo ks bytes e → e ≡ Memory
only_memory ks m bytes (Bad trouble) a s t = absurd (faultless ks m trouble a (subst (λ ys. TroubleIsTwo ks ys trouble) s t))
only_memory ks m bytes Memory a s t = refl
