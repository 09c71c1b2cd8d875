-- Pieces of bytes, one after another
use Rattle.std.proofs.Common.{◌≡◌, ℕ, zero, suc, ◌+◌, ◌*◌, List, [], ◌∷◌, ◌++◌, length, take, if◌then◌else◌, ◌==◌, refl, sym, ◌∙◌, ap, append-nil, append_assoc}
use Rattle.std.specs.List.{flat_map}
use Rattle.std.proofs.lemmas.List.Concat.{flat_map-cons}
use Rattle.field_ext.specs.Bytes.{bytes_of}
use Rattle.circuit_core.specs.Sound.{exponent_at}
use Rattle.gkr_layers.specs.Acceptance.{claim_of, verdict_of}
use Rattle.live_session.specs.Layout.{messages_in, sizes_of, whole}
use Rattle.live_session.specs.Verifying.{Session, element_count, fed_all, joined, kept, last_byte, lower, progress_in, verifier_sent}
use Rattle.live_session.proofs.api.VerifierSteps.{kept_elements, progress_kept}

-- what is left out of a prefix is left out with more after it
take-kept : (n : ℕ) (xs ys : List ℕ) → take n (take n xs ++ ys) ≡ take n (xs ++ ys)
take-kept zero xs ys = refl
take-kept (suc n) [] ys = refl
take-kept (suc n) (x ∷ xs) ys = ap (λ (zs : List ℕ). x ∷ zs) (take-kept n xs ys)

-- what is kept of two pieces
pub two_pieces : (s : Session) (a b : List ℕ) → kept (joined (kept (joined s a)) b) ≡ kept (joined s (a ++ b))
two_pieces s a b =
    let n = 8 * element_count s.parts + 1 in
    ap (λ (bytes : List ℕ). record s { bytes = bytes }) (take-kept n (s.bytes ++ a) b ∙ ap (take n) (append_assoc s.bytes a b))

pub one_state : (s : Session) (pieces : List (List ℕ)) → kept (fed_all s pieces) ≡ kept (joined s (flat_map (λ piece. piece) pieces))
one_state s [] = ap (λ (bytes : List ℕ). kept (record s { bytes = bytes })) (sym (append-nil s.bytes))
one_state s (piece ∷ pieces) =
    one_state (kept (joined s piece)) pieces
    ∙ two_pieces s piece (flat_map (λ p. p) pieces)
    ∙ ap (λ (bytes : List ℕ). kept (joined s bytes)) (sym (flat_map-cons (λ p. p) piece pieces))

pub one_progress : (s : Session) (before more : List ℕ) → progress_in (joined (kept (joined s before)) more) ≡ progress_in (joined s (before ++ more))
one_progress s before more =
    sym (progress_kept (joined (kept (joined s before)) more)) ∙ ap progress_in (two_pieces s before more) ∙ progress_kept (joined s (before ++ more))

pub one_sent : (s : Session) → verifier_sent (kept s) ≡ verifier_sent s
one_sent s =
    let e = kept_elements s in
    λ i. flat_map bytes_of (take (exponent_at s.parts 0 + whole (sizes_of (lower s.parts)) (length (e i))) s.words)
    ++ (if length (e i) == element_count s.parts then last_byte (verdict_of (claim_of s.parts s.inputs s.outputs) (messages_in (lower s.parts) (e i)) s.words) ∷ [] else [])
