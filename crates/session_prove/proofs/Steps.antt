-- One piece more for either end
use Rattle.std.proofs.Common.{◌≡◌, ℕ, ◌+◌, ◌*◌, ◌≤◌, List, ◌++◌, length, take, drop, Option, Some, None, refl, sym, ◌∙◌, ap, ap₂, subst, arith, length-take}
use Rattle.std.proofs.Math.Seq.{take-add}
use Rattle.std.proofs.lemmas.List.{take_all, take-append-drop}
use Rattle.live_session.specs.Proving.{Proving, fed_more, stop_of}
use Rattle.live_session.specs.Stops.{IsStopFor}
use Rattle.live_session.specs.Verifying.{Session, element_count, joined, kept}
use Rattle.live_session.specs.declared.progress.LiveFault.{LiveFault}
use Rattle.live_session.specs.declared.progress.ProverStop.{ProverStop}
use Rattle.live_session.specs.declared.progress.ProverStop.TheVariants.{Extra, Memory, Range}
use Rattle.live_session.proofs.api.ProverSteps.{stop_stays}

-- the bytes that were taken, and so many more, are the first of all
more-taken : (sent before more : List ℕ) (taken count : ℕ) → before ≡ take taken sent → more ≡ take count (drop taken sent) → before ++ more ≡ take (taken + count) sent
more-taken sent before more taken count e f = ap₂ (λ (a b : List ℕ). a ++ b) e f ∙ sym (take-add taken count sent)

pub prover_next : (prover next : Proving) (sent more : List ℕ) (taken count : ℕ) → prover.bytes ≡ take taken sent → more ≡ take count (drop taken sent) → next ≡ fed_more prover more → next ≡ record prover { bytes = take (taken + count) sent }
prover_next prover next sent more taken count e f g = g ∙ ap (λ (b : List ℕ). record prover { bytes = b }) (more-taken sent prover.bytes more taken count e f)

-- a prefix of bytes without a fault has none
pub no_stop : (due m : ℕ) (sent : List ℕ) → stop_of due sent ≡ None → stop_of due (take m sent) ≡ None
no_stop due m sent none = by_stop (stop_of due (take m sent)) refl where
  by_stop : (o : Option LiveFault) → stop_of due (take m sent) ≡ o → stop_of due (take m sent) ≡ None
  by_stop None is = is
  by_stop (Some fault) is = absurd (let f : Some fault ≡ None = sym (stop_stays due (take m sent) (drop m sent) fault is) ∙ ap (stop_of due) (take-append-drop m sent) ∙ none in cc)

-- so that a prover that is fed one stops only where memory runs out
pub stops_for_memory : (due : ℕ) (sent before more : List ℕ) (taken count : ℕ) (stop : ProverStop) → stop_of due sent ≡ None → before ≡ take taken sent → more ≡ take count (drop taken sent) → IsStopFor (stop_of due (before ++ more)) stop → stop ≡ Memory
stops_for_memory due sent before more taken count stop none e f is =
    by_stop stop (subst (λ (o : Option LiveFault). IsStopFor o stop) (ap (stop_of due) (more-taken sent before more taken count e f) ∙ no_stop due (taken + count) sent none) is)
  where
    by_stop : (stop : ProverStop) → IsStopFor None stop → stop ≡ Memory
    by_stop (Range at) h = absurd cc
    by_stop (Extra at) h = absurd cc
    by_stop Memory h = refl

pub verifier_next : (old new : Session) (sent more : List ℕ) (taken count : ℕ) → length sent ≤ 8 * element_count old.parts → old.bytes ≡ take taken sent → more ≡ take count (drop taken sent) → new ≡ kept (joined old more) → new ≡ record old { bytes = take (taken + count) sent }
verifier_next old new sent more taken count few e f g =
    g
    ∙ ap (λ (b : List ℕ). record old { bytes = take (8 * element_count old.parts + 1) b }) (more-taken sent old.bytes more taken count e f)
    ∙ ap (λ (b : List ℕ). record old { bytes = b }) (take_all (8 * element_count old.parts + 1) (take (taken + count) sent) (omega (arith, few, length-take (taken + count) sent)))
