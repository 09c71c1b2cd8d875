-- A script takes exactly its texts.
use Rattle.std.proofs.Common.{◌≡◌, ℕ, zero, suc, ◌^◌, ◌<◌, eqb, List, [], ◌∷◌, ◌++◌, length, get_or, refl, sym, ap, subst, ◌∙◌, arith, decimal}
use Rattle.std.specs.Prelude.{codes}
use Rattle.std.proofs.lemmas.Bool.{eqb-false, ne_eqb}
use Rattle.std.proofs.lemmas.Fmt.{decimal_digit, first_decimal, decimal_nonempty}
use Rattle.text_parts.specs.declared.due.DueKind.TheVariants.{Length, Section}
use Rattle.text_parts.specs.Bytes.{digit_zero, newline}
use Rattle.text_parts.specs.Parts.{decimal_at}
use Rattle.text_parts.specs.Exact.{IsExact}
use Rattle.text_parts.proofs.api.Compose.{same_texts}
use Rattle.text_parts.proofs.api.Choice.{FirstIs, IsOther, head_is, not_byte}
use Rattle.text_parts.proofs.api.Except.{Except, except_exact}
use Rattle.text_parts.proofs.api.Listed.{AreUpTo, item_step, listed_exact}
use Rattle.text_parts.proofs.api.Rows.{IsNumber, Spelled, as_row, made_row, number_row, part_row, word_row}
use Rattle.case_text.specs.declared.case.form.Form.TheVariants.{Plain}
use Rattle.case_text.specs.Content.{Content}
use Rattle.case_text.specs.Spelling.{number}
use Rattle.case_text.proofs.api.Lines.{case_exact}
use Rattle.script_text.specs.declared.script.ScriptJob.{ScriptJob}
use Rattle.script_text.specs.Scripts.{IsJob, SpellsScript, client_at, client_number, done, job_at, job_initial, jobs_at}

-- ---- the number of a client

abbrev IsDecimal : ℕ → List ℕ → Type 0
IsDecimal = IsNumber 65 newline

first_apart : (ds more : List ℕ) → 0 < length ds → 48 < get_or ds 0 0 → FirstIs (IsOther digit_zero) (ds ++ more)
first_apart [] more some other = absurd (omega arith)
first_apart (b ∷ ds) more some other = rw (ne_eqb b 48 (λ e. omega (arith, e, other))) refl

-- a number's text begins with no 0 where the number is no 0
to_client : (n : ℕ) (text : List ℕ) → Except digit_zero IsDecimal n text → Spelled (λ (w : Unit {0}) n. (0 < n) × (n < 65)) (λ w n. number n newline) n text
to_client zero text h = absurd (by_text text h.0.parts h.1) where
  by_text : (text : List ℕ) → text ≡ number 0 newline → FirstIs (IsOther digit_zero) text → ⊥
  by_text [] e f = f
  by_text (b ∷ text) e f = eqb-false b 48 (not_byte 48 b f) (head_is b 48 text (newline ∷ []) (e ∙ ap (λ (t : List ℕ). t ++ newline ∷ []) (decimal_digit 0 (omega arith))))
to_client (suc n) text h = record { way = tt; holds = (omega arith, h.0.holds); parts = h.0.parts }

from_client : (n : ℕ) (text : List ℕ) → Spelled (λ (w : Unit {0}) n. (0 < n) × (n < 65)) (λ w n. number n newline) n text → Except digit_zero IsDecimal n text
from_client n text h =
    let small : n < 2 ^ 64 = omega (arith, h.holds.1) in
    (record { way = tt; holds = h.holds.1; parts = h.parts }, subst (FirstIs (IsOther digit_zero)) (sym h.parts) (first_apart (decimal n) (newline ∷ []) (decimal_nonempty n small) (first_decimal n h.holds.0 small)))

client_row : IsExact (Spelled (λ (w : Unit {0}) n. (0 < n) × (n < 65)) (λ w n. number n newline)) client_at
client_row = same_texts (Except digit_zero IsDecimal) (Spelled (λ (w : Unit {0}) n. (0 < n) × (n < 65)) (λ w n. number n newline)) client_at to_client from_client
    (except_exact digit_zero Length IsDecimal (decimal_at client_number) (number_row client_number newline (record { some = omega arith; fits = omega arith; zero_closes = refl; other_closes = refl }) refl refl)
    (λ n h. no_text (decimal n) h.parts)
    (record { value = 1; more = number 1 newline; spells = from_client 1 (number 1 newline) (record { way = tt; holds = (omega arith, omega arith); parts = refl }) }))
  where
    no_text : (ds : List ℕ) → [] ≡ ds ++ newline ∷ [] → ⊥
    no_text [] e = cc
    no_text (d ∷ ds) e = cc

-- ---- a job

abbrev made : ℕ → Content → ScriptJob
made client case = record { client = client; case = case }

pub job_exact : IsExact IsJob job_at
unfolding job_at
job_exact = same_texts _ IsJob job_at
    (λ job text h. (h.holds.0.0, h.holds.0.1, h.way.1.0, h.holds.1.0, h.parts))
    (λ job text h. record { way = (tt, (h.2, tt)); holds = ((h.0, h.1), (h.3, refl)); parts = h.4 })
    (word_row Section (codes "client ") (part_row (λ job. job.client) client_row (λ n w g.
    part_row (λ job. job.case) (as_row (case_exact Plain)) (λ c t g. made_row (made n c)) (λ c t w job g e. ap (λ (x : ScriptJob). x.case) e))
    (λ n v w job g h. ap (λ (x : ScriptJob). x.client) h.1)))

pub job_begins : (job : ScriptJob) (t : List ℕ) → IsJob job t → FirstIs (λ b. eqb b job_initial) t
job_begins job t h = subst (FirstIs (λ b. eqb b job_initial)) (sym h.4) refl

-- ---- the jobs

pub script_exact : IsExact (λ jobs text. SpellsScript text jobs) (jobs_at job_at 256)
script_exact = same_texts (AreUpTo job_initial IsJob job_at Section done 256) (λ jobs text. SpellsScript text jobs) (jobs_at job_at 256)
    (λ jobs text h. record { count = h.0; text = h.1 })
    (λ jobs text h. (h.count, h.text))
    (listed_exact job_initial IsJob job_at Section done refl job_begins (item_step job_initial IsJob job_at Section done job_exact) 256)
