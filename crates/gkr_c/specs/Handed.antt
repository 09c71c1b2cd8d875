-- What a call hands out.
use Rattle.std.specs.Prelude.{◌≡◌, ◌⊎◌, ◌≤◌, ◌<◌, ◌++◌, ℕ, List, [], length, drop, Some}
use Rattle.gkr_words.specs.Commands.{command_of}
use Rattle.gkr_words.specs.declared.words.CaseCommand.{CaseCommand}
use Rattle.gkr_words.specs.declared.words.Command.TheVariants.{OfCase}
use Rattle.gkr_cmd.specs.declared.status.Status.{Status}
use Rattle.gkr_cmd.specs.Headline.{Ends, KeepsPromises}
use Rattle.gkr_cmd.specs.Here.{IsHere}
use Rattle.gkr_cmd.specs.Replies.{code_of}

-- the ends of a run before it, where its source holds this input and nothing failed
abbrev pub ends_with : List ℕ → Ends
ends_with input = record {
  left = Some input;
  calls = Some (record { count = 0; largest_buffer = 0 });
  read_faults = 0;
  written = Some [];
  write_faults = 0;
}

-- The text is at the beginning of the room, whose other bytes are as they were, where it fits, and
-- else the room is as it was.
pub record IsPut (text room now : List ℕ) (needed : ℕ) : Type 0 where
  pub needed_is : needed ≡ length text
  pub fits : length text ≤ length room → now ≡ text ++ drop (length text) room
  pub kept : length room < length text → now ≡ room

-- A run on this input ended with the status of this number, and keeps all promises of a run of each
-- of these words. What it wrote is put into the room.
pub record HandsOutRun (AreWords : List (List ℕ) → Type 0)
    (input room now : List ℕ) (needed number : ℕ) : Type 0 where
  pub status : Status
  pub number_is : number ≡ code_of status
  pub text : List ℕ
  pub after : Ends
  pub written : after.written ≡ Some text
  pub promises : (words : List (List ℕ)) → AreWords words
      → KeepsPromises (record { words = words; before = ends_with input; after = after; ended = status })
  pub put : IsPut text room now needed

-- A run of this command was handed out, as one of any words that name it.
abbrev pub HandsOut : CaseCommand → List ℕ → List ℕ → List ℕ → ℕ → ℕ → Type 0
HandsOut command input room now needed number =
    HandsOutRun (λ words. command_of words ≡ Some (OfCase command)) input room now needed number

-- Nothing was handed out.
abbrev pub HandsOutNothing : List ℕ → List ℕ → ℕ → Type 0
HandsOutNothing room now needed = (needed ≡ 0) × (now ≡ room)

-- Why a call with words handed nothing out: no memory was found for the words, they are no text, or
-- they name a command that isn't on a case.
abbrev pub IsWhyNone : List (List ℕ) → ℕ → Type 0
IsWhyNone words number =
    (number ≡ 9) ⊎ ((number ≡ 11) ⊎ ((number ≡ 12) × ¬ IsHere (command_of words)))

-- A run of these words was handed out, or nothing where there was none.
abbrev pub HandsOutWords : List (List ℕ) → List ℕ → List ℕ → List ℕ → ℕ → ℕ → Type 0
HandsOutWords words input room now needed number =
    HandsOutRun (λ named. named ≡ words) input room now needed number
    ⊎ (HandsOutNothing room now needed × IsWhyNone words number)
