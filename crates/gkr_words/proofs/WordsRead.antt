-- The command that is read from what `clap` finds among the words, or why it refuses them.
use Rattle.std.proofs.Common.{◌≡◌, Bool, true, false, List, ℕ, [], ◌∷◌, Option, Some, None, option_map, ap, refl, subst, codes, arith}
use Rattle.std.specs.Prelude.{◌&&◌, Box, IfSome, if◌then◌else◌, nat_le, option_and_then}
use Rattle.std.specs.Str.{bytes_eq}
use Rattle.std.proofs.lemmas.Bool.{and_parts, leb-true}
use Rattle.std.specs.Box.{box_value}
use Rattle.clap.specs.Simple.{is_simple, subcommand_rows}
use Rattle.clap.specs.Words.{IsAmong, Kinds, Row, Text, fault_of, first_of, is_simple_and_free, subcommand_of}
use Rattle.clap.specs.declared.error.kind.ErrorKind.{ErrorKind}
use Rattle.clap.specs.declared.parser.matches.ArgMatches.TheViews.{out-SubCommand}
use Rattle.clap.specs.declared.parser.matches.SubCommand.{SubCommand}
use Rattle.clap.proofs.OnLiterals.{clap_on_literals}
use Rattle.phase_run.specs.Work.{IsWorkerCount}
use Rattle.gkr_words.specs.Commands.{command_line, command_of, command_named, command_of_rows, command_unless, HasPiece, HasWorkers, IsPieceSize, demo_of, if_piece_size, kind_named, is_given, piece_of, prove_of, serve_of, service, session_of, if_worker_count, number_of, version_named, workers_of}
use Rattle.gkr_words.specs.declared.words.CaseCommand.{CaseCommand}
use Rattle.gkr_words.specs.declared.words.CaseCommand.TheVariants.{Convert}
use Rattle.proof_two.specs.declared.kind.ProofKind.{ProofKind}
use Rattle.proof_two.specs.declared.kind.ProofVersion.{ProofVersion}
use Rattle.gkr_words.specs.declared.words.Command.{Command}
use Rattle.gkr_words.specs.declared.words.Command.TheVariants.{OfCase}

pub line_is_simple : is_simple command_line ≡ true
unfolding clap_on_literals
line_is_simple = refl

pub line_is_free : is_simple_and_free command_line ≡ true
unfolding clap_on_literals
line_is_free = refl

-- words that are taken name the command of what is found in them
pub command_taken : (words : List Text) → fault_of command_line words ≡ [] → command_of words ≡ option_and_then command_of_rows (subcommand_of command_line words)
unfolding command_of
command_taken words none = ap (λ (kinds : Kinds). command_unless kinds (subcommand_of command_line words)) none

unless_some : (kinds : Kinds) (kind : ErrorKind) (entered : Option (Text × List Row)) → IsAmong kind kinds → command_unless kinds entered ≡ None
unless_some [] kind entered among = absurd among
unless_some (k ∷ ks) kind entered among = refl

-- words that are refused name none
pub command_refused : (words : List Text) (kind : ErrorKind) → IsAmong kind (fault_of command_line words) → command_of words ≡ None
unfolding command_of
command_refused words kind among = unless_some (fault_of command_line words) kind (subcommand_of command_line words) among

-- a subcommand by its name and its rows
pub entered_is : {Z : Type 0} (entered : Option (Box SubCommand Z)) (name : Text) (rows : List Row)
    → Some name ≡ option_map (λ b. (out-SubCommand (box_value b)).name.now) entered → Some rows ≡ option_map (λ p. p.1) (subcommand_rows entered)
    → subcommand_rows entered ≡ Some (name, rows)
entered_is None name rows named found = absurd cc
entered_is (Some b) name rows named found = cc

-- the same name and the same words are the same command
pub same_named : (name : Text) {a a' b b' c c' d d' e e' f f' g g' h h' : Option Text} → a ≡ a' → b ≡ b' → c ≡ c' → d ≡ d' → e ≡ e' → f ≡ f' → g ≡ g' → h ≡ h' → command_named name a b c d e f g h ≡ command_named name a' b' c' d' e' f' g' h'
same_named name p q r s t u v w = λ k. command_named name (p k) (q k) (r k) (s k) (t k) (u k) (v k) (w k)

pub true_or_false : (b : Bool) → b ≡ true → b ≡ false → ⊥
true_or_false b is is' = cc

-- ---- workers

by_test : (b : Bool) (m n : ℕ) → (b ≡ true → IsWorkerCount m) → (if b then Some m else None) ≡ Some n → IsWorkerCount n
by_test true m n fits is = let same : m ≡ n = cc in subst IsWorkerCount same (fits refl)
by_test false m n fits is = absurd cc

by_number : (number : Option ℕ) (n : ℕ) → option_and_then if_worker_count number ≡ Some n → IsWorkerCount n
by_number None n is = absurd cc
by_number (Some m) n is = by_test (nat_le 1 m && nat_le m 64) m n (λ both. let parts = and_parts _ _ both in (leb-true 1 m parts.0, leb-true m 64 parts.1)) is

workers_in : (word : Option Text) (n : ℕ) → workers_of word ≡ Some n → IsWorkerCount n
workers_in None n is = let same : 1 ≡ n = cc in omega arith
workers_in (Some word) n is = by_number (number_of word) n is

if_workers : (b : Bool) (x y : Option Command) → IfSome x HasWorkers → IfSome y HasWorkers → IfSome (if b then x else y) HasWorkers
if_workers true x y h k = h
if_workers false x y h k = k

demo_workers : (number workers : Option ℕ) → ((n : ℕ) → workers ≡ Some n → IsWorkerCount n) → IfSome (demo_of number workers) HasWorkers
demo_workers None workers each = tt
demo_workers (Some number) None each = tt
demo_workers (Some number) (Some workers) each = each workers refl

service_workers : (history : Bool) (workers provers clients : ℕ) → IsWorkerCount workers → IsWorkerCount provers → IsWorkerCount clients → HasWorkers (service history workers provers clients)
service_workers true workers provers clients f g h = (f, g, h)
service_workers false workers provers clients f g h = (f, g, h)

serve_workers : (history : Bool) (workers provers clients : Option ℕ) → ((n : ℕ) → workers ≡ Some n → IsWorkerCount n) → ((n : ℕ) → provers ≡ Some n → IsWorkerCount n) → ((n : ℕ) → clients ≡ Some n → IsWorkerCount n)
    → IfSome (serve_of history workers provers clients) HasWorkers
serve_workers history None provers clients f g h = tt
serve_workers history (Some workers) None clients f g h = tt
serve_workers history (Some workers) (Some provers) None f g h = tt
serve_workers history (Some workers) (Some provers) (Some clients) f g h = service_workers history workers provers clients (f workers refl) (g provers refl) (h clients refl)

prove_workers : (workers : Option ℕ) (kind : Option ProofKind) → ((n : ℕ) → workers ≡ Some n → IsWorkerCount n) → IfSome (option_map OfCase (prove_of workers kind)) HasWorkers
prove_workers None kind each = tt
prove_workers (Some workers) None each = tt
prove_workers (Some workers) (Some kind) each = each workers refl

case_if : (b : Bool) (x y : Option CaseCommand) → IfSome (option_map OfCase x) HasWorkers → IfSome (option_map OfCase y) HasWorkers → IfSome (option_map OfCase (if b then x else y)) HasWorkers
case_if true x y h k = h
case_if false x y h k = k

session_workers : (piece workers : Option ℕ) → ((n : ℕ) → workers ≡ Some n → IsWorkerCount n) → IfSome (session_of piece workers) HasWorkers
session_workers None workers each = tt
session_workers (Some piece) None each = tt
session_workers (Some piece) (Some workers) each = each workers refl

convert_workers : (version : Option ProofVersion) → IfSome (option_map OfCase (option_map Convert version)) HasWorkers
convert_workers None = tt
convert_workers (Some version) = tt

named_workers : (name : Text) (number workers provers clients proof history to piece : Option Text) → IfSome (command_named name number workers provers clients proof history to piece) HasWorkers
named_workers name number workers provers clients proof history to piece =
    if_workers (bytes_eq name (codes "demo")) _ _ (demo_workers _ _ (workers_in workers))
    (if_workers (bytes_eq name (codes "serve")) _ _ (serve_workers (is_given history) (workers_of workers) (workers_of provers) (workers_of clients) (workers_in workers) (workers_in provers) (workers_in clients))
    (if_workers (bytes_eq name (codes "session")) _ _ (session_workers (piece_of piece) (workers_of workers) (workers_in workers))
    (case_if (bytes_eq name (codes "eval")) _ _ tt
    (case_if (bytes_eq name (codes "circuit")) _ _ tt
    (case_if (bytes_eq name (codes "prove")) _ _ (prove_workers (workers_of workers) (kind_named proof) (workers_in workers))
    (case_if (bytes_eq name (codes "verify")) _ _ tt
    (case_if (bytes_eq name (codes "audit")) _ _ tt
    (case_if (bytes_eq name (codes "convert")) _ _ (convert_workers (version_named to)) tt))))))))

unless_workers : (kinds : Kinds) (entered : Option (Text × List Row)) → IfSome (command_unless kinds entered) HasWorkers
unless_workers [] None = tt
unless_workers [] (Some found) = named_workers found.0 (first_of (codes "number") found.1) (first_of (codes "workers") found.1) (first_of (codes "provers") found.1) (first_of (codes "clients") found.1) (first_of (codes "proof") found.1) (first_of (codes "history") found.1) (first_of (codes "to") found.1) (first_of (codes "piece") found.1)
unless_workers (k ∷ ks) entered = tt

-- the workers of a command that words name
pub have_workers : (words : List Text) → IfSome (command_of words) HasWorkers
unfolding command_of
have_workers words = unless_workers (fault_of command_line words) (subcommand_of command_line words)

-- ---- the pieces of a session

piece_by_test : (b : Bool) (m n : ℕ) → (b ≡ true → IsPieceSize m) → (if b then Some m else None) ≡ Some n → IsPieceSize n
piece_by_test true m n fits is = let same : m ≡ n = cc in subst IsPieceSize same (fits refl)
piece_by_test false m n fits is = absurd cc

piece_by_number : (number : Option ℕ) (n : ℕ) → option_and_then if_piece_size number ≡ Some n → IsPieceSize n
piece_by_number None n is = absurd cc
piece_by_number (Some m) n is = piece_by_test (nat_le 1 m && nat_le m 65536) m n (λ both. let parts = and_parts _ _ both in (leb-true 1 m parts.0, leb-true m 65536 parts.1)) is

piece_in : (word : Option Text) (n : ℕ) → piece_of word ≡ Some n → IsPieceSize n
piece_in None n is = absurd cc
piece_in (Some word) n is = piece_by_number (number_of word) n is

if_piece : (b : Bool) (x y : Option Command) → IfSome x HasPiece → IfSome y HasPiece → IfSome (if b then x else y) HasPiece
if_piece true x y h k = h
if_piece false x y h k = k

demo_piece : (number workers : Option ℕ) → IfSome (demo_of number workers) HasPiece
demo_piece None workers = tt
demo_piece (Some number) None = tt
demo_piece (Some number) (Some workers) = tt

service_piece : (history : Bool) (workers provers clients : ℕ) → HasPiece (service history workers provers clients)
service_piece true workers provers clients = tt
service_piece false workers provers clients = tt

serve_piece : (history : Bool) (workers provers clients : Option ℕ) → IfSome (serve_of history workers provers clients) HasPiece
serve_piece history None provers clients = tt
serve_piece history (Some workers) None clients = tt
serve_piece history (Some workers) (Some provers) None = tt
serve_piece history (Some workers) (Some provers) (Some clients) = service_piece history workers provers clients

session_piece : (piece workers : Option ℕ) → ((n : ℕ) → piece ≡ Some n → IsPieceSize n) → IfSome (session_of piece workers) HasPiece
session_piece None workers each = tt
session_piece (Some piece) None each = tt
session_piece (Some piece) (Some workers) each = each piece refl

case_piece : (command : Option CaseCommand) → IfSome (option_map OfCase command) HasPiece
case_piece None = tt
case_piece (Some command) = tt

named_piece : (name : Text) (number workers provers clients proof history to piece : Option Text) → IfSome (command_named name number workers provers clients proof history to piece) HasPiece
named_piece name number workers provers clients proof history to piece =
    if_piece (bytes_eq name (codes "demo")) _ _ (demo_piece _ _)
    (if_piece (bytes_eq name (codes "serve")) _ _ (serve_piece (is_given history) (workers_of workers) (workers_of provers) (workers_of clients))
    (if_piece (bytes_eq name (codes "session")) _ _ (session_piece (piece_of piece) (workers_of workers) (piece_in piece))
    (case_piece _)))

unless_piece : (kinds : Kinds) (entered : Option (Text × List Row)) → IfSome (command_unless kinds entered) HasPiece
unless_piece [] None = tt
unless_piece [] (Some found) = named_piece found.0 (first_of (codes "number") found.1) (first_of (codes "workers") found.1) (first_of (codes "provers") found.1) (first_of (codes "clients") found.1) (first_of (codes "proof") found.1) (first_of (codes "history") found.1) (first_of (codes "to") found.1) (first_of (codes "piece") found.1)
unless_piece (k ∷ ks) entered = tt

-- the pieces of a session that words name
pub have_piece : (words : List Text) → IfSome (command_of words) HasPiece
unfolding command_of
have_piece words = unless_piece (fault_of command_line words) (subcommand_of command_line words)
