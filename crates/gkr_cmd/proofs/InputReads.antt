-- How many bytes were read, in how many calls.
use Rattle.std.proofs.Common.{◌≡◌, ℕ, zero, suc, ◌+◌, ◌≤◌, List, [], ◌++◌, length, take, Option, Some, None, refl, sym, subst, ap, ◌∙◌, arith, length-append}
use Rattle.std.proofs.lemmas.List.{append-nil, drop_at, length-take}
use Rattle.std.specs.Io.KnownBytes.{Consumes, Keeps}
use Rattle.io_edge.specs.Calls.{Calls, CallsAtMost}
use Rattle.gkr_cmd.specs.Reached.{ReadsNoMore, ReadsWithin}
use Rattle.gkr_cmd.proofs.Ends.{more_read}

-- no call
pub no_call : (capacity : ℕ) (a : Option Calls) → CallsAtMost 0 capacity a a
no_call capacity None = tt
no_call capacity (Some x) = (omega arith, omega arith)

-- one call more, into no larger buffer, and where so many are allowed
pub one_call : (capacity here most more : ℕ) (a b c : Option Calls) → CallsAtMost most capacity a b → CallsAtMost 1 here b c → here ≤ capacity → most + 1 ≤ more → CallsAtMost more capacity a c
one_call capacity here most more a b None h k le enough = tt
one_call capacity here most more a None (Some z) h k le enough = absurd k
one_call capacity here most more None (Some y) (Some z) h k le enough = absurd h
one_call capacity here most more (Some x) (Some y) (Some z) h k le enough = (omega (arith, h.0, k.0), omega (arith, h.1, k.1))

more_calls : (capacity most more : ℕ) (a b : Option Calls) → CallsAtMost most capacity a b → most ≤ more → CallsAtMost more capacity a b
more_calls capacity most more a None h le = tt
more_calls capacity most more None (Some y) h le = absurd h
more_calls capacity most more (Some x) (Some y) h le = (omega (arith, h.0), h.1)

no_more : (most : ℕ) (a b : Option (List ℕ)) (xs : List ℕ) → length xs ≤ most → Consumes a b xs → ReadsNoMore most a b
no_more most None b xs le h = tt
no_more most (Some xa) None xs le h = absurd h
no_more most (Some xa) (Some xb) xs le h = (length xs, le, rw h (ap (λ (t : List ℕ). Some t) (sym (drop_at xs xb (length xs) refl))))

-- a call that read nothing
pub none_more : (a b c : Option (List ℕ)) (xs capacity : List ℕ) (n : ℕ) → n ≡ 0 → Consumes a b xs → Consumes b c (take n capacity) → Consumes a c xs
none_more a b c xs capacity zero is h k = subst (λ (t : List ℕ). Consumes a c t) (append-nil xs) (more_read a b c xs [] h k)
none_more a b c xs capacity (suc n) is h k = absurd cc

-- a call that failed read nothing
pub kept_read : (a b c : Option (List ℕ)) (xs : List ℕ) → Consumes a b xs → Keeps b c → Consumes a c xs
kept_read None b c xs h k = tt
kept_read (Some xa) None c xs h k = absurd h
kept_read (Some xa) (Some xb) None xs h k = absurd k
kept_read (Some xa) (Some xb) (Some xc) xs h k = h ∙ ap (λ (t : List ℕ). xs ++ t) (sym k)

-- so many bytes in so many calls
pub read_within : (most many capacity : ℕ) (a b : Option (List ℕ)) (xs : List ℕ) (c d : Option Calls) → Consumes a b xs → length xs ≤ most → CallsAtMost many capacity c d → many ≤ most
    → ReadsWithin most capacity a b c d
read_within most many capacity a b xs c d h le k within = record { bytes = no_more most a b xs le h; calls = more_calls capacity many most c d k within }

-- so many bytes, and some more by the last of so many calls
pub some_within : (most many capacity : ℕ) (a b c : Option (List ℕ)) (xs buffer : List ℕ) (n : ℕ) (d e : Option Calls) → Consumes a b xs → Consumes b c (take n buffer) → length xs + n ≤ most
    → CallsAtMost many capacity d e → many ≤ most → ReadsWithin most capacity a c d e
some_within most many capacity a b c xs buffer n d e h k le calls within =
    read_within most many capacity a c (xs ++ take n buffer) d e (more_read a b c xs (take n buffer) h k) (omega (arith, length-append xs (take n buffer), length-take n buffer)) calls within

-- nothing was read
pub none_within : (most capacity : ℕ) (a : Option (List ℕ)) (c : Option Calls) → ReadsWithin most capacity a a c c
none_within most capacity None c = record { bytes = tt; calls = more_calls capacity 0 most c c (no_call capacity c) (omega arith) }
none_within most capacity (Some xs) c = record { bytes = (0, omega arith, refl); calls = more_calls capacity 0 most c c (no_call capacity c) (omega arith) }
