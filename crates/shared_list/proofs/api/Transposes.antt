-- Transposes: made column by column, read at a place, and transposed again.
use Rattle.std.proofs.Common.{◌≡◌, ℕ, zero, suc, ◌+◌, ◌*◌, ◌/◌, ◌%◌, ◌<◌, ◌≤◌, List, [], ◌∷◌, ◌++◌, map, ◌≢◌, inl, inr, length, get_or, set, refl, subst, ap, sym, ◌∙◌, arith}
use Rattle.std.specs.List.{range_with_len}
use Rattle.std.proofs.Math.Nat.{mul_comm, mul-zero, div-lt_iff_lt-mul, div-add-mod}
use Rattle.std.proofs.lemmas.Nat.{mul-add-lt, div-mul-add, mod-mul-add}
use Rattle.std.proofs.Math.ListN.{length-set}
use Rattle.std.proofs.lemmas.List.{ext_get_or, get_or-set_same, get_or-set_other, set_past}
use Rattle.std.proofs.lemmas.Bool.{cases_eq}
use Rattle.std.proofs.lemmas.List.FromFn.{map-range_with_len_more, length-map-range_with_len, get_or-map-range_with_len}
use Rattle.std.specs.Global.{Box}
use Rattle.shared_list.specs.declared.held.Held.{Held}
use Rattle.shared_list.specs.declared.held.Transpose.{Transpose}
use Rattle.shared_list.specs.declared.held.Held.TheVariants.{Turned}
use Rattle.shared_list.specs.Held.{items_of, IsWhole}
use Rattle.shared_list.specs.Turned.{turned}

-- the item at place k of m rows of n that n rows of m are turned into
abbrev pub turned_at : {A : Type 0} → A → ℕ → ℕ → List A → ℕ → A
turned_at nothing n m items k = get_or items (k % n * m + k / n) nothing

abbrev pub at_places : {A : Type 0} → ℕ → (ℕ → A) → List A
at_places count item = map item (range_with_len 0 count)

at_places-more : {A : Type 0} (f : ℕ → A) (count : ℕ) (x : A) (found more : List A) → found ≡ at_places count f → more ≡ found ++ (x ∷ []) → x ≡ f count → more ≡ at_places (count + 1) f
at_places-more f count x found more so_far pushed value =
    pushed ∙ ap (λ front. front ++ (x ∷ [])) so_far ∙ ap (λ y. at_places count f ++ (y ∷ [])) value
    ∙ sym (map-range_with_len_more f 0 count count (omega arith))

-- the next item of row j of a transpose
pub turned-more : {A : Type 0} (nothing : A) (n m : ℕ) (items : List A) (j i : ℕ) (x : A) (found more : List A) → i < n → found ≡ at_places (j * n + i) (turned_at nothing n m items) →
    more ≡ found ++ (x ∷ []) → x ≡ get_or items (i * m + j) nothing → more ≡ at_places (j * n + (i + 1)) (turned_at nothing n m items)
turned-more nothing n m items j i x found more inside so_far pushed value =
    at_places-more (turned_at nothing n m items) (j * n + i) x found more so_far pushed
    (value ∙ sym (ap (λ a. get_or items (a * m + (j * n + i) / n) nothing) (mod-mul-add j n i inside) ∙ ap (λ a. get_or items (i * m + a) nothing) (div-mul-add j n i inside)))
    ∙ ap (λ count. at_places count (turned_at nothing n m items)) (omega arith)

-- how many items a transpose has
pub turned-length : {A : Type 0} (nothing : A) (n m : ℕ) (items : List A) → length (turned nothing n m items) ≡ n * m
turned-length nothing n m items = length-map-range_with_len _ 0 (m * n) ∙ mul_comm m n

-- an item of a transpose, whatever is past its end
pub turned-read : {A : Type 0} (nothing past : A) (n m : ℕ) (items : List A) (k : ℕ) → k < n * m → get_or (turned nothing n m items) k past ≡ turned_at nothing n m items k
turned-read nothing past n m items k inside =
    get_or-map-range_with_len (turned_at nothing n m items) 0 (m * n) k k past (omega (arith, mul_comm m n, inside)) (omega arith)

-- row j and column i of a transpose
pub turned-item : {A : Type 0} (nothing past : A) (n m : ℕ) (items : List A) (i j : ℕ) → i < n → j < m → get_or (turned nothing n m items) (j * n + i) past ≡ get_or items (i * m + j) nothing
turned-item nothing past n m items i j row_in column_in =
    let inside : j * n + i < n * m = omega (arith, mul-add-lt j n i m column_in row_in, mul_comm m n) in
    turned-read nothing past n m items (j * n + i) inside
    ∙ ap (λ a. get_or items (a * m + (j * n + i) / n) nothing) (mod-mul-add j n i row_in)
    ∙ ap (λ a. get_or items (i * m + a) nothing) (div-mul-add j n i row_in)

-- what a place past the end holds doesn't matter within
pub get_or-within : {A : Type 0} (items : List A) (k : ℕ) (a b : A) → k < length items → get_or items k a ≡ get_or items k b
get_or-within [] k a b inside = absurd (omega (arith, inside))
get_or-within (x ∷ items) zero a b inside = refl
get_or-within (x ∷ items) (suc k) a b inside = get_or-within items k a b (omega (arith, inside))

twice_at : {A : Type 0} (a b past : A) (n m : ℕ) (items : List A) (k : ℕ) → length items ≡ n * m → k < n * m → get_or (turned b m n (turned a n m items)) k past ≡ get_or items k past
twice_at a b past n zero items k size inside = absurd (omega (arith, mul-zero n))
twice_at a b past n (suc m) items k size inside =
    let column_in : k % suc m < suc m = omega arith in
    let row_in : k / suc m < n = (div-lt_iff_lt-mul {k = suc m} {x = k} {y = n} (omega arith)).1 inside in
    let whole : k / suc m * suc m + k % suc m ≡ k = omega (arith, div-add-mod k (suc m), mul_comm (suc m) (k / suc m)) in
    ap (λ place. get_or (turned b (suc m) n (turned a n (suc m) items)) place past) (sym whole)
    ∙ turned-item b past (suc m) n (turned a n (suc m) items) (k % suc m) (k / suc m) column_in row_in
    ∙ turned-item a b n (suc m) items (k / suc m) (k % suc m) row_in column_in
    ∙ ap (λ place. get_or items place a) whole
    ∙ get_or-within items k a past (omega (arith, size, inside))

-- a matrix that is transposed twice is the matrix
pub turned_twice : {A : Type 0} (a b : A) (n m : ℕ) (items : List A) → length items ≡ n * m → turned b m n (turned a n m items) ≡ items
turned_twice a b n m items size =
    let long : length (turned b m n (turned a n m items)) ≡ n * m = length-map-range_with_len _ 0 (n * m) in
    ext_get_or a (turned b m n (turned a n m items)) items (long ∙ sym size)
    (λ k inside. twice_at a b a n m items k size (omega (arith, long, inside)))

-- where a place of a transpose is in the list
pub turned-inside : (n m k : ℕ) → k < n * m → k % n * m + k / n < n * m
turned-inside zero m k inside = absurd (omega (arith, inside))
turned-inside (suc n) m k inside =
    let row_in : k % suc n < suc n = omega arith in
    let column_in : k / suc n < m = (div-lt_iff_lt-mul {k = suc n} {x = k} {y = m} (omega arith)).1 (omega (arith, inside, mul_comm (suc n) m)) in
    omega (arith, mul-add-lt (k % suc n) m (k / suc n) (suc n) row_in column_in, mul_comm m (suc n))

-- a held transpose: its items, and how many there are
pub held-turned : {A : Type 0} (held : Held A) (list : List A) (turn : Box (Transpose A)) → held ≡ Turned turn → items_of held ≡ list →
    list ≡ turned turn.value.nothing turn.value.rows turn.value.columns turn.value.items
held-turned held list turn is view_is = sym view_is ∙ ap items_of is

pub held-whole : {A : Type 0} (held : Held A) (turn : Box (Transpose A)) → held ≡ Turned turn → IsWhole held → length turn.value.items ≡ turn.value.rows * turn.value.columns
held-whole held turn is whole = subst IsWhole is whole

pub held-length : {A : Type 0} (held : Held A) (list : List A) (turn : Box (Transpose A)) → held ≡ Turned turn → items_of held ≡ list → IsWhole held →
    length turn.value.items ≡ length list
held-length held list turn is view_is whole =
    held-whole held turn is whole
    ∙ sym (ap length (held-turned held list turn is view_is) ∙ turned-length turn.value.nothing turn.value.rows turn.value.columns turn.value.items)

-- past the end
pub get_or-past : {A : Type 0} (items : List A) (k : ℕ) (past : A) → length items ≤ k → get_or items k past ≡ past
get_or-past [] k past outside = refl
get_or-past (x ∷ items) zero past outside = absurd (omega (arith, outside))
get_or-past (x ∷ items) (suc k) past outside = get_or-past items k past (omega (arith, outside))

pub turned-past : {A : Type 0} (nothing past : A) (n m : ℕ) (items : List A) (k : ℕ) → n * m ≤ k → get_or (turned nothing n m items) k past ≡ past
turned-past nothing past n m items k outside =
    get_or-past (turned nothing n m items) k past (omega (arith, outside, turned-length nothing n m items))

-- a held transpose, transposed
pub held-twice : {A : Type 0} (held : Held A) (list : List A) (turn : Box (Transpose A)) (past : A) (n m : ℕ) → held ≡ Turned turn → items_of held ≡ list → IsWhole held →
    turn.value.rows ≡ m → turn.value.columns ≡ n → turned past n m list ≡ turn.value.items
held-twice held list turn past n m is view_is whole same_rows same_columns =
    ap (turned past n m) (held-turned held list turn is view_is)
    ∙ sym (λ i. turned past (same_columns i) (same_rows i) (turned turn.value.nothing turn.value.rows turn.value.columns turn.value.items))
    ∙ turned_twice turn.value.nothing past turn.value.rows turn.value.columns turn.value.items (held-whole held turn is whole)

-- each place of a transpose comes from a place of its own: the way back
turned-back : (n m k : ℕ) → k < n * m → (k % n * m + k / n) % m * n + (k % n * m + k / n) / m ≡ k
turned-back zero m k inside = absurd (omega (arith, inside))
turned-back (suc n) m k inside =
    let column_in : k / suc n < m = (div-lt_iff_lt-mul {k = suc n} {x = k} {y = m} (omega arith)).1 (omega (arith, inside, mul_comm (suc n) m)) in
    ap (λ a. a * suc n + (k % suc n * m + k / suc n) / m) (mod-mul-add (k % suc n) m (k / suc n) column_in)
    ∙ ap (λ a. k / suc n * suc n + a) (div-mul-add (k % suc n) m (k / suc n) column_in)
    ∙ omega (arith, div-add-mod k (suc n), mul_comm (suc n) (k / suc n))

turned-apart : (n m k place : ℕ) → k < n * m → place < n * m → k ≢ place → k % n * m + k / n ≢ place % n * m + place / n
turned-apart n m k place inside place_inside apart same =
    apart (sym (turned-back n m k inside) ∙ ap (λ a. a % m * n + a / m) same ∙ turned-back n m place place_inside)

turned-set_here : {A : Type 0} (nothing : A) (n m : ℕ) (items : List A) (place k : ℕ) (x : A) → length items ≡ n * m → k < n * m → k ≡ place →
    get_or (turned nothing n m (set items (place % n * m + place / n) x)) k nothing ≡ get_or (set (turned nothing n m items) place x) k nothing
turned-set_here nothing n m items place k x size inside same =
    let place_inside : place < n * m = omega (arith, inside, same) in
    let before : place % n * m + place / n < length items = omega (arith, turned-inside n m place place_inside, size) in
    let within : place < length (turned nothing n m items) = omega (arith, place_inside, turned-length nothing n m items) in
    ap (λ at. get_or (turned nothing n m (set items (place % n * m + place / n) x)) at nothing) same
    ∙ turned-read nothing nothing n m (set items (place % n * m + place / n) x) place place_inside
    ∙ get_or-set_same items (place % n * m + place / n) x nothing before
    ∙ sym (get_or-set_same (turned nothing n m items) place x nothing within)
    ∙ ap (λ at. get_or (set (turned nothing n m items) place x) at nothing) (sym same)

turned-set_other : {A : Type 0} (nothing : A) (n m : ℕ) (items : List A) (place k : ℕ) (x : A) → k < n * m → place < n * m → k ≢ place →
    get_or (turned nothing n m (set items (place % n * m + place / n) x)) k nothing ≡ get_or (set (turned nothing n m items) place x) k nothing
turned-set_other nothing n m items place k x inside place_inside apart =
    turned-read nothing nothing n m (set items (place % n * m + place / n) x) k inside
    ∙ get_or-set_other items (place % n * m + place / n) (k % n * m + k / n) x nothing (turned-apart n m k place inside place_inside apart)
    ∙ sym (turned-read nothing nothing n m items k inside)
    ∙ sym (get_or-set_other (turned nothing n m items) place k x nothing apart)

-- an item of a transpose is set by setting that of the matrix which comes there
pub turned-set : {A : Type 0} (nothing : A) (n m : ℕ) (items : List A) (place : ℕ) (x : A) → length items ≡ n * m → place < n * m →
    turned nothing n m (set items (place % n * m + place / n) x) ≡ set (turned nothing n m items) place x
turned-set nothing n m items place x size place_inside =
    ext_get_or nothing (turned nothing n m (set items (place % n * m + place / n) x)) (set (turned nothing n m items) place x)
    (turned-length nothing n m (set items (place % n * m + place / n) x) ∙ sym (length-set (turned nothing n m items) place x ∙ turned-length nothing n m items))
    (λ k within.
    let inside : k < n * m = omega (arith, within, turned-length nothing n m (set items (place % n * m + place / n) x)) in
    elim (cases_eq k place) [
      | inl same ↦ turned-set_here nothing n m items place k x size inside same
      | inr apart ↦ turned-set_other nothing n m items place k x inside place_inside apart
    ])

pub turned-set_past : {A : Type 0} (nothing : A) (n m : ℕ) (items : List A) (place : ℕ) (x : A) → n * m ≤ place → set (turned nothing n m items) place x ≡ turned nothing n m items
turned-set_past nothing n m items place x outside =
    set_past (turned nothing n m items) place x (omega (arith, outside, turned-length nothing n m items))

pub ruleset of_reads = (turned-read, turned-past)

pub ruleset of_sets = (turned-set, turned-set_past, turned-length, length-set)
