-- Parts of a table that are folded by themselves, and put one after another
use Rattle.std.proofs.Common.{◌≡◌, ℕ, zero, suc, ◌+◌, ◌-◌, ◌*◌, ◌/◌, ◌<◌, ◌≤◌, List, [], ◌∷◌, ◌++◌, length, map, take, drop, set, get_or, All, Bool, if◌then◌else◌, refl, sym, ◌∙◌, ap, ap₂, arith, subst, length-append, lt-ltb, append-nil, append_assoc, add-one}
use Rattle.std.proofs.lemmas.Bool.{le-ltb}
use Rattle.std.proofs.lemmas.List.{ext_get_or, length-take-le, length-drop, get_or_append_left, get_or-append_right, take_all, take_more_set, take-map, drop-map}
use Rattle.std.specs.List.{slice_range}
use Rattle.std.proofs.lemmas.List.Elements.{All-nil, All-cons, All-append}
use Rattle.field_ext.specs.Ring.{Ops}
use Rattle.field_ext.specs.Field.{K, k_ops, zero_k}
use Rattle.field_ext.specs.Multilinear.{folded}
use Rattle.table_parts.specs.Tables.{IsFolded}
use Rattle.table_parts.specs.PartTables.{PartTables, HasSize, halved, folded_part, part_pairs, flat, flat_table, flat_scales, flat_shifts}

-- a prefix of a list reads as the list does
front-read : {A : Type 0} (n : ℕ) (l : List A) (i : ℕ) (d : A) → i < n → get_or (take n l) i d ≡ get_or l i d
front-read zero l i d u = absurd (omega arith)
front-read (suc n) [] i d u = refl
front-read (suc n) (x ∷ l) zero d u = refl
front-read (suc n) (x ∷ l) (suc i) d u = front-read n l i d (omega arith)

same-front : {A : Type 0} (d : A) (n : ℕ) (a b : List A) → n ≤ length a → n ≤ length b → ((i : ℕ) → i < n → get_or a i d ≡ get_or b i d) → take n a ≡ take n b
same-front d n a b u v e =
    let la = length-take-le n a u in
    ext_get_or d (take n a) (take n b) (la ∙ sym (length-take-le n b v)) (λ i w. let lt : i < n = omega (arith, la) in front-read n a i d lt ∙ e i lt ∙ sym (front-read n b i d lt))

take-all : {A : Type 0} (n : ℕ) (l : List A) → length l ≡ n → take n l ≡ l
take-all n l e = take_all n l (omega arith)

-- a range of what is made of each element
pub range-map : {X Y : Type 0} (f : X → Y) (xs : List X) (a b : ℕ) → map f (slice_range xs a b) ≡ slice_range (map f xs) a b
range-map f xs a b = sym (ap (take (b - a)) (drop-map f a xs) ∙ take-map f (b - a) (drop a xs))

module _ {A : Type 0} (o : Ops A) where
  -- a table of 2 n values folds to one of n
  length-even : (n : ℕ) (t : List A) (r : A) → length t ≡ 2 * n → length (folded o t r) ≡ n
  length-even zero [] r e = refl
  length-even zero (a ∷ t) r e = absurd (omega arith)
  length-even (suc n) [] r e = absurd (omega arith)
  length-even (suc n) (a ∷ []) r e = absurd (omega arith)
  length-even (suc n) (a ∷ b ∷ t) r e = ap (λ (k : ℕ). suc k) (length-even n t r (omega arith))

  pub length-half : (t : List A) (r : A) → length t / 2 ≤ length (folded o t r)
  length-half [] r = omega arith
  length-half (a ∷ []) r = omega arith
  length-half (a ∷ b ∷ t) r = omega (arith, length-half t r)

  -- pairs stay pairs where tables of even length come one after another
  folded-append : (n : ℕ) (s t : List A) (r : A) → length s ≡ 2 * n → folded o (s ++ t) r ≡ folded o s r ++ folded o t r
  folded-append zero [] t r e = refl
  folded-append zero (a ∷ s) t r e = absurd (omega arith)
  folded-append (suc n) [] t r e = absurd (omega arith)
  folded-append (suc n) (a ∷ []) t r e = absurd (omega arith)
  folded-append (suc n) (a ∷ b ∷ s) t r e = ap (λ (l : List A). o.add a (o.mul r (o.add b (o.neg a))) ∷ l) (folded-append n s t r (omega arith))

-- one value, or none, stays
pub halved-one : (r : K) (t : List K) → length t / 2 ≡ 0 → t ≡ halved r t
halved-one r t e = ap (λ (b : Bool). if b then take (length t / 2) (folded k_ops t r) else t) (sym (le-ltb 1 (length t) (omega arith)))

-- a first half that is folded is the halved table
pub halved-front : (r : K) (t new : List K) → 0 < length t / 2 → length new ≡ length t → IsFolded k_ops (length t / 2) t r new → take (length t / 2) new ≡ halved r t
halved-front r t new some same is =
    same-front zero_k (length t / 2) new (folded k_ops t r) (omega (arith, same)) (length-half k_ops t r) is
    ∙ ap (λ (b : Bool). if b then take (length t / 2) (folded k_ops t r) else t) (sym (lt-ltb 1 (length t) (omega arith)))

-- a table of pairs is halved by folding it
pub halved-even : (n : ℕ) (r : K) (t : List K) → length t ≡ 2 * n → 0 < n → halved r t ≡ folded k_ops t r
halved-even n r t e some =
    ap (λ (b : Bool). if b then take (length t / 2) (folded k_ops t r) else t) (lt-ltb 1 (length t) (omega arith))
    ∙ take-all (length t / 2) (folded k_ops t r) (let h = length-even k_ops n t r e in omega arith)

pub length-halved : (n : ℕ) (r : K) (t : List K) → length t ≡ 2 * n → 0 < n → length (halved r t) ≡ n
length-halved n r t e some = ap length (halved-even n r t e some) ∙ length-even k_ops n t r e

-- one part more after the first ones
flat-next : (f : PartTables → List K) (ps : List PartTables) (i : ℕ) (d : PartTables) → i < length ps → flat f (take (suc i) ps) ≡ flat f (take i ps) ++ f (get_or ps i d)
flat-next f [] i d u = absurd (omega arith)
flat-next f (p ∷ ps) zero d u = append-nil (f p)
flat-next f (p ∷ ps) (suc i) d u = ap (λ (l : List K). f p ++ l) (flat-next f ps i d (omega arith)) ∙ sym (append_assoc (f p) (flat f (take i ps)) (f (get_or ps i d)))

pub flat-more : (f : PartTables → List K) (ps : List PartTables) (i : ℕ) (p : PartTables) (t t' : List K) → i < length ps → p ≡ get_or ps i p → t ≡ flat f (take i ps) → t' ≡ t ++ f p → t' ≡ flat f (take (i + 1) ps)
flat-more f ps i p t t' u is before after =
    after
    ∙ ap₂ (λ (a : List K) (q : PartTables). a ++ f q) before is
    ∙ sym (flat-next f ps i p u)
    ∙ ap (λ (n : ℕ). flat f (take n ps)) (sym (add-one i))

pub flat-all : (f : PartTables → List K) (ps : List PartTables) (n : ℕ) → length ps ≡ n → flat f (take n ps) ≡ flat f ps
flat-all f ps n e = ap (flat f) (take-all n ps e)

-- parts of n values each
pub length-flat : (f : PartTables → List K) (ps : List PartTables) (n : ℕ) → ((i : ℕ) (d : PartTables) → i < length ps → length (f (get_or ps i d)) ≡ n) → length (flat f ps) ≡ length ps * n
length-flat f [] n e = omega arith
length-flat f (p ∷ ps) n e = let here = e 0 p (omega arith) in let r = length-flat f ps n (λ i d u. e (suc i) d (omega arith)) in omega (arith, length-append (f p) (flat f ps))

-- a place of the whole is a place of one part
pub flat-read : (f : PartTables → List K) (ps : List PartTables) (n p j : ℕ) (x : K) (d : PartTables) → ((i : ℕ) (d : PartTables) → i < length ps → length (f (get_or ps i d)) ≡ n) → p < length ps → j < n → get_or (flat f ps) (p * n + j) x ≡ get_or (f (get_or ps p d)) j x
flat-read f [] n p j x d e u v = absurd (omega arith)
flat-read f (q ∷ ps) n zero j x d e u v = let here = e 0 d (omega arith) in ap (λ (i : ℕ). get_or (f q ++ flat f ps) i x) (omega arith) ∙ get_or_append_left (f q) (flat f ps) x j (omega arith)
flat-read f (q ∷ ps) n (suc p) j x d e u v = let here = e 0 d (omega arith) in
    ap (λ (i : ℕ). get_or (f q ++ flat f ps) i x) (omega arith)
    ∙ get_or-append_right (f q) (flat f ps) n (n + (p * n + j)) x here (omega arith)
    ∙ ap (λ (i : ℕ). get_or (flat f ps) i x) (omega arith)
    ∙ flat-read f ps n p j x d (λ i d u. e (suc i) d (omega arith)) (omega arith) v

-- parts that are halved by themselves are the whole, folded
pub flat-halved : (f : PartTables → List K) (r : K) (ps : List PartTables) (n : ℕ) → 0 < n → ((p : PartTables) → f (folded_part r p) ≡ halved r (f p)) → ((i : ℕ) (d : PartTables) → i < length ps → length (f (get_or ps i d)) ≡ 2 * n)
    → flat f (map (folded_part r) ps) ≡ folded k_ops (flat f ps) r
flat-halved f r [] n some is e = refl
flat-halved f r (p ∷ ps) n some is e = let here = e 0 p (omega arith) in
    ap₂ (λ (a b : List K). a ++ b) (is p ∙ halved-even n r (f p) here some) (flat-halved f r ps n some is (λ i d u. e (suc i) d (omega arith)))
    ∙ sym (folded-append k_ops n (f p) (flat f ps) r here)

-- the parts passed are folded, and the others are as they were
folded-next : (r : K) (ps : List PartTables) (i : ℕ) (d q : PartTables) → i < length ps → q ≡ folded_part r (get_or ps i d) → set (map (folded_part r) (take i ps) ++ drop i ps) i q ≡ map (folded_part r) (take (suc i) ps) ++ drop (suc i) ps
folded-next r [] i d q u is = absurd (omega arith)
folded-next r (p ∷ ps) zero d q u is = ap (λ (p : PartTables). p ∷ ps) is
folded-next r (p ∷ ps) (suc i) d q u is = ap (λ (l : List PartTables). folded_part r p ∷ l) (folded-next r ps i d q (omega arith) is)

read-behind : (r : K) (ps : List PartTables) (i : ℕ) (d : PartTables) → i < length ps → get_or (map (folded_part r) (take i ps) ++ drop i ps) i d ≡ get_or ps i d
read-behind r [] i d u = absurd (omega arith)
read-behind r (p ∷ ps) zero d u = refl
read-behind r (p ∷ ps) (suc i) d u = read-behind r ps i d (omega arith)

pub folded-more : (r : K) (ps now : List PartTables) (i : ℕ) (p q : PartTables) → i < length ps → now ≡ map (folded_part r) (take i ps) ++ drop i ps → p ≡ get_or now i p → q ≡ folded_part r p → set now i q ≡ map (folded_part r) (take (i + 1) ps) ++ drop (i + 1) ps
folded-more r ps now i p q u before is after =
    let old : p ≡ get_or ps i p = is ∙ ap (λ (l : List PartTables). get_or l i p) before ∙ read-behind r ps i p u in
    ap (λ (l : List PartTables). set l i q) before
    ∙ folded-next r ps i p q u (after ∙ ap (folded_part r) old)
    ∙ ap (λ (n : ℕ). map (folded_part r) (take n ps) ++ drop n ps) (sym (add-one i))

pub behind-read : (r : K) (ps now : List PartTables) (i : ℕ) (p : PartTables) → i < length ps → now ≡ map (folded_part r) (take i ps) ++ drop i ps → p ≡ get_or now i p → p ≡ get_or ps i p
behind-read r ps now i p u before is = is ∙ ap (λ (l : List PartTables). get_or l i p) before ∙ read-behind r ps i p u

pub flat-append : (f : PartTables → List K) (a b : List PartTables) → flat f (a ++ b) ≡ flat f a ++ flat f b
flat-append f [] b = refl
flat-append f (p ∷ a) b = ap (λ (l : List K). f p ++ l) (flat-append f a b) ∙ sym (append_assoc (f p) (flat f a) (flat f b))

pub front-more : {A : Type 0} (t : List A) (a n : ℕ) → take a t ++ take n (drop a t) ≡ take (a + n) t
front-more t zero n = ap (λ (k : ℕ). take k t) (omega arith)
front-more {A} [] (suc a) n = take-nothing n ∙ sym (take-nothing (suc a + n)) where
  take-nothing : (n : ℕ) → take n (let l : List A = [] in l) ≡ []
  take-nothing zero = refl
  take-nothing (suc n) = refl
front-more (x ∷ t) (suc a) n = let e : suc (a + n) ≡ suc a + n = omega arith in ap (λ (l : List _). x ∷ l) (front-more t a n) ∙ ap (λ (k : ℕ). take k (x ∷ t)) e

pub length-range : {A : Type 0} (t : List A) (a n : ℕ) → a + n ≤ length t → length (slice_range t a (a + n)) ≡ n
length-range t a n u = let width : a + n - a ≡ n = omega arith in length-take-le (a + n - a) (drop a t) (omega (arith, length-drop a t)) ∙ width

pub fits-more : (i m n size : ℕ) → i < m → size ≡ m * n → (i + 1) * n ≤ size
fits-more i m n size u e = let more : m ≡ i + 1 + (m - i - 1) = omega arith in let d : m * n ≡ (i + 1 + (m - i - 1)) * n = ap (λ (k : ℕ). k * n) more in omega arith

-- one part more is written, with the next n values of the table
pub written-more : (f : PartTables → List K) (ps : List PartTables) (i n : ℕ) (q : PartTables) (t : List K) → i < length ps → flat f (take i ps) ≡ take (i * n) t → f q ≡ slice_range t (i * n) (i * n + n) → flat f (take (i + 1) (set ps i q)) ≡ take ((i + 1) * n) t
written-more f ps i n q t u before here =
    let width : i * n + n - i * n ≡ n = omega arith in
    let next : i * n + n ≡ (i + 1) * n = omega arith in
    ap (flat f) (take_more_set ps i q u)
    ∙ flat-append f (take i ps) (q ∷ [])
    ∙ ap₂ (λ (a b : List K). a ++ b) before (append-nil (f q) ∙ here ∙ ap (λ (k : ℕ). take k (drop (i * n) t)) width)
    ∙ front-more t (i * n) n
    ∙ ap (λ (k : ℕ). take k t) next

pub sized-more : (P : PartTables → Type 0) (ps : List PartTables) (i : ℕ) (q : PartTables) → i < length ps → All P (take i ps) → P q → All P (take (i + 1) (set ps i q))
sized-more P ps i q u all here = subst (All P) (sym (take_more_set ps i q u)) (All-append P (take i ps) (q ∷ []) all (All-cons P q [] here (All-nil P)))

pub all-passed : (P : PartTables → Type 0) (ps : List PartTables) (n : ℕ) → length ps ≡ n → All P (take n ps) → All P ps
all-passed P ps n e all = subst (All P) (take-all n ps e) all

pub all-written : (f : PartTables → List K) (ps : List PartTables) (n i : ℕ) (t : List K) → length ps ≡ i → length t ≡ i * n → flat f (take i ps) ≡ take (i * n) t → flat f ps ≡ t
all-written f ps n i t e s h = sym (ap (flat f) (take-all i ps e)) ∙ h ∙ take-all (i * n) t s

pub none-folded : (r : K) (ps : List PartTables) → ps ≡ map (folded_part r) (take 0 ps) ++ drop 0 ps
none-folded r ps = refl

pub all-folded : (r : K) (ps now : List PartTables) (i : ℕ) → length ps ≡ i → now ≡ map (folded_part r) (take i ps) ++ drop i ps → now ≡ map (folded_part r) ps
all-folded r ps now i e is = is ∙ ap₂ (λ (a b : List PartTables). map (folded_part r) a ++ b) (take-all i ps e) (none-left ps i e) ∙ append-nil (map (folded_part r) ps) where
  none-left : (ps : List PartTables) (i : ℕ) → length ps ≡ i → drop i ps ≡ []
  none-left [] zero e = refl
  none-left [] (suc i) e = refl
  none-left (p ∷ ps) zero e = absurd (omega arith)
  none-left (p ∷ ps) (suc i) e = none-left ps i (omega arith)

pub length-folded-so-far : (r : K) (ps now : List PartTables) (i : ℕ) → i ≤ length ps → now ≡ map (folded_part r) (take i ps) ++ drop i ps → length now ≡ length ps
length-folded-so-far r ps now i u is = ap length is ∙ here r ps i where
  here : (r : K) (ps : List PartTables) (i : ℕ) → length (map (folded_part r) (take i ps) ++ drop i ps) ≡ length ps
  here r [] zero = refl
  here r [] (suc i) = refl
  here r (p ∷ ps) zero = refl
  here r (p ∷ ps) (suc i) = ap (λ (n : ℕ). suc n) (here r ps i)

-- a list of one part
pub one-part : (f : PartTables → List K) (ps : List PartTables) (q : PartTables) → length ps ≡ 1 → flat f (set ps 0 q) ≡ f q
one-part f [] q e = absurd (omega arith)
one-part f (p ∷ []) q e = append-nil (f q)
one-part f (p ∷ o ∷ ps) q e = absurd (omega arith)

pub one-holds : (P : PartTables → Type 0) (ps : List PartTables) (q : PartTables) → length ps ≡ 1 → P q → All P (set ps 0 q)
one-holds P [] q e h = absurd (omega arith)
one-holds P (p ∷ []) q e h = All-cons P q [] h (All-nil P)
one-holds P (p ∷ o ∷ ps) q e h = absurd (omega arith)

-- as many values as parts of one
pub length-ones : (f : PartTables → List K) (ps : List PartTables) → ((p : PartTables) → HasSize 1 p → length (f p) ≡ 1) → All (HasSize 1) ps → length (flat f ps) ≡ length ps
length-ones f ps one sizes = length-flat f ps 1 (λ i d u. one (get_or ps i d) (sizes i d u)) ∙ omega arith

-- a part with the values of parts of one value
pub gathered-size : (ps : List PartTables) (q : PartTables) → q.table ≡ flat_table ps → q.scales ≡ flat_scales ps → q.shifts ≡ flat_shifts ps → All (HasSize 1) ps → HasSize (length ps) q
gathered-size ps q t s h sizes = record {
  table = ap length t ∙ length-ones (λ p. p.table) ps (λ p z. z.table) sizes;
  scales = ap length s ∙ length-ones (λ p. p.scales) ps (λ p z. z.scales) sizes;
  shifts = ap length h ∙ length-ones (λ p. p.shifts) ps (λ p z. z.shifts) sizes;
}

pub folded-steps : (i half : ℕ) (p : PartTables) (before now more : ℕ) → HasSize (2 * half) p → now ≡ before + 3 * (i * half) → more ≡ now + part_pairs p → more ≡ before + 3 * ((i + 1) * half)
folded-steps i half p before now more size e d = let t = halves (length p.table) half size.table in let s = halves (length p.scales) half size.scales in let h = halves (length p.shifts) half size.shifts in omega arith where
  halves : (n half : ℕ) → n ≡ 2 * half → n / 2 ≡ half
  halves n half e = omega arith
