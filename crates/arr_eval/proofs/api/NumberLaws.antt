-- Laws of sums, products of matrices and transposes.
use Rattle.std.proofs.Common.{◌≡◌, ℕ, ◌+◌, ◌*◌, ◌/◌, ◌%◌, ◌<◌, List, [], ◌∷◌, ◌++◌, map, length, fold, refl, ap, sym, ◌∙◌, arith}
use Rattle.std.specs.List.{zip, range_with_len}
use Rattle.std.proofs.Math.Nat.{mul_comm}
use Rattle.std.proofs.lemmas.Nat.{mul-add-lt, div-mul-add, mod-mul-add}
use Rattle.std.proofs.lemmas.List.FromFn.{get_or-map-range_with_len}
use Rattle.std.proofs.lemmas.List.Sums.{fold-append}
use Rattle.std.proofs.lemmas.List.Folds.{fold-map}
use Rattle.field_ext.specs.Field.{F, of, add_f, mul_f}
use Rattle.arr_eval.specs.Numbers.{element, element_wise, sum_of, dot_of, transpose_of, product_at, matmul_of, row, column}
use Rattle.field_ext.proofs.api.Elements.{of-value, of_same, of_self}
use Rattle.shared_list.proofs.api.Transposes.{turned-item, turned_twice}

-- zero changes nothing
pub zero-add_f : (x : F) → add_f (of 0) x ≡ x
zero-add_f x =
    of_same ((of 0).value + x.value) x.value (let zero_value = of-value 0 in omega (arith, zero_value)) ∙ of_self x

pub add_f-assoc : (x y z : F) → add_f (add_f x y) z ≡ add_f x (add_f y z)
add_f-assoc x y z =
    of_same ((add_f x y).value + z.value) (x.value + (add_f y z).value)
    (let left = of-value (x.value + y.value) in let right = of-value (y.value + z.value) in omega (arith, left, right))

-- a total that goes on from t is t more than one that begins at zero
pub from_total : (t : F) (items : List F) → fold add_f t items ≡ add_f t (sum_of items)
from_total t [] = sym (of_same (t.value + (of 0).value) t.value (let zero_value = of-value 0 in omega (arith, zero_value)) ∙ of_self t)
from_total t (x ∷ items) =
    from_total (add_f t x) items
    ∙ add_f-assoc t x (sum_of items)
    ∙ ap (add_f t) (sym (ap (λ start. fold add_f start items) (zero-add_f x) ∙ from_total x items))

pub sum_of-append : (front rest : List F) → sum_of (front ++ rest) ≡ add_f (sum_of front) (sum_of rest)
sum_of-append front rest = fold-append add_f (of 0) front rest ∙ from_total (sum_of front) rest

-- products place by place
products : (f g : ℕ → F) (places : List ℕ) → element_wise mul_f (map f places) (map g places) ≡ map (λ l. mul_f (f l) (g l)) places
products f g [] = refl
products f g (l ∷ places) = ap (λ rest. mul_f (f l) (g l) ∷ rest) (products f g places)

pub product_at-dot : (m q : ℕ) (left right : List F) (i j : ℕ) → product_at m q left right i j ≡ dot_of (row m left i) (column m q right j)
product_at-dot m q left right i j =
    ap sum_of (sym (products (λ l. element left (i * m + l)) (λ l. element right (l * q + j)) (range_with_len 0 m)))

pub matmul_element : (n m q : ℕ) (left right : List F) (i j : ℕ) → i < n → j < q →
    element (matmul_of n m q left right) (i * q + j) ≡ dot_of (row m left i) (column m q right j)
matmul_element n m q left right i j row_in column_in =
    let inside : i * q + j < n * q = omega (arith, mul-add-lt i q j n row_in column_in, mul_comm n q) in
    get_or-map-range_with_len (λ k. product_at m q left right (k / q) (k % q)) 0 (n * q) (i * q + j) (i * q + j) (of 0) inside (omega arith)
    ∙ ap (λ a. product_at m q left right a ((i * q + j) % q)) (div-mul-add i q j column_in)
    ∙ ap (product_at m q left right i) (mod-mul-add i q j column_in)
    ∙ product_at-dot m q left right i j

-- the element at a place of a transpose
pub transpose_at : (n m : ℕ) (numbers : List F) (i j : ℕ) → i < n → j < m → element (transpose_of n m numbers) (j * n + i) ≡ element numbers (i * m + j)
transpose_at n m numbers i j row_in column_in = turned-item (of 0) (of 0) n m numbers i j row_in column_in

pub transposed_twice : (n m : ℕ) (numbers : List F) → length numbers ≡ n * m → transpose_of m n (transpose_of n m numbers) ≡ numbers
transposed_twice n m numbers size = turned_twice (of 0) (of 0) n m numbers size

pub dot_of-fold : (left right : List F) → dot_of left right ≡ fold (λ total pair. add_f total (mul_f pair.0 pair.1)) (of 0) (zip left right)
dot_of-fold left right = fold-map add_f (λ (pair : F × F). mul_f pair.0 pair.1) (of 0) (zip left right)
