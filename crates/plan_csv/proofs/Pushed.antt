-- Lists with one more item.
use Rattle.std.proofs.Common.{◌≡◌, ◌<◌, ◌≤◌, ◌-◌, ◌++◌, ◌∙◌, ℕ, zero, suc, List, [], ◌∷◌, length, map, take, drop, refl, sym, ap, arith, get_or}
use Rattle.std.specs.List.{slice_index_or}
use Rattle.audit_model.proofs.ListFacts.{take_own}
use Rattle.csv.specs.Records.{Row, fields_of}

-- the appended item is the last one
pub push_same : {A : Type 0} → (xs : List A) (x d : A) → slice_index_or (xs ++ x ∷ []) (length xs) d ≡ x
push_same [] x d = refl
push_same (y ∷ xs) x d = push_same xs x d

-- appending keeps the earlier items
pub push_other : {A : Type 0} → (xs : List A) (x d : A) (k : ℕ) → k < length xs → slice_index_or (xs ++ x ∷ []) k d ≡ slice_index_or xs k d
push_other [] x d k l = absurd (omega arith)
push_other (y ∷ xs) x d zero l = refl
push_other (y ∷ xs) x d (suc k) l = push_other xs x d k (omega arith)

-- the fields at a position are those of the record there
pub row_is : (rows : List Row) (k : ℕ) (row : Row) → k < length rows → row ≡ get_or rows k row → slice_index_or (map fields_of rows) k [] ≡ fields_of row
row_is [] k row l is = absurd (omega arith)
row_is (r ∷ rows) zero row l is = ap fields_of (sym is)
row_is (r ∷ rows) (suc k) row l is = row_is rows k row (omega arith) is

-- the item at a position, for any default
pub item_is : {A : Type 0} → (xs : List A) (k : ℕ) (x d : A) → k < length xs → x ≡ get_or xs k x → slice_index_or xs k d ≡ x
item_is [] k x d l is = absurd (omega arith)
item_is (y ∷ xs) zero x d l is = sym is
item_is (y ∷ xs) (suc k) x d l is = item_is xs k x d (omega arith) is

-- the first record and the others are all records
pub split_first : (xs : List Row) (x : Row) → 1 ≤ length xs → x ≡ get_or xs 0 x → fields_of x ∷ map fields_of (take (length xs - 1) (drop 1 xs)) ≡ map fields_of xs
split_first [] x l is = absurd (omega arith)
split_first (y ∷ xs) x l is =
    let size : length (y ∷ xs) - 1 ≡ length xs = omega arith in
    ap (λ r. fields_of r ∷ map fields_of (take (length (y ∷ xs) - 1) xs)) is
    ∙ ap (λ (rs : List Row). fields_of y ∷ map fields_of rs) (ap (λ n. take n xs) size ∙ take_own xs)
