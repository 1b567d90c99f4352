-- The grid's text is far below the size limit of a source.
use Rattle.std.proofs.Common.{◌≡◌, ℕ, zero, suc, ◌+◌, ◌-◌, ◌*◌, ◌<◌, ◌≤◌, List, [], ◌∷◌, ◌++◌, map, length, get_or, codes, Option, Some, None, sym, subst, arith, length-append, suc-mul}
use Rattle.std.specs.Prelude.{decimal, option_to_list}
use Rattle.std.specs.List.{join_with_byte}
use Rattle.std.proofs.lemmas.Fmt.{length-decimal-le}
use Rattle.audit_model.specs.Below.{filter_below, map_below}
use Rattle.audit_statement.specs.Grid.{grid, grid_side, are_beside, first_votes_of, bracketed, neighbours_json, node_json}
use Rattle.grid_maker.specs.Beside.{above, left, right, below}
use Rattle.grid_maker.proofs.Districts.{district_of, units_of, few_units, district_below}
use Rattle.grid_maker.proofs.Finding.{item_passes}
use Rattle.grid_maker.proofs.Neighbours.{four_beside}

-- ---- lists of texts

-- the lengths of the texts, plus one byte each
abbrev total : List (List ℕ) → ℕ
total [] = 0
total (x ∷ xs) = length x + 1 + total xs

-- pieces joined by a byte are at most that long
length-joined : (c : ℕ) (xs : List (List ℕ)) → length (join_with_byte c xs) ≤ total xs
length-joined c [] = omega arith
length-joined c (x ∷ []) = omega arith
length-joined c (x ∷ y ∷ xs) = omega (arith, length-append x (c ∷ join_with_byte c (y ∷ xs)), length-joined c (y ∷ xs))

-- the total of appended lists is the sum of both totals
total-append : (xs ys : List (List ℕ)) → total (xs ++ ys) ≡ total xs + total ys
total-append [] ys = omega arith
total-append (x ∷ xs) ys = omega (arith, total-append xs ys)

-- n pieces of at most w bytes, comma included, total at most n * w
total-map_below : (n : ℕ) (f : ℕ → List ℕ) (w : ℕ) → ((i : ℕ) → i < n → length (f i) + 1 ≤ w) → total (map_below n f) ≤ n * w
total-map_below zero f w h = omega arith
total-map_below (suc n) f w h =
    let before = total-map_below n f w (λ i l. h i (omega (arith, l))) in
    let here = h n (omega arith) in
    omega (arith, total-append (map_below n f) (f n ∷ []), before, here, suc-mul n w)

-- mapped pieces of at most w bytes, comma included, total at most w per item
total-map : (xs : List ℕ) (f : ℕ → List ℕ) (w : ℕ) → ((i : ℕ) → i < length xs → length (f (get_or xs i 0)) + 1 ≤ w) → total (map f xs) ≤ length xs * w
total-map [] f w h = omega arith
total-map (x ∷ xs) f w h =
    let here = h 0 (omega arith) in
    let after = total-map xs f w (λ i l. h (suc i) (omega (arith, l))) in
    omega (arith, here, after, suc-mul (length xs) w)

-- pieces in brackets are at most two bytes longer than their total
length-bracketed : (parts : List (List ℕ)) → length (bracketed parts) ≤ total parts + 2
length-bracketed parts = omega (arith, length-append (codes "[" ++ join_with_byte 44 parts) (codes "]"), length-joined 44 parts)

-- ---- bounds on the parts of the text

-- a number below 100,000 has at most five digits
length-number : (n : ℕ) → n < 100000 → length (decimal n) ≤ 5
length-number n l = length-decimal-le 5 n (omega arith) (omega (arith, l)) (omega (arith, l))

-- an adjacency entry with at most five digits has at most 12 bytes
entry_around : (v : List ℕ) → length v ≤ 5 → length (codes "{\"id\":" ++ v ++ codes "}") ≤ 12
entry_around v short = omega (arith, short, length-append (codes "{\"id\":" ++ v) (codes "}"))

-- a node whose numbers have at most five digits has at most 59 bytes
node_around : (a b d u : List ℕ) → length a ≤ 5 → length b ≤ 5 → length d ≤ 5 → length u ≤ 5
    → length (codes "{\"a\":" ++ a ++ codes ",\"b\":" ++ b ++ codes ",\"district\":" ++ d ++ codes ",\"id\":" ++ u ++ codes ",\"pop\":100}") ≤ 59
node_around a b d u la lb ld lu = omega (
  arith,
  la,
  lb,
  ld,
  lu,
  length-append (codes "{\"a\":" ++ a) (codes ",\"b\":"),
  length-append (codes "{\"a\":" ++ a ++ codes ",\"b\":") b,
  length-append (codes "{\"a\":" ++ a ++ codes ",\"b\":" ++ b) (codes ",\"district\":"),
  length-append (codes "{\"a\":" ++ a ++ codes ",\"b\":" ++ b ++ codes ",\"district\":") d,
  length-append (codes "{\"a\":" ++ a ++ codes ",\"b\":" ++ b ++ codes ",\"district\":" ++ d) (codes ",\"id\":"),
  length-append (codes "{\"a\":" ++ a ++ codes ",\"b\":" ++ b ++ codes ",\"district\":" ++ d ++ codes ",\"id\":") u,
  length-append (codes "{\"a\":" ++ a ++ codes ",\"b\":" ++ b ++ codes ",\"district\":" ++ d ++ codes ",\"id\":" ++ u) (codes ",\"pop\":100}"),
)

-- a grid whose parts are short is within the size limit
grid_around : (l n : List ℕ) → length l ≤ 4950002 → length n ≤ 5400002
    → length (codes "{\"adjacency\":" ++ l ++ codes ",\"directed\":false,\"graph\":[],\"multigraph\":false,\"nodes\":" ++ n ++ codes "}") ≤ 67108864
grid_around l n ll ln = omega (
  arith,
  ll,
  ln,
  length-append (codes "{\"adjacency\":" ++ l) (codes ",\"directed\":false,\"graph\":[],\"multigraph\":false,\"nodes\":"),
  length-append (codes "{\"adjacency\":" ++ l ++ codes ",\"directed\":false,\"graph\":[],\"multigraph\":false,\"nodes\":") n,
  length-append (codes "{\"adjacency\":" ++ l ++ codes ",\"directed\":false,\"graph\":[],\"multigraph\":false,\"nodes\":" ++ n) (codes "}"),
)

-- ---- the grid

-- an option has at most one item
at_most_one : (o : Option ℕ) → length (option_to_list o) ≤ 1
at_most_one None = omega arith
at_most_one (Some v) = omega arith

-- four lists of at most one item have at most four
at_most_four : (a b c d : List ℕ) → length a ≤ 1 → length b ≤ 1 → length c ≤ 1 → length d ≤ 1 → length (a ++ b ++ c ++ d) ≤ 4
at_most_four a b c d la lb lc ld = omega (arith, la, lb, lc, ld, length-append a b, length-append (a ++ b) c, length-append (a ++ b ++ c) d)

module _ (size : ℕ) (some : 1 ≤ size) (small : size ≤ 30) where
  few_beside : (u : ℕ) → u < units_of size → length (filter_below (units_of size) (are_beside size u)) ≤ 4
  few_beside u l =
      subst (λ (xs : List ℕ). length xs ≤ 4) (sym (four_beside size u some l))
      (at_most_four (option_to_list (above (grid_side size) u)) (option_to_list (left (grid_side size) u)) (option_to_list (right (grid_side size) u)) (option_to_list (below (grid_side size) u))
      (at_most_one (above (grid_side size) u)) (at_most_one (left (grid_side size) u)) (at_most_one (right (grid_side size) u)) (at_most_one (below (grid_side size) u)))

  entry_short : (u i : ℕ) → i < length (filter_below (units_of size) (are_beside size u))
      → length (codes "{\"id\":" ++ decimal (get_or (filter_below (units_of size) (are_beside size u)) i 0) ++ codes "}") + 1 ≤ 13
  entry_short u i l =
      let inside = (item_passes (units_of size) (are_beside size u) i l).0 in
      let short = entry_around (decimal (get_or (filter_below (units_of size) (are_beside size u)) i 0))
      (length-number (get_or (filter_below (units_of size) (are_beside size u)) i 0) (omega (arith, inside, few_units size small))) in
      add_one _ 12 short
    where
      add_one : (a b : ℕ) → a ≤ b → a + 1 ≤ b + 1
      add_one a b l = omega (arith, l)

  length-neighbours : (u : ℕ) → u < units_of size → length (neighbours_json size u) + 1 ≤ 55
  length-neighbours u l =
      in_brackets (map (λ v. codes "{\"id\":" ++ decimal v ++ codes "}") (filter_below (units_of size) (are_beside size u)))
      (length (filter_below (units_of size) (are_beside size u)))
      (total-map (filter_below (units_of size) (are_beside size u)) (λ v. codes "{\"id\":" ++ decimal v ++ codes "}") 13 (entry_short u)) (few_beside u l)
    where
      in_brackets : (parts : List (List ℕ)) (count : ℕ) → total parts ≤ count * 13 → count ≤ 4 → length (bracketed parts) + 1 ≤ 55
      in_brackets parts count t few = let short = length-bracketed parts in omega (arith, t, few, short)

  length-node : (key : List ℕ) (u : ℕ) → u < units_of size → length (node_json size key u) + 1 ≤ 60
  length-node key u l =
      add_one _ 59
      (node_around (decimal (first_votes_of key u)) (decimal (100 - first_votes_of key u)) (decimal (district_of size u)) (decimal u)
      (length-number (first_votes_of key u) (omega arith)) (length-number (100 - first_votes_of key u) (omega arith))
      (length-number (district_of size u) (let d = district_below size u some l in omega (arith, d))) (length-number u (omega (arith, l, few_units size small))))
    where
      add_one : (a b : ℕ) → a ≤ b → a + 1 ≤ b + 1
      add_one a b l = omega (arith, l)

  many : (parts : List (List ℕ)) (n w most : ℕ) → total parts ≤ n * w → n * w ≤ most → length (bracketed parts) ≤ most + 2
  many parts n w most t few = let short = length-bracketed parts in omega (arith, t, few, short)

  pub short_grid : (key : List ℕ) → length (grid size key) ≤ 67108864
  unfolding grid
  short_grid key =
      let few = few_units size small in
      grid_around (bracketed (map_below (units_of size) (neighbours_json size))) (bracketed (map_below (units_of size) (node_json size key)))
      (many (map_below (units_of size) (neighbours_json size)) (units_of size) 55 4950000 (total-map_below (units_of size) (neighbours_json size) 55 length-neighbours) (omega (arith, few)))
      (many (map_below (units_of size) (node_json size key)) (units_of size) 60 5400000 (total-map_below (units_of size) (node_json size key) 60 (length-node key)) (omega (arith, few)))
