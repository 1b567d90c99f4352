-- Tables with a place for each id.
use Rattle.std.proofs.Common.{◌≡◌, ℕ, zero, suc, ◌+◌, ◌<◌, ◌≤◌, cond, List, [], ◌∷◌, ◌++◌, length, take, drop, get_or, set, replicate, Option, Some, None, All, refl, sym, ap, ◌∙◌, inl, inr, arith, length-append, get_or-set_same, get_or-set_other}
use Rattle.std.proofs.lemmas.Bool.{cases_eq, eq-eqb, ne_eqb}
use Rattle.std.proofs.lemmas.List.{take-append-drop}
use Rattle.std.proofs.lemmas.List.Elements.{All-nil, All-cons}
use Rattle.std.proofs.lemmas.List.Kept.{AllPairs-cons}
use Rattle.std.proofs.lemmas.Option.{none-some, same_Some}
use Rattle.std.proofs.Math.Seq.{take-suc}
use Rattle.audit_model.specs.declared.outcome.Outcome.{Outcome}
use Rattle.audit_model.specs.Run.{with_id}
use Rattle.outcome_book.specs.Placed.{those_there, ArePlacedById}
use Rattle.outcome_book.specs.Union.{AreById, MayBeAdded}

-- places after the first belong to later ids
later : (f : ℕ) (p : Option Outcome) (ps : List (Option Outcome)) → ArePlacedById f (p ∷ ps) → ArePlacedById (suc f) ps
later f p ps placed = λ k o e. omega (arith, placed (suc k) o e)

-- the outcome at the first place has the first id
first_id : (f : ℕ) (o : Outcome) (ps : List (Option Outcome)) → ArePlacedById f (Some o ∷ ps) → o.id ≡ f
first_id f o ps placed = omega (arith, placed 0 o refl)

-- all ids are at least the first
from_first : (f : ℕ) (ps : List (Option Outcome)) → ArePlacedById f ps → All (λ o. f ≤ o.id) (those_there ps)
from_first f [] placed = All-nil (λ (o : Outcome). f ≤ o.id)
from_first f (None ∷ ps) placed = λ k d l. omega (arith, from_first (suc f) ps (later f None ps placed) k d l)
from_first f (Some o ∷ ps) placed =
    All-cons (λ (x : Outcome). f ≤ x.id) o (those_there ps) (omega (arith, first_id f o ps placed))
    (λ k d l. omega (arith, from_first (suc f) ps (later f (Some o) ps placed) k d l))

-- the outcomes of a table have rising ids
pub rising_there : (f : ℕ) (ps : List (Option Outcome)) → ArePlacedById f ps → AreById (those_there ps)
rising_there f [] placed = λ i j d lt within. absurd (omega arith)
rising_there f (None ∷ ps) placed = rising_there (suc f) ps (later f None ps placed)
rising_there f (Some o ∷ ps) placed =
    AllPairs-cons (λ (a b : Outcome). a.id < b.id) o (those_there ps)
    (λ k d l. omega (arith, first_id f o ps placed, from_first (suc f) ps (later f (Some o) ps placed) k d l))
    (rising_there (suc f) ps (later f (Some o) ps placed))

-- no outcome has an id below the first
before_first : (f : ℕ) (ps : List (Option Outcome)) (id : ℕ) → ArePlacedById f ps → id < f → with_id (those_there ps) id ≡ None
before_first f [] id placed l = refl
before_first f (None ∷ ps) id placed l = before_first (suc f) ps id (later f None ps placed) (omega arith)
before_first f (Some o ∷ ps) id placed l =
    ap (λ b. cond b (Some o) (with_id (those_there ps) id)) (ne_eqb o.id id (λ e. absurd (omega (arith, first_id f o ps placed))))
    ∙ before_first (suc f) ps id (later f (Some o) ps placed) (omega arith)

-- the lookup of an id finds its place
found_from : (f : ℕ) (ps : List (Option Outcome)) (k id : ℕ) → ArePlacedById f ps → id ≡ f + k → with_id (those_there ps) id ≡ get_or ps k None
found_from f [] k id placed e = refl
found_from f (None ∷ ps) zero id placed e = before_first (suc f) ps id (later f None ps placed) (omega arith)
found_from f (None ∷ ps) (suc k) id placed e = found_from (suc f) ps k id (later f None ps placed) (omega arith)
found_from f (Some o ∷ ps) zero id placed e =
    ap (λ b. cond b (Some o) (with_id (those_there ps) id)) (eq-eqb o.id id (omega (arith, first_id f o ps placed)))
found_from f (Some o ∷ ps) (suc k) id placed e =
    ap (λ b. cond b (Some o) (with_id (those_there ps) id)) (ne_eqb o.id id (λ s. absurd (omega (arith, first_id f o ps placed))))
    ∙ found_from (suc f) ps k id (later f (Some o) ps placed) (omega arith)

-- the lookup of an id finds its place, for a table from id 0
pub found_there : (ps : List (Option Outcome)) (id : ℕ) → ArePlacedById 0 ps → with_id (those_there ps) id ≡ get_or ps id None
found_there ps id placed = found_from 0 ps id id placed (omega arith)

-- there are at most as many outcomes as places
pub few_there : (ps : List (Option Outcome)) → length (those_there ps) ≤ length ps
few_there [] = omega arith
few_there (None ∷ ps) = omega (arith, few_there ps)
few_there (Some o ∷ ps) = omega (arith, few_there ps)

-- rising ids from one bound to another are at most the ids between
few_between : (from total : ℕ) (xs : List Outcome) → AreById xs → All (λ o. from ≤ o.id) xs → All (λ o. o.id < total) xs → from ≤ total → from + length xs ≤ total
few_between from total [] rising above below le = omega (arith, le)
few_between from total (x ∷ xs) rising above below le =
    let first : from ≤ x.id = above 0 x (omega arith) in
    let inside : x.id < total = below 0 x (omega arith) in
    let rest = few_between (suc from) total xs (λ i j d lt within. rising (suc i) (suc j) d (omega (arith, lt)) (omega (arith, within)))
    (λ k d l. omega (arith, first, rising 0 (suc k) d (omega arith) (omega (arith, l)))) (λ k d l. below (suc k) d (omega (arith, l)))
    (omega (arith, first, inside)) in
    omega (arith, rest)

-- at most one outcome per id may be added
pub few_added : (total : ℕ) (xs : List Outcome) → MayBeAdded total xs → length xs ≤ total
few_added total xs may = omega (arith, few_between 0 total xs may.rising (λ k d l. omega arith) may.below (omega arith))

-- ---- an empty table

-- an empty table has no outcomes
pub none_there : (n : ℕ) → those_there (replicate n None) ≡ []
none_there zero = refl
none_there (suc n) = none_there n

-- each place of an empty table is empty
none_at : (n k : ℕ) → get_or (replicate {A = Option Outcome} n None) k None ≡ None
none_at zero k = refl
none_at (suc n) zero = refl
none_at (suc n) (suc k) = none_at n k

-- an empty table has each outcome at its place
pub placed_none : (n : ℕ) → ArePlacedById 0 (replicate n None)
placed_none n = λ k o e. absurd (none-some o (sym (none_at n k) ∙ e))

-- ---- one more outcome

-- an outcome put at its own place
pub placed_set : (ps : List (Option Outcome)) (id : ℕ) (o : Outcome) → ArePlacedById 0 ps → id < length ps → o.id ≡ id → ArePlacedById 0 (set ps id (Some o))
placed_set ps id o placed l is = λ k x e. elim (cases_eq k id) [
  | inl same ↦
      let at : Some o ≡ Some x = sym (get_or-set_same ps id (Some o) None l) ∙ ap (λ i. get_or (set ps id (Some o)) i None) (sym same) ∙ e in
      let it : o.id ≡ x.id = ap (λ (y : Outcome). y.id) (same_Some o x at) in
      omega (arith, it, is, same)
  | inr off ↦ placed k x (sym (get_or-set_other ps id k (Some o) None off) ∙ e)
]

-- ---- the beginning of a table

-- the outcomes of two appended tables
those-append : (ps qs : List (Option Outcome)) → those_there (ps ++ qs) ≡ those_there ps ++ those_there qs
those-append [] qs = refl
those-append (None ∷ ps) qs = those-append ps qs
those-append (Some o ∷ ps) qs = ap (λ xs. o ∷ xs) (those-append ps qs)

module _ (ps : List (Option Outcome)) (k next : ℕ) (l : k < length ps) (is : next ≡ k + 1) (d : Option Outcome) where
  pub next_there : those_there (take next ps) ≡ those_there (take k ps) ++ those_there (get_or ps k d ∷ [])
  next_there =
      let one : next ≡ suc k = omega (arith, is) in
      ap (λ n. those_there (take n ps)) one ∙ ap those_there (take-suc ps k d l) ∙ those-append (take k ps) (get_or ps k d ∷ [])

  pub next_has_room : length (those_there (take k ps)) + length (those_there (get_or ps k d ∷ [])) ≤ length (those_there ps)
  next_has_room =
      omega (
        arith,
        ap length next_there,
        length-append (those_there (take k ps)) (those_there (get_or ps k d ∷ [])),
        ap (λ (xs : List (Option Outcome)). length (those_there xs)) (take-append-drop next ps),
        ap length (those-append (take next ps) (drop next ps)),
        length-append (those_there (take next ps)) (those_there (drop next ps)),
      )
