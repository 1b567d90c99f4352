-- Adding one outcome after another.
use Rattle.std.proofs.Common.{◌≡◌, ◌⊎◌, ℕ, zero, suc, ◌+◌, ◌<◌, ◌≤◌, Bool, true, false, cond, List, [], ◌∷◌, ◌++◌, length, take, get_or, set, Option, Some, None, All, refl, sym, ap, ◌∙◌, subst, inl, inr, arith, count_by, take-suc, get_or-set_same, get_or-set_other}
use Rattle.std.specs.Prelude.{◌==◌, bytes_eq}
use Rattle.std.specs.Option.{option_or}
use Rattle.std.proofs.lemmas.Bool.{cases_eq, eq-eqb, ne_eqb}
use Rattle.std.proofs.lemmas.List.{get_or-take, length-take-le, take_all}
use Rattle.std.proofs.lemmas.List.Elements.{All-push, Contains-get_or}
use Rattle.std.proofs.lemmas.List.Folds.{find-append}
use Rattle.std.proofs.lemmas.List.Sums.{count_by_more_no, count_by_more_yes}
use Rattle.std.proofs.lemmas.Option.{none-some, same_Some}
use Rattle.audit_model.specs.declared.outcome.Outcome.{Outcome}
use Rattle.audit_model.specs.Trajectory.{empty_histogram}
use Rattle.audit_model.specs.Run.{with_id}
use Rattle.outcome_book.proofs.ById.{not_found}
use Rattle.outcome_book.proofs.Indexed.{absent_of_share}
use Rattle.outcome_book.specs.Placed.{those_there, ArePlacedById}
use Rattle.outcome_book.specs.Union.{AgreesWith, AreById, HoldsBoth, IsFirstDifference, fuller, fuller_if}
use Rattle.outcome_book.proofs.Tables.{found_there, placed_set}

-- combining with none changes nothing
pub joined_none : (x : Option Outcome) → fuller_if x None ≡ x
joined_none None = refl
joined_none (Some o) = refl

-- the combination keeps the id
pub kept_id : (existing : Option Outcome) (o kept : Outcome) → ((x : Outcome) → existing ≡ Some x → x.id ≡ o.id) → Some kept ≡ fuller_if existing (Some o) → kept.id ≡ o.id
kept_id None o kept same e = ap (λ (x : Outcome). x.id) (same_Some kept o e)
kept_id (Some h) o kept same e =
    ap (λ (x : Outcome). x.id) (same_Some kept (fuller h o) e) ∙ by (bytes_eq h.bins empty_histogram) (same h refl)
  where
    by : (b : Bool) → h.id ≡ o.id → (cond b o h).id ≡ o.id
    by true s = refl
    by false s = s

module _ (ps : List (Option Outcome)) (placed : ArePlacedById 0 ps) (o kept : Outcome) (l : o.id < length ps) (is : Some kept ≡ fuller_if (get_or ps o.id None) (Some o)) where
  kept_is : kept.id ≡ o.id
  kept_is = kept_id (get_or ps o.id None) o kept (λ x e. omega (arith, placed o.id x e)) is

  pub placed_more : ArePlacedById 0 (set ps o.id (Some kept))
  placed_more = placed_set ps o.id kept placed l kept_is

  pub both_more : HoldsBoth (those_there ps) (o ∷ []) (those_there (set ps o.id (Some kept)))
  both_more id = found_there (set ps o.id (Some kept)) id placed_more ∙ elim (cases_eq id o.id) [
    | inl same ↦
        ap (λ i. get_or (set ps o.id (Some kept)) i None) same
        ∙ get_or-set_same ps o.id (Some kept) None l
        ∙ is
        ∙ ap (λ x. fuller_if x (Some o)) (ap (λ i. get_or ps i None) (sym same) ∙ sym (found_there ps id placed))
        ∙ ap (λ b. fuller_if (with_id (those_there ps) id) (cond b (Some o) None)) (sym (eq-eqb o.id id (sym same)))
    | inr off ↦
        get_or-set_other ps o.id id (Some kept) None off
        ∙ sym (found_there ps id placed)
        ∙ sym (joined_none (with_id (those_there ps) id))
        ∙ ap (λ b. fuller_if (with_id (those_there ps) id) (cond b (Some o) None)) (sym (ne_eqb o.id id (λ e. off (sym e))))
  ]

-- ---- several

-- two outcomes added in turn equal their combination, if one is missing
next_joined : (x y q : Option Outcome) → ((y ≡ None) ⊎ (q ≡ None)) → fuller_if (fuller_if x y) q ≡ fuller_if x (option_or y q)
next_joined x None q either = ap (λ o. fuller_if o q) (joined_none x)
next_joined x (Some y) None either = joined_none (fuller_if x (Some y))
next_joined x (Some y) (Some q) (inl e) = absurd (none-some y (sym e))
next_joined x (Some y) (Some q) (inr e) = absurd (none-some q (sym e))

-- adding an outcome of an id that was not added before
pub holds_more : (xs ys zs ws : List Outcome) (o : Outcome) → HoldsBoth xs ys zs → HoldsBoth zs (o ∷ []) ws → with_id ys o.id ≡ None
    → HoldsBoth xs (ys ++ o ∷ []) ws
holds_more xs ys zs ws o before after new id =
    after id
    ∙ ap (λ x. fuller_if x (with_id (o ∷ []) id)) (before id)
    ∙ next_joined (with_id xs id) (with_id ys id) (with_id (o ∷ []) id) (elim (cases_eq o.id id) [
      | inl same ↦ inl (ap (with_id ys) (sym same) ∙ new)
      | inr off ↦ inr (ap (λ b. cond b (Some o) None) (ne_eqb o.id id off))
    ])
    ∙ ap (fuller_if (with_id xs id)) (sym (find-append (λ (x : Outcome). x.id == id) ys (o ∷ [])))

-- with rising ids, no earlier outcome has the id at a position
pub new_in_turn : (found : List Outcome) (k : ℕ) (d : Outcome) → AreById found → k < length found → with_id (take k found) (get_or found k d).id ≡ None
new_in_turn found k d rising l =
    not_found (take k found) (get_or found k d).id
    (absent_of_share [] found k d l (λ i e inside. refl) (λ i j e lt within same. absurd (omega (arith, rising i j e lt within, same))))

-- ---- the first contradiction

-- the first outcome that disagrees has the least such id
pub first_difference : (xs found : List Outcome) (k : ℕ) (d : Outcome) → AreById found → k < length found → All (AgreesWith xs) (take k found)
    → (AgreesWith xs (get_or found k d) → ⊥) → IsFirstDifference xs found (get_or found k d).id
first_difference xs found k d rising l agreed differs = record {
  other = get_or found k d;
  is_there = Contains-get_or found k d l;
  id_is = refl;
  differs = differs;
  least = λ j e inside before. elim (earlier j) [
    | inl lt ↦ subst (AgreesWith xs) (get_or-take k found j e lt) (agreed j e (in_front j lt))
    | inr le ↦ absurd (omega (arith, before, after j e le inside))
  ];
}
  where
    earlier : (j : ℕ) → (j < k) ⊎ (k ≤ j)
    earlier j = by j k
      where
        by : (i n : ℕ) → (i < n) ⊎ (n ≤ i)
        by i zero = inr (omega arith)
        by zero (suc n) = inl (omega arith)
        by (suc i) (suc n) = elim (by i n) [
          | inl h ↦ inl (omega (arith, h))
          | inr h ↦ inr (omega (arith, h))
        ]

    in_front : (j : ℕ) → j < k → j < length (take k found)
    in_front j lt = omega (arith, length-take-le k found (omega (arith, l)))

    same_at : (zs : List Outcome) (i : ℕ) (a b : Outcome) → i < length zs → get_or zs i a ≡ get_or zs i b
    same_at [] i a b inside = absurd (omega arith)
    same_at (z ∷ zs) zero a b inside = refl
    same_at (z ∷ zs) (suc i) a b inside = same_at zs i a b (omega arith)

    after : (j : ℕ) (e : Outcome) → k ≤ j → j < length found → (get_or found k d).id ≤ (get_or found j e).id
    after j e le inside = elim (cases_eq k j) [
      | inl same ↦
          let at : (get_or found k d).id ≡ (get_or found j e).id = ap (λ (x : Outcome). x.id) (same_at found k d e l ∙ ap (λ i. get_or found i e) same) in
          omega (arith, at)
      | inr off ↦
          let at : (get_or found k d).id ≡ (get_or found k e).id = ap (λ (x : Outcome). x.id) (same_at found k d e l) in
          omega (arith, at, rising k j e (omega (arith, le, off)) inside)
    ]

-- ---- loops over a list

-- a prefix that is one item longer ends with the next item
pub take_next : (xs : List Outcome) (k next : ℕ) (d : Outcome) → k < length xs → next ≡ k + 1 → take next xs ≡ take k xs ++ get_or xs k d ∷ []
take_next xs k next d l is =
    let one : next ≡ suc k = omega (arith, is) in
    ap (λ n. take n xs) one ∙ take-suc xs k d l

-- a property of a prefix and of the next outcome holds of the longer prefix
pub each_more : (P : Outcome → Type 0) (xs : List Outcome) (k next : ℕ) (d : Outcome) → k < length xs → next ≡ k + 1 → All P (take k xs) → P (get_or xs k d)
    → All P (take next xs)
each_more P xs k next d l is all one = subst (All P) (sym (take_next xs k next d l is)) (All-push P (take k xs) (get_or xs k d) all one)

-- a property of a prefix of full length holds of all
pub each_of_all : (P : Outcome → Type 0) (xs : List Outcome) (k : ℕ) → length xs ≤ k → All P (take k xs) → All P xs
each_of_all P xs k le all = subst (All P) (take_all k xs le) all

-- the count over a prefix that is one item longer
pub count_more : (p : Outcome → Bool) (xs : List Outcome) (k : ℕ) (d : Outcome) → k < length xs
    → count_by p (take (k + 1) xs) ≡ count_by p (take k xs) + cond (p (get_or xs k d)) 1 0
count_more p xs k d l = by (p (get_or xs k d)) refl
  where
    by : (b : Bool) → p (get_or xs k d) ≡ b → count_by p (take (k + 1) xs) ≡ count_by p (take k xs) + cond b 1 0
    by true e = count_by_more_yes p xs k d l e
    by false e = omega (arith, count_by_more_no p xs k d l e)

-- the count of one outcome is 0 or 1
pub one_at_most : (b : Bool) → cond b 1 0 ≤ 1
one_at_most true = omega arith
one_at_most false = omega arith
