-- The union agrees with an outcome if each folder does, and otherwise some folder is the first that does not.
use Rattle.std.proofs.Common.{◌≡◌, ℕ, zero, suc, ◌+◌, ◌<◌, Bool, true, false, cond, List, [], ◌∷◌, ◌++◌, length, map, get_or, Option, Some, None, inl, inr, refl, sym, ap, ◌∙◌, subst, arith, length-append}
use Rattle.std.specs.Prelude.{bytes_eq, IfOk, OnOk, Result, Ok, Err}
use Rattle.std.proofs.lemmas.List.{get_or-map, map-append}
use Rattle.std.proofs.Math.ListN.{get_or-append}
use Rattle.std.proofs.Math.Seq.{get_or-append_seam}
use Rattle.std.proofs.lemmas.Bool.{cases_eq, eq-eqb, ne_eqb}
use Rattle.audit_model.specs.declared.outcome.Outcome.{Outcome}
use Rattle.audit_model.specs.Run.{with_id}
use Rattle.audit_model.specs.Trajectory.{empty_histogram}
use Rattle.outcome_book.specs.Union.{Agree, AgreeIf, AgreesWith, AreById, IsFirstDifference, IsUnion, fuller_if}
use Rattle.ckpt_store.specs.declared.finding.Finding.{Finding}
use Rattle.ckpt_store.specs.Collected.{Collected, IsCovered, IsFirstOther, passed_over}
use Rattle.ckpt_store.specs.Findings.{IsLeftOut}

-- one more folder that adds nothing
pub covered_passed : (c : Collected) → IsCovered c → IsCovered (passed_over c)
covered_passed c covered o all = covered o (λ k l. subst (λ (os : List Outcome). AgreesWith os o) (get_or-append c.lists ([] ∷ []) [] k l)
    (all k (omega (arith, l, length-append c.lists ([] ∷ [])))))

-- an outcome that agrees with two agrees with the one of them that is kept
joined_agrees : (a b : Option Outcome) (o : Outcome) → AgreeIf a (Some o) → AgreeIf b (Some o) → AgreeIf (fuller_if a b) (Some o)
joined_agrees None b o ha hb = hb
joined_agrees (Some a) None o ha hb = ha
joined_agrees (Some a) (Some b) o ha hb = by (bytes_eq a.bins empty_histogram)
  where
    by : (t : Bool) → Agree (cond t b a) o
    by true = hb
    by false = ha

-- one more folder whose outcomes are added
pub covered_union : (before after : Collected) (found : List Outcome) → IsUnion before.outcomes found after.outcomes → after.lists ≡ before.lists ++ found ∷ []
    → IsCovered before → IsCovered after
covered_union before after found u is covered o all =
    let each : (k : ℕ) → k < length (before.lists ++ found ∷ []) → AgreesWith (get_or (before.lists ++ found ∷ []) k []) o =
    subst (λ (ls : List (List Outcome)). (k : ℕ) → k < length ls → AgreesWith (get_or ls k []) o) is all in
    let long : length (before.lists ++ found ∷ []) ≡ length before.lists + 1 = length-append before.lists (found ∷ []) in
    subst (λ (x : Option Outcome). AgreeIf x (Some o)) (sym (u.each o.id))
    (joined_agrees (with_id before.outcomes o.id) (with_id found o.id) o
    (covered o (λ k l. subst (λ (os : List Outcome). AgreesWith os o) (get_or-append before.lists (found ∷ []) [] k l) (each k (omega (arith, l, long)))))
    (subst (λ (os : List Outcome). AgreesWith os o) (get_or-append_seam before.lists found [] []) (each (length before.lists) (omega (arith, long)))))

-- in a list by rising id, each outcome is the one of its id
found_at : (xs : List Outcome) (k : ℕ) (d : Outcome) → AreById xs → k < length xs → with_id xs (get_or xs k d).id ≡ Some (get_or xs k d)
found_at [] k d rising l = absurd (omega (arith, l))
found_at (x ∷ xs) zero d rising l = ap (λ b. cond b (Some x) (with_id xs x.id)) (eq-eqb x.id x.id refl)
found_at (x ∷ xs) (suc k) d rising l =
    ap (λ b. cond b (Some x) (with_id xs (get_or xs k d).id))
    (ne_eqb x.id (get_or xs k d).id (λ e. absurd (omega (arith, rising 0 (suc k) d (omega arith) l, e))))
    ∙ found_at xs k d (λ i j e lt within. rising (suc i) (suc j) e (omega (arith, lt)) (omega (arith, within))) (omega (arith, l))

-- the outcome of the least id that differs is found in the list
pub difference_found : (xs found : List Outcome) (id : ℕ) (f : IsFirstDifference xs found id) → AreById found → with_id found id ≡ Some f.other
difference_found xs found id f rising =
    let there = f.is_there in
    ap (with_id found) (sym f.id_is ∙ ap (λ (o : Outcome). o.id) (sym there.2)) ∙ found_at found there.0 f.other rising there.1 ∙ ap Some there.2

-- ---- lists kept in another form

-- one more empty list
pub pushed_none : {A : Type 0} (f : A → List Outcome) (total : ℕ) (outcomes : List Outcome) (ls now : List A) (item : A) → f item ≡ [] → now ≡ ls ++ item ∷ []
    → IsCovered (record { total = total; outcomes = outcomes; lists = map f ls }) → IsCovered (record { total = total; outcomes = outcomes; lists = map f now })
pushed_none f total outcomes ls now item none is covered =
    subst (λ (l : List (List Outcome)). IsCovered (record { total = total; outcomes = outcomes; lists = l }))
    (sym (ap (map f) is ∙ map-append f ls (item ∷ []) ∙ ap (λ (x : List Outcome). map f ls ++ x ∷ []) none))
    (covered_passed (record { total = total; outcomes = outcomes; lists = map f ls }) covered)

-- one more added list
pub pushed_union : {A : Type 0} (f : A → List Outcome) (total then : ℕ) (outcomes both : List Outcome) (ls now : List A) (item : A) → IsUnion outcomes (f item) both → now ≡ ls ++ item ∷ []
    → IsCovered (record { total = total; outcomes = outcomes; lists = map f ls }) → IsCovered (record { total = then; outcomes = both; lists = map f now })
pushed_union f total then outcomes both ls now item union is covered =
    covered_union (record { total = total; outcomes = outcomes; lists = map f ls }) (record { total = then; outcomes = both; lists = map f now }) (f item) union
    (ap (map f) is ∙ map-append f ls (item ∷ [])) covered

-- an implication carries over to a call that succeeded
pub on_ok : {A E : Type 0} (P Q : Type 0) → (P → Q) → (r : Result A E) → OnOk r P → OnOk r Q
on_ok P Q f (Ok a) p = f p
on_ok P Q f (Err e) p = p

-- one more list agrees
pub one_more : {A : Type 0} (f : A → List Outcome) (ls : List A) (o : Outcome) (n : ℕ) (d : A) → n < length ls → ((k : ℕ) → k < n → AgreesWith (get_or (map f ls) k []) o)
    → AgreesWith (f (get_or ls n d)) o → (k : ℕ) → k < n + 1 → AgreesWith (get_or (map f ls) k []) o
one_more f ls o n d inside before here k l = elim (cases_eq k n) [
  | inl same ↦
      subst (λ (i : ℕ). AgreesWith (get_or (map f ls) i []) o) (sym same)
      (subst (λ (os : List Outcome). AgreesWith os o) (sym (get_or-map f ls n d [] inside)) here)
  | inr off ↦ before k (omega (arith, l, off))
]

-- the outcomes are left out, with equal collections before and after the comparison
pub left_out : (before now after then : Collected) (found seen again : List Outcome) (id other : ℕ) → now ≡ before → then ≡ before → seen ≡ found → again ≡ found
    → IsFirstDifference now.outcomes seen id → ((first : IsFirstDifference then.outcomes again id) → IsFirstOther then.lists first.other other) → after ≡ passed_over then
    → IsLeftOut before found id other after
left_out before now after then found seen again id other e same is once differs named passed =
    let first : IsFirstDifference before.outcomes found id =
    subst (λ (p : Collected × List Outcome). IsFirstDifference p.0.outcomes p.1 id) (λ i. (e i, is i)) differs in
    let names : (f : IsFirstDifference before.outcomes found id) → IsFirstOther before.lists f.other other =
    subst (λ (p : Collected × List Outcome). (f : IsFirstDifference p.0.outcomes p.1 id) → IsFirstOther p.0.lists f.other other) (λ i. (same i, once i)) named in
    record { first = first; named = names first; same = passed ∙ ap passed_over same }

-- a folder that adds nothing has the finding that it is left out with
pub left_as : {E : Type 0} (P : Finding → Type 0) (X : Type 0) (what : Finding) (r : Result Finding E) → IfOk r (λ f. (f ≡ what) × X) → (X → P what) → IfOk r P
left_as P X what (Ok f) is p = subst P (sym is.0) (p is.1)
left_as P X what (Err e) is p = is
