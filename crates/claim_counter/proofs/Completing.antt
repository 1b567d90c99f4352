-- The outcomes of a run by rising id do not depend on the order in which they were found.
use Rattle.std.proofs.Common.{◌≡◌, ◌∙◌, refl, sym, ap, ℕ, zero, suc, ◌<◌, Bool, true, false, cond, ◌||◌, List, [], ◌∷◌, ◌++◌, length, map, get_or, Option, Some, None, All, arith}
use Rattle.std.specs.Prelude.{◌==◌, IsFalse, IsPermutation, find}
use Rattle.std.proofs.lemmas.Bool.{eq-eqb, ne_eqb, false≢true}
use Rattle.std.proofs.lemmas.List.Elements.{All-map, All-append}
use Rattle.std.proofs.lemmas.List.Folds.{list_any-append}
use Rattle.std.proofs.lemmas.List.Sorted.{All-permutation, list_any-IsPermutation, IsPermutation-sym}
use Rattle.audit_model.specs.declared.outcome.Outcome.{Outcome}
use Rattle.audit_model.specs.Below.{filter_below}
use Rattle.audit_model.specs.Graph.{has}
use Rattle.audit_model.specs.Job.{Job}
use Rattle.audit_model.specs.Run.{total, has_id, run_ids, kept_or, outcome_from, full, by_id}
use Rattle.audit_statement.specs.Draw.{draw}
use Rattle.outcome_book.specs.Booked.{AreApart}
use Rattle.claim_counter.specs.Walks.{found}
use Rattle.claim_counter.proofs.Sharing.{found_id}

-- with different ids, a search by the id of one outcome finds that outcome
found_at_place : (os : List Outcome) → AreApart os → (k : ℕ) (d : Outcome) → k < length os → find (λ o. o.id == (get_or os k d).id) os ≡ Some (get_or os k d)
found_at_place [] apart k d inside = absurd (omega arith)
found_at_place (x ∷ os) apart zero d inside = ap (λ b. cond b (Some x) (find (λ o. o.id == x.id) os)) (eq-eqb x.id x.id refl)
found_at_place (x ∷ os) apart (suc k) d inside =
    ap (λ b. cond b (Some x) (find (λ o. o.id == (get_or os k d).id) os)) (ne_eqb x.id (get_or os k d).id (apart 0 (suc k) d (omega arith) inside))
    ∙ found_at_place os (λ i j e before within. apart (suc i) (suc j) e (omega arith) (omega arith)) k d (omega arith)

-- a search for an id that no outcome has finds nothing
not_there : (os : List Outcome) (id : ℕ) → has_id os id ≡ false → find (λ o. o.id == id) os ≡ None
not_there [] id none = refl
not_there (x ∷ os) id none = by (x.id == id) (has_id os id) (find (λ o. o.id == id) os) none (not_there os id)
  where
    by : (b rest : Bool) (r : Option Outcome) → (b || rest) ≡ false → (rest ≡ false → r ≡ None) → cond b (Some x) r ≡ None
    by true rest r e rec = absurd (false≢true (sym e))
    by false rest r e rec = rec e

-- every outcome of a run is an initial outcome, or the outcome of its trajectory
all_from : (job : Job) (initial_outcomes : List Outcome) (todo : List ℕ) → AreApart initial_outcomes → All (λ id. IsFalse (has_id initial_outcomes id)) todo
    → All (λ o. o ≡ outcome_from job (draw job.setting.key) initial_outcomes o.id) (initial_outcomes ++ map (found job) todo)
unfolding found
all_from job initial_outcomes todo apart absent = All-append (λ (o : Outcome). o ≡ outcome_from job (draw job.setting.key) initial_outcomes o.id) initial_outcomes (map (found job) todo)
    (λ k d inside. ap (kept_or job (draw job.setting.key) (get_or initial_outcomes k d).id) (sym (found_at_place initial_outcomes apart k d inside)))
    (All-map (λ (o : Outcome). o ≡ outcome_from job (draw job.setting.key) initial_outcomes o.id) (found job) todo (λ k d inside.
    let id = get_or todo k d in
    ap (kept_or job (draw job.setting.key) id) (sym (not_there initial_outcomes id (absent k d inside)))
    ∙ ap (outcome_from job (draw job.setting.key) initial_outcomes) (sym (found_id job id))))

-- the outcomes of ids have exactly these ids
has_id-found : (job : Job) (todo : List ℕ) (id : ℕ) → has_id (map (found job) todo) id ≡ has todo id
has_id-found job [] id = refl
has_id-found job (x ∷ todo) id = ap (λ k. (k == id) || has_id (map (found job) todo) id) (found_id job x) ∙ ap (λ b. (x == id) || b) (has_id-found job todo id)

-- the law of a book: if each outcome is a function of its id, the outcomes by rising id are that function over the ids
abbrev pub AreMapped : Type 0
AreMapped = (n : ℕ) (os : List Outcome) (test : ℕ → Bool) (f : ℕ → Outcome) → All (λ o. o ≡ f o.id) os → ((id : ℕ) → id < n → has_id os id ≡ test id)
    → by_id n os ≡ map f (filter_below n test)

-- the initial outcomes and those of the ids to do are, by rising id, all outcomes that the run shall have
pub by_id-full : AreMapped → (job : Job) (initial_outcomes outcomes : List Outcome) (todo : List ℕ) (budget : ℕ) → AreApart initial_outcomes → All (λ id. IsFalse (has_id initial_outcomes id)) todo
    → todo ≡ run_ids job initial_outcomes budget → IsPermutation outcomes (initial_outcomes ++ map (found job) todo)
    → by_id (total job) outcomes ≡ full job (draw job.setting.key) initial_outcomes budget
unfolding full
by_id-full law job initial_outcomes outcomes todo budget apart absent ids moved =
    law (total job) outcomes (λ id. has_id initial_outcomes id || has (run_ids job initial_outcomes budget) id) (outcome_from job (draw job.setting.key) initial_outcomes)
    (All-permutation (λ (o : Outcome). o ≡ outcome_from job (draw job.setting.key) initial_outcomes o.id) (initial_outcomes ++ map (found job) todo) outcomes
    (IsPermutation-sym outcomes (initial_outcomes ++ map (found job) todo) moved) (all_from job initial_outcomes todo apart absent))
    (λ id inside.
    list_any-IsPermutation (λ (o : Outcome). o.id == id) outcomes (initial_outcomes ++ map (found job) todo) moved
    ∙ list_any-append (λ (o : Outcome). o.id == id) initial_outcomes (map (found job) todo)
    ∙ ap (λ b. has_id initial_outcomes id || b) (has_id-found job todo id ∙ ap (λ xs. has xs id) ids))
