-- The book of initial outcomes and posts: it has no outcome of an id that was not posted, and all its outcomes fit the
-- job.
use Rattle.std.proofs.Common.{◌≡◌, ℕ, zero, suc, ◌<◌, ◌≤◌, ◌&&◌, Bool, true, false, cond, List, [], ◌∷◌, ◌++◌, map, Some, refl, sym, ap, ◌∙◌, All, append_assoc, arith}
use Rattle.std.specs.Prelude.{◌==◌, IsTrue, find, option_to_list}
use Rattle.std.specs.List.{list_all}
use Rattle.std.proofs.lemmas.Bool.{and_from, or_from, ne_eqb}
use Rattle.std.proofs.lemmas.List.{map-append}
use Rattle.std.proofs.lemmas.List.Folds.{list_all-append, list_any-append}
use Rattle.audit_model.specs.declared.outcome.Outcome.{Outcome}
use Rattle.audit_model.specs.Job.{Job}
use Rattle.audit_model.specs.Run.{total, fits, has_id, by_id, with_id}
use Rattle.audit_model.specs.Times.{times}
use Rattle.audit_model.proofs.Times.{one, times-cons, one_same}
use Rattle.tally_desk.specs.declared.entry.Entry.{Entry}
use Rattle.tally_desk.specs.Entries.{posted_id, ids_of, up_to_save}
use Rattle.tally_desk.specs.Homes.{booked}
use Rattle.claim_counter.specs.Walks.{found}
use Rattle.tally_desk.specs.Parts.{Parts, IsPlan}
use Rattle.claim_counter.proofs.Sharing.{found_id}
use Rattle.tally_desk.proofs.Found.{found_fits}
use Rattle.tally_desk.proofs.Marking.{ids_up_to_save}
use Rattle.tally_desk.proofs.Todo.{todo_within, todo_missing}

-- one more post adds the outcome of its trajectory
pub booked-push : (parts : Parts) (l : List Entry) (e : Entry) → booked parts (l ++ e ∷ []) ≡ booked parts l ++ found parts.job e.id ∷ []
booked-push parts l e =
    ap (λ (ids : List ℕ). parts.initial_outcomes ++ map (found parts.job) ids) (map-append posted_id l (e ∷ []))
    ∙ ap (λ (os : List Outcome). parts.initial_outcomes ++ os) (map-append (found parts.job) (ids_of l) (e.id ∷ []))
    ∙ sym (append_assoc parts.initial_outcomes (map (found parts.job) (ids_of l)) (found parts.job e.id ∷ []))

-- an id that is not among these ids has none of their outcomes
absent_of_ids : (job : Job) (ids : List ℕ) (id : ℕ) → times id ids ≡ 0 → has_id (map (found job) ids) id ≡ false
absent_of_ids job [] id none = refl
absent_of_ids job (x ∷ ids) id none =
    let cut = times-cons id x ids in
    or_from ((found job x).id == id) (has_id (map (found job) ids) id)
    (ne_eqb (found job x).id id (λ same. let here : one id x ≡ 1 = ap (λ (k : ℕ). one id k) (sym (found_id job x) ∙ same) ∙ one_same id in absurd (omega (arith, none, cut, here))))
    (absent_of_ids job ids id (omega (arith, none, cut)))

-- an id to do that has no post is not in the book
pub absent_of_book : (parts : Parts) → IsPlan parts → (l : List Entry) (id : ℕ) → 0 < times id parts.todo → times id (ids_of l) ≡ 0 → has_id (booked parts l) id ≡ false
absent_of_book parts plan l id to_do unposted =
    list_any-append (λ (o : Outcome). o.id == id) parts.initial_outcomes (map (found parts.job) (ids_of l))
    ∙ or_from _ _ (todo_missing parts plan id to_do) (absent_of_ids parts.job (ids_of l) id unposted)

-- ---- what fits

-- a test that each outcome passes holds for the whole list
all_from : (test : Outcome → Bool) (os : List Outcome) → All (λ o. IsTrue (test o)) os → list_all test os ≡ true
all_from test [] all = refl
all_from test (o ∷ os) all = and_from (test o) (list_all test os) (all 0 o (omega arith)) (all_from test os (λ k d inside. all (suc k) d (omega arith)))

-- if the outcome of each id passes, the list of outcomes does
found_all : (test : Outcome → Bool) (job : Job) (ids : List ℕ) → ((id : ℕ) → 0 < times id ids → test (found job id) ≡ true) → list_all test (map (found job) ids) ≡ true
found_all test job [] each = refl
found_all test job (x ∷ ids) each =
    and_from (test (found job x)) (list_all test (map (found job) ids))
    (each x (omega (arith, times-cons x x ids, one_same x)))
    (found_all test job ids (λ id some_here. each id (omega (arith, some_here, times-cons id x ids))))

-- all outcomes of a desk's book fit the job
pub booked_fit : (parts : Parts) → IsPlan parts → (l : List Entry) → ((id : ℕ) → times id (ids_of l) ≤ times id parts.todo) → list_all (fits parts.job) (booked parts l) ≡ true
booked_fit parts plan l of_todo =
    list_all-append (fits parts.job) parts.initial_outcomes (map (found parts.job) (ids_of l))
    ∙ and_from _ _ (all_from (fits parts.job) parts.initial_outcomes plan.fit)
    (found_all (fits parts.job) parts.job (ids_of l)
    (λ id some_here. found_fits parts.job plan.few_asks id (todo_within parts plan id (omega (arith, some_here, of_todo id)))))

-- an outcome found among fitting outcomes fits
find_fit : (test search_for : Outcome → Bool) (os : List Outcome) → list_all test os ≡ true → list_all test (option_to_list (find search_for os)) ≡ true
find_fit test search_for [] all = refl
find_fit test search_for (o ∷ os) all = by (search_for o) (test o) (list_all test os) refl refl all (find_fit test search_for os)
  where
    by : (b c d : Bool) → test o ≡ c → list_all test os ≡ d → (c && d) ≡ true → (list_all test os ≡ true → list_all test (option_to_list (find search_for os)) ≡ true)
        → list_all test (option_to_list (cond b (Some o) (find search_for os))) ≡ true
    by true true d here rest both later = and_from (test o) true here refl
    by false true d here rest both later = later (rest ∙ both)
    by true false d here rest both later = cc
    by false false d here rest both later = cc

-- if all outcomes pass a test, so do those by rising id
pub by_id_fit : (test : Outcome → Bool) (n : ℕ) (os : List Outcome) → list_all test os ≡ true → list_all test (by_id n os) ≡ true
by_id_fit test zero os all = refl
by_id_fit test (suc n) os all =
    list_all-append test (by_id n os) (option_to_list (with_id os n))
    ∙ and_from _ _ (by_id_fit test n os all) (find_fit test (λ o. o.id == n) os all)

-- the saved outcomes fit the job
pub saved_fit : (parts : Parts) → IsPlan parts → (l : List Entry) (n : ℕ) → ((id : ℕ) → times id (ids_of l) ≤ times id parts.todo)
    → list_all (fits parts.job) (by_id (total parts.job) (booked parts (up_to_save n l))) ≡ true
saved_fit parts plan l n of_todo =
    by_id_fit (fits parts.job) (total parts.job) (booked parts (up_to_save n l))
    (booked_fit parts plan (up_to_save n l) (λ id. omega (arith, ids_up_to_save id n l, of_todo id)))
