-- The invariant of `Core` at each event.
use Rattle.std.proofs.Common.{◌≡◌, ℕ, ◌+◌, ◌-◌, ◌<◌, ◌≤◌, Bool, true, false, not, ◌||◌, List, [], ◌∷◌, ◌++◌, length, take, drop, get_or, set, replicate, Option, Some, None, All, refl, sym, ap, ◌∙◌, subst, arith, length-append, length-set}
use Rattle.std.specs.Prelude.{◌==◌, ◌%◌, ◌&&◌, slice_get}
use Rattle.std.proofs.lemmas.Bool.{eq-eqb, false≢true}
use Rattle.std.proofs.lemmas.List.{append-nil, length-take-le, length-replicate, get_or-replicate, take_all, take-append-le}
use Rattle.std.proofs.lemmas.List.Folds.{list_any-append}
use Rattle.std.proofs.lemmas.Option.{slice_get-get_or}
use Rattle.std.proofs.Math.Nat.{mod-one}
use Rattle.audit_model.specs.declared.outcome.Did.{Did}
use Rattle.audit_model.specs.declared.outcome.Did.TheVariants.{Claimed, Posted, Halted}
use Rattle.audit_model.specs.declared.outcome.Event.TheVariants.{Claim, Post, Halt}
use Rattle.audit_model.specs.Apart.{AllApart}
use Rattle.audit_model.specs.Below.{filter_below}
use Rattle.audit_model.specs.Graph.{has}
use Rattle.audit_model.specs.Machine.{Machine, todo, claimed, claim, post, step, IsRun, new_machine}
use Rattle.audit_model.specs.Run.{is_in_part}
use Rattle.audit_model.proofs.Running.{fresh_run, at_is_new, get-replicate, step_keeps}
use Rattle.audit_model.proofs.Below.{length-filter_below, filter_below_same}
use Rattle.audit_model.proofs.ListFacts.{apart_le, has-take}
use Rattle.run_core.specs.Kept.{machine, IsKept}
use Rattle.run_core.specs.StartState.{IsStart}
use Rattle.run_core.proofs.Marking.{take_split, all_from_has, has-drop, AreMarked}

-- ---- initial states

-- an initial state is a state of a run
pub start_is_run : (m : Machine) → IsStart m → IsRun m
start_is_run m o = record {
  apart = subst AllApart (sym o.done) o.apart;
  below = λ id h. o.below id (subst (λ xs. has xs id ≡ true) o.done h);
  start_front = ([], o.done ∙ sym (append-nil m.start));
  saved_front = ([], o.done ∙ sym o.saved ∙ sym (append-nil m.saved));
  claimed = λ k id l h. absurd (omega (arith, l, o.next));
  opened = λ w id h. absurd (none_open w id h);
  not_both = λ w id h. absurd (none_open w id h);
  one_worker = λ v w id h g. absurd (none_open v id h);
  ahead = λ k id l h. subst (λ xs. has xs id ≡ false) (sym o.done) (at_is_new m k id h).1;
}
  where
    none_open : (w id : ℕ) → slice_get m.open_ids w ≡ Some (Some id) → ⊥
    none_open w id h = get-replicate (length m.open_ids) w id (subst (λ xs. slice_get xs w ≡ Some (Some id)) o.open_ids h)

-- the machine with nothing finished is a state of a run
pub fresh_is_run : (total workers : ℕ) → IsRun (new_machine total workers)
fresh_is_run total workers = fresh_run 1 0 total total workers [] tt (λ id h. absurd (false≢true h))

-- ---- results of events

-- a claim, by the worker's open id
pub claim_by : (m : Machine) (w : ℕ) (o : Option (Option ℕ)) → slice_get m.open_ids w ≡ o → claim m w o ≡ step m (Claim w)
claim_by m w o e = ap (claim m w) (sym e)

-- a claim of a worker without an open id, by whether an id is pending
pub claim_takes : (m : Machine) (w : ℕ) (o : Option ℕ) → slice_get m.open_ids w ≡ Some None → slice_get (todo m) m.next ≡ o → claimed m w o ≡ step m (Claim w)
claim_takes m w o free at = ap (claimed m w) (sym at) ∙ claim_by m w (Some None) free

-- a post, by the worker's open id
pub post_by : (m : Machine) (w : ℕ) (o : Option (Option ℕ)) → slice_get m.open_ids w ≡ o → post m w o ≡ step m (Post w)
post_by m w o e = ap (post m w) (sym e)

-- ---- pending ids

-- and-true is the other part
and_true : (a b : Bool) → b ≡ true → (a && b) ≡ a
and_true true b e = e
and_true false b e = refl

-- every id lies in the single part
todo_is : (total started saved : ℕ) (done : List ℕ) (next : ℕ) (open_ids : List (Option ℕ))
    → todo (machine total started saved done next open_ids) ≡ filter_below total (λ id. not (has (take started done) id))
todo_is total started saved done next open_ids =
    ap (take total) (filter_below_same total (λ id. not (has (take started done) id) && is_in_part 1 0 id) (λ id. not (has (take started done) id))
    (λ id l. and_true (not (has (take started done) id)) (is_in_part 1 0 id) (eq-eqb (id % 1) 0 (mod-one id))))
    ∙ take_all total (filter_below total (λ id. not (has (take started done) id))) (length-filter_below total (λ id. not (has (take started done) id)))

-- at most all ids are finished
pub done_le : (m : Machine) → IsRun m → length m.done ≤ m.total
done_le m run = apart_le m.total m.done run.apart run.below

module _ (total started saved : ℕ) (done : List ℕ) (next : ℕ) (open_ids : List (Option ℕ)) (ids : List ℕ) (marks : List Bool)
    (kept : IsKept (machine total started saved done next open_ids) started saved ids marks) where
  before : Machine
  before = machine total started saved done next open_ids

  -- ---- a claim

  pub claim_is : (w id : ℕ) → slice_get open_ids w ≡ Some None → next < length ids → id ≡ get_or ids next 0
      → (machine total started saved done (next + 1) (set open_ids w (Some id)), Claimed id) ≡ step (machine total started saved done next open_ids) (Claim w)
  claim_is w id free within is = claim_takes (machine total started saved done next open_ids) w (Some id) free
      (ap (λ xs. slice_get xs next) (sym kept.ids) ∙ slice_get-get_or ids next 0 within ∙ ap Some (sym is))

  pub kept_claim : (w id : ℕ) → slice_get open_ids w ≡ Some None → next < length ids → id ≡ get_or ids next 0
      → IsKept (machine total started saved done (next + 1) (set open_ids w (Some id))) started saved ids marks
  kept_claim w id free within is = record {
    run = subst (λ (r : Machine × Did). IsRun r.0) (sym (claim_is w id free within is)) (step_keeps (machine total started saved done next open_ids) (Claim w) kept.run);
    small = kept.small;
    workers = length-set open_ids w (Some id) ∙ kept.workers;
    start_saved = kept.start_saved;
    saved_done = kept.saved_done;
    ids = kept.ids;
    width = kept.width;
    marks = kept.marks;
  }

  -- ---- a post

  module _ (w id : ℕ) (open_id : slice_get open_ids w ≡ Some (Some id)) where
    fronts : machine total started saved (done ++ id ∷ []) next (set open_ids w None)
        ≡ record { total = total; parts = 1; part = 0; budget = total; start = take started done; saved = take saved done; done = done ++ id ∷ []; next = next; open_ids = set open_ids w None }
    fronts =
        ap (λ s. record { total = total; parts = 1; part = 0; budget = total; start = s; saved = take saved (done ++ id ∷ []); done = done ++ id ∷ []; next = next; open_ids = set open_ids w None })
        (take-append-le started done (id ∷ []) (omega (arith, kept.start_saved, kept.saved_done)))
        ∙ ap (λ s. record { total = total; parts = 1; part = 0; budget = total; start = take started done; saved = s; done = done ++ id ∷ []; next = next; open_ids = set open_ids w None })
        (take-append-le saved done (id ∷ []) kept.saved_done)

    pub post_is : (machine total started saved (done ++ id ∷ []) next (set open_ids w None), Posted id) ≡ step (machine total started saved done next open_ids) (Post w)
    post_is = ap (λ (m : Machine). (m, Posted id)) fronts ∙ post_by (machine total started saved done next open_ids) w (Some (Some id)) open_id

    run_after : IsRun (machine total started saved (done ++ id ∷ []) next (set open_ids w None))
    run_after = subst (λ (r : Machine × Did). IsRun r.0) (sym post_is) (step_keeps (machine total started saved done next open_ids) (Post w) kept.run)

    pub done_room : length done < total
    done_room = omega (arith, done_le (machine total started saved (done ++ id ∷ []) next (set open_ids w None)) run_after, length-append done (id ∷ []))

    pub kept_post : IsKept (machine total started saved (done ++ id ∷ []) next (set open_ids w None)) started saved ids marks
    kept_post = record {
      run = run_after;
      small = kept.small;
      workers = length-set open_ids w None ∙ kept.workers;
      start_saved = kept.start_saved;
      saved_done = omega (arith, kept.saved_done, length-append done (id ∷ []));
      ids = kept.ids ∙ ap todo (sym fronts);
      width = kept.width;
      marks = λ k l. kept.marks k l ∙ ap (λ (m : Machine). has m.start k) (sym fronts);
    }

  -- ---- a save

  -- ---- a halt

  module _ (nobody : List (Option ℕ)) (none : nobody ≡ replicate 32 None) where
    again : take saved (take saved done) ≡ take saved done
    again = take_all saved (take saved done) (omega (arith, length-take-le saved done kept.saved_done))

    pub halt_is : (machine total saved saved (take saved done) 0 nobody, Halted) ≡ step (machine total started saved done next open_ids) Halt
    halt_is =
        ap (λ s. (record { total = total; parts = 1; part = 0; budget = total; start = s; saved = s; done = take saved done; next = 0; open_ids = nobody }, Halted)) again
        ∙ ap (λ h. (record { total = total; parts = 1; part = 0; budget = total; start = take saved done; saved = take saved done; done = take saved done; next = 0; open_ids = h }, Halted))
        (none ∙ ap (λ n. replicate n None) (sym kept.workers))

    pub kept_halt : (new_ids : List ℕ) (new_marks : List Bool) → length new_marks ≡ total
        → ((id : ℕ) → id < total → get_or new_marks id false ≡ has (take saved done) id)
        → new_ids ≡ filter_below total (λ id. not (get_or new_marks id false))
        → IsKept (machine total saved saved (take saved done) 0 nobody) saved saved new_ids new_marks
    kept_halt new_ids new_marks width marked listed = record {
      run = subst (λ (r : Machine × Did). IsRun r.0) (sym halt_is) (step_keeps (machine total started saved done next open_ids) Halt kept.run);
      small = kept.small;
      workers = ap length none ∙ length-replicate {A = Option ℕ} 32 None;
      start_saved = omega arith;
      saved_done = omega (arith, length-take-le saved done kept.saved_done);
      ids =
          listed ∙ filter_below_same total (λ id. not (get_or new_marks id false)) (λ id. not (has (take saved (take saved done)) id))
          (λ id l. ap not (marked id l ∙ ap (λ xs. has xs id) (sym again)))
          ∙ sym (todo_is total saved saved (take saved done) 0 nobody);
      width = width;
      marks = λ id l. marked id l ∙ ap (λ xs. has xs id) (sym again);
    }

    module _ (count : ℕ) (kept_ids : List ℕ) (same : count ≡ total) (front : kept_ids ≡ take saved done) where
      pub halted : machine count saved saved kept_ids 0 nobody ≡ machine total saved saved (take saved done) 0 nobody
      halted =
          ap (λ n. machine n saved saved kept_ids 0 nobody) same
          ∙ ap (λ ds. machine total saved saved ds 0 nobody) front

      pub halt_steps : (machine count saved saved kept_ids 0 nobody, Halted) ≡ step (machine total started saved done next open_ids) Halt
      halt_steps = ap (λ (m : Machine). (m, Halted)) halted ∙ halt_is

      pub kept_halted : (new_ids : List ℕ) (new_marks : List Bool) → length new_marks ≡ total
          → AreMarked marks new_marks (take (saved - started) (drop started done))
          → new_ids ≡ filter_below (length new_marks) (λ id. not (get_or new_marks id false))
          → IsKept (machine count saved saved kept_ids 0 nobody) saved saved new_ids new_marks
      kept_halted new_ids new_marks width marked listed =
          subst (λ (m : Machine). IsKept m saved saved new_ids new_marks) (sym halted)
          (kept_halt new_ids new_marks width each (listed ∙ ap (λ n. filter_below n (λ id. not (get_or new_marks id false))) width))
        where
          each : (id : ℕ) → id < total → get_or new_marks id false ≡ has (take saved done) id
          each id l =
              marked id (omega (arith, l, kept.width))
              ∙ ap (λ b. b || has (take (saved - started) (drop started done)) id) (kept.marks id l)
              ∙ sym (ap (λ xs. has xs id) (take_split started saved done kept.start_saved)
              ∙ list_any-append (λ m. m == id) (take started done) (take (saved - started) (drop started done)))

  -- the newly saved ids are below the total
  pub newly_below : (count : ℕ) → count ≡ total → All (λ id. id < count) (take (saved - started) (drop started done))
  newly_below count same = all_from_has count (take (saved - started) (drop started done))
      (λ id h. subst (λ n. id < n) (sym same) (kept.run.below id (has-drop started done id (has-take (saved - started) (drop started done) id h))))

-- ---- the first machine

-- the fields at first
pub kept_new : (total : ℕ) (done : List ℕ) (open_ids : List (Option ℕ)) (ids : List ℕ) (marks : List Bool) → total ≤ 100000 → done ≡ [] → open_ids ≡ replicate 32 None
    → marks ≡ replicate total false → ids ≡ filter_below (length marks) (λ id. not (get_or marks id false))
    → IsKept (machine (length marks) 0 0 done 0 open_ids) 0 0 ids marks × (machine (length marks) 0 0 done 0 open_ids ≡ new_machine total 32)
kept_new total done open_ids ids marks small empty none unmarked listed = (
  record {
    run = subst IsRun (sym fresh) (fresh_is_run total 32);
    small = omega (arith, width, small);
    workers = ap length none ∙ length-replicate {A = Option ℕ} 32 None;
    start_saved = omega arith;
    saved_done = omega arith;
    ids =
        listed
        ∙ filter_below_same (length marks) (λ id. not (get_or marks id false)) (λ id. true) (λ id l. ap not (no_mark id (omega (arith, l, width))))
        ∙ sym (todo_is (length marks) 0 0 done 0 open_ids);
    width = refl;
    marks = λ id l. no_mark id (omega (arith, l, width));
  },
  fresh,
)
  where
    width : length marks ≡ total
    width = ap length unmarked ∙ length-replicate total false

    no_mark : (id : ℕ) → id < total → get_or marks id false ≡ false
    no_mark id l = ap (λ xs. get_or xs id false) unmarked ∙ get_or-replicate total id false false l

    fresh : machine (length marks) 0 0 done 0 open_ids ≡ new_machine total 32
    fresh =
        ap (λ n. record { total = n; parts = 1; part = 0; budget = n; start = []; saved = []; done = done; next = 0; open_ids = open_ids }) width
        ∙ ap (λ d. record { total = total; parts = 1; part = 0; budget = total; start = []; saved = []; done = d; next = 0; open_ids = open_ids }) empty
        ∙ ap (λ h. record { total = total; parts = 1; part = 0; budget = total; start = []; saved = []; done = []; next = 0; open_ids = h }) none
