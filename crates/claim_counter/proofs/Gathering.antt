-- Merging the workers' outcomes into a book, one worker after the other.
use Rattle.std.proofs.Common.{◌≡◌, ◌∙◌, sym, ap, subst, ℕ, ◌<◌, List, [], ◌++◌, length, map, get_or, All, AllPairs, append_assoc, arith}
use Rattle.std.specs.Prelude.{◌≢◌, IsFalse}
use Rattle.std.proofs.lemmas.List.{map-append}
use Rattle.std.proofs.lemmas.List.Elements.{All-map}
use Rattle.audit_model.specs.declared.outcome.Outcome.{Outcome}
use Rattle.audit_model.specs.Job.{Job}
use Rattle.audit_model.specs.Run.{total, has_id}
use Rattle.audit_model.specs.Trajectory.{outcome}
use Rattle.audit_statement.specs.Draw.{draw}
use Rattle.outcome_book.specs.Booked.{AreApart, Booked, HasFewVisits, IsShareFor}
use Rattle.claim_counter.specs.declared.claims.Claims.{Claims}
use Rattle.claim_counter.specs.Records.{AreDifferentBelow}
use Rattle.claim_counter.specs.Passes.{own, size_of}
use Rattle.claim_counter.specs.declared.worker.Worker.{Worker}
use Rattle.claim_counter.specs.Workers.{IsWorkerDone}
use Rattle.claim_counter.specs.Walks.{found_at, MissesIds, IsTodo, IsWithin}
use Rattle.claim_counter.proofs.Sharing.{Misses, found_is, share_within, share_apart, share_absent, misses_others}

-- any predicate holds for each member of an empty list
pub none_yet : {A : Type 0} (P : A → Type 0) (xs : List A) → length xs ≡ 0 → All P xs
none_yet P xs none = λ k d inside. absurd (omega (arith, inside, none))

module _ {J : Type 0} (job : Job) (todo : List ℕ) (c : Claims) (w : Worker J) (done : IsWorkerDone job todo c w) (count : (size_of c).limit ≡ length todo) where
  abbrev places : List ℕ
  places = (own w.pass).claims

  different : AreDifferentBelow (length todo) places
  different = subst (λ n. AreDifferentBelow n places) count done.different

  done_within : IsWithin job todo → (t : ℕ) → t ≡ total job → All (λ o. o.id < t) w.share.items
  done_within within t is =
      subst (λ n. All (λ (o : Outcome). o.id < n) w.share.items) (sym is)
      (subst (All (λ (o : Outcome). o.id < total job)) (sym done.shared) (share_within job todo places different within))

  done_apart : AllPairs (λ a b. a ≢ b) todo → AreApart w.share.items
  done_apart apart = subst AreApart (sym done.shared) (share_apart job todo places different apart)

  -- the histogram of each outcome is small enough for the book
  done_few : ((id : ℕ) → HasFewVisits (outcome job (draw job.setting.key) id)) → All HasFewVisits w.share.items
  done_few law =
      subst (All HasFewVisits) (sym done.shared)
      (All-map HasFewVisits (found_at job todo) places (λ k d inside. subst HasFewVisits (sym (found_is job (get_or todo (get_or places k d) 0))) (law (get_or todo (get_or places k d) 0))))

  absent_from : (now : List Outcome) (before : List ℕ) → AreDifferentBelow (length todo) (before ++ places) → Misses now todo before
      → All (λ o. IsFalse (has_id now o.id)) w.share.items
  absent_from now before together missing =
      subst (All (λ (o : Outcome). IsFalse (has_id now o.id))) (sym done.shared) (share_absent job todo before places now together different missing)

  first_absent : (kept : List Outcome) → IsTodo job kept todo → All (λ o. IsFalse (has_id kept o.id)) w.share.items
  first_absent kept is = absent_from kept [] different (λ k inside none. is.absent k 0 inside)

  more_absent : (kept now : List Outcome) (before : List ℕ) → IsTodo job kept todo → AreDifferentBelow (size_of c).limit before
      → now ≡ kept ++ map (found_at job todo) before → AreDifferentBelow (size_of c).limit (before ++ places)
      → All (λ o. IsFalse (has_id now o.id)) w.share.items
  more_absent kept now before is apart_before holds together =
      let in_todo : AreDifferentBelow (length todo) before = subst (λ n. AreDifferentBelow n before) count apart_before in
      absent_from now before (subst (λ n. AreDifferentBelow n (before ++ places)) count together)
      (subst (λ os. Misses os todo before) (sym holds) (misses_others job todo before in_todo kept is))

  -- the book accepts the first worker's outcomes
  pub first_share : (b : Booked) → MissesIds job b todo → ((id : ℕ) → HasFewVisits (outcome job (draw job.setting.key) id)) → IsShareFor b w.share.items
  first_share b missing law = record {
    below = done_within missing.ids.within b.total missing.whole;
    absent = first_absent b.outcomes missing.ids;
    apart = done_apart missing.ids.apart;
    bins = done_few law;
  }

  -- the book accepts the next worker's outcomes, which come from other places
  pub more_share : (b now : Booked) (before : List ℕ) → MissesIds job b todo → now.total ≡ b.total → AreDifferentBelow (size_of c).limit before
      → now.outcomes ≡ b.outcomes ++ map (found_at job todo) before → ((id : ℕ) → HasFewVisits (outcome job (draw job.setting.key) id))
      → AreDifferentBelow (size_of c).limit (before ++ places) → IsShareFor now w.share.items
  more_share b now before missing same apart_before holds law together = record {
    below = done_within missing.ids.within now.total (same ∙ missing.whole);
    absent = more_absent b.outcomes now.outcomes before missing.ids apart_before holds together;
    apart = done_apart missing.ids.apart;
    bins = done_few law;
  }

  -- the book after it took in this worker's outcomes
  pub holds_more : (kept now later : List Outcome) (before both : List ℕ) → now ≡ kept ++ map (found_at job todo) before → later ≡ now ++ w.share.items
      → both ≡ before ++ places → later ≡ kept ++ map (found_at job todo) both
  holds_more kept now later before both holds merged joined =
      merged
      ∙ ap (λ os. os ++ w.share.items) holds
      ∙ ap (λ os. (kept ++ map (found_at job todo) before) ++ os) done.shared
      ∙ append_assoc kept (map (found_at job todo) before) (map (found_at job todo) places)
      ∙ ap (λ os. kept ++ os) (sym (ap (map (found_at job todo)) joined ∙ map-append (found_at job todo) before places))
