-- The number of endpoints after each round, and lists of rounds.
use Rattle.std.proofs.Common.{◌≡◌, ◌∙◌, sym, ap, subst, ℕ, zero, suc, ◌+◌, ◌-◌, ◌*◌, ◌^◌, ◌≤◌, min, List, [], ◌∷◌, ◌++◌, length, length-append, get_or, inl, inr, arith}
use Rattle.std.proofs.lemmas.Bool.{cases_eq}
use Rattle.std.proofs.Math.Nat.{pow-succ'}
use Rattle.std.proofs.Math.Pow.{suc_ones}
use Rattle.std.proofs.Math.Seq.{get_or-append_seam}
use Rattle.std.proofs.lemmas.List.{get_or_append_left}
use Rattle.audit_model.specs.declared.outcome.Outcome.{Outcome}
use Rattle.audit_model.specs.declared.setting.Command.{Command}
use Rattle.audit_model.specs.declared.setting.Command.TheVariants.{Check, Run, Make, Plans, Trace}
use Rattle.audit_model.specs.declared.setting.Setting.{Setting}
use Rattle.audit_model.specs.Job.{Job}
use Rattle.audit_model.specs.JobOf.{IsJob}
use Rattle.audit_model.specs.Limits.{IsSettingOf}
use Rattle.claim_counter.specs.declared.batches.BatchCounter.{BatchCounter}
use Rattle.claim_counter.specs.Batches.{IsFreshBatch}
use Rattle.sequential_test.specs.Pools.{AreRounds}
use Rattle.sequential_test.specs.Rounds.{ends_after, found_below, AreDecided, StopsInTime}

-- one more round by the doubling rule
pub next_after : (ends n : ℕ) → min ends (2 * ends_after ends n + 64) ≡ ends_after ends (suc n)
next_after ends n =
    let twice = pow-succ' 2 n in
    let some = suc_ones n in
    double ends (2 ^ n) (2 ^ suc n) (omega (arith, some)) twice
  where
    double : (ends p q : ℕ) → 1 ≤ p → q ≡ 2 * p → min ends (2 * min ends (64 * (p - 1)) + 64) ≡ min ends (64 * (q - 1))
    double ends p q some twice = omega arith

-- before the first round no endpoints are walked
pub none_after : (ends : ℕ) → ends_after ends 0 ≡ 0
none_after ends = omega arith

-- a round never goes past the last endpoint
pub few_after : (ends n : ℕ) → ends_after ends n ≤ ends
few_after ends n = omega arith

-- a list with one more round, which is walked last
pub rounds_more : (ends seats : ℕ) (rounds : List BatchCounter) (p : BatchCounter) → AreRounds ends seats 0 rounds
    → IsFreshBatch (ends_after ends (suc (length rounds)) - ends_after ends (length rounds)) seats p → AreRounds ends seats 0 (p ∷ rounds)
rounds_more ends seats rounds p are is zero d i inside at =
    let e : length rounds ≡ i = omega arith in
    subst (λ n. IsFreshBatch (ends_after ends (suc n) - ends_after ends n) seats p) e is
rounds_more ends seats rounds p are is (suc k) d i inside at = are k d i (omega arith) (omega arith)

-- the next round of the list
pub next_round : (ends seats done : ℕ) (all rest : List BatchCounter) (p : BatchCounter) → AreRounds ends seats done all → all ≡ rest ++ p ∷ []
    → IsFreshBatch (ends_after ends (suc done) - ends_after ends done) seats p
next_round ends seats done all rest p are is =
    let long : length all ≡ length rest + 1 = ap length is ∙ length-append rest (p ∷ []) in
    subst (IsFreshBatch (ends_after ends (suc done) - ends_after ends done) seats)
    (ap (λ xs. get_or xs (length rest) p) is ∙ get_or-append_seam rest p [] p)
    (are (length rest) p done (omega arith) (omega arith))

-- once the last counter of the list is taken, the others are those of the rounds after it
pub rounds_left : (ends seats done : ℕ) (all rest : List BatchCounter) (p : BatchCounter) → AreRounds ends seats done all → all ≡ rest ++ p ∷ [] → AreRounds ends seats (suc done) rest
rounds_left ends seats done all rest p are is k d i inside at =
    let long : length all ≡ length rest + 1 = ap length is ∙ length-append rest (p ∷ []) in
    subst (IsFreshBatch (ends_after ends (suc i) - ends_after ends i) seats)
    (ap (λ xs. get_or xs k d) is ∙ get_or_append_left rest (p ∷ []) d k inside)
    (are k d i (omega arith) (omega arith))

-- ---- between two rounds

-- `walked` endpoints were walked, and after no round was every ask decided
pub record IsAtRound (job : Job) (seats all : ℕ) (rounds : List BatchCounter) (walked : ℕ) : Type 0 where
  pub done : ℕ
  pub counted : done + length rounds ≡ all
  pub rounds_are : AreRounds job.setting.ends seats done rounds
  pub walked_is : walked ≡ ends_after job.setting.ends done
  pub before : (k : ℕ) → 1 ≤ k → k ≤ done → AreDecided job (found_below job (job.setting.walks + ends_after job.setting.ends k)) → ⊥

module _ (job : Job) (seats all : ℕ) (rounds : List BatchCounter) (walked : ℕ) (at : IsAtRound job seats all rounds walked) where
  pub next_walked : (next : ℕ) → next ≡ min job.setting.ends (2 * walked + 64) → next ≡ ends_after job.setting.ends (suc at.done)
  next_walked next is = is ∙ ap (λ w. min job.setting.ends (2 * w + 64)) at.walked_is ∙ next_after job.setting.ends at.done

  pub batch_is : (rest : List BatchCounter) (p : BatchCounter) (next from to : ℕ) → rounds ≡ rest ++ p ∷ [] → next ≡ min job.setting.ends (2 * walked + 64)
      → from ≡ job.setting.walks + walked → to ≡ job.setting.walks + next → IsFreshBatch (to - from) seats p
  batch_is rest p next from to popped is at_from at_to =
      let same : ends_after job.setting.ends (suc at.done) - ends_after job.setting.ends at.done ≡ to - from =
      let a = next_walked next is in let b = at.walked_is in omega (arith, a, b, at_from, at_to) in
      subst (λ n. IsFreshBatch n seats p) same (next_round job.setting.ends seats at.done rounds rest p at.rounds_are popped)

  pub round_done : (rest : List BatchCounter) (p : BatchCounter) (next : ℕ) → rounds ≡ rest ++ p ∷ [] → next ≡ min job.setting.ends (2 * walked + 64)
      → (AreDecided job (found_below job (job.setting.walks + next)) → ⊥) → IsAtRound job seats all rest next
  round_done rest p next popped is undecided =
      let next_is = next_walked next is in
      record {
        done = suc at.done;
        counted = let long = ap length popped ∙ length-append rest (p ∷ []) in let counted = at.counted in omega (arith, long, counted);
        rounds_are = rounds_left job.setting.ends seats at.done rounds rest p at.rounds_are popped;
        walked_is = next_is;
        before = λ k some few decided. elim (cases_eq k (suc at.done)) [
          | inl e ↦ undecided (subst (λ n. AreDecided job (found_below job (job.setting.walks + n))) (ap (ends_after job.setting.ends) e ∙ sym next_is) decided)
          | inr off ↦ at.before k some (omega (arith, few, off)) decided
        ];
      }

  pub stops_in_time : (next : ℕ) (outcomes : List Outcome) → next ≡ min job.setting.ends (2 * walked + 64) → outcomes ≡ found_below job (job.setting.walks + next)
      → StopsInTime job outcomes
  stops_in_time next outcomes is found = record {
    rounds = suc at.done;
    some = omega arith;
    found_are = found ∙ ap (λ n. found_below job (job.setting.walks + n)) (next_walked next is);
    before = λ k some less. at.before k some (omega (arith, less));
  }

  -- while endpoints are left, some test is not decided: rounds do not run out
  pub never_out : length rounds ≡ 0 → 1 ≤ job.setting.ends → ends_after job.setting.ends all ≡ job.setting.ends
      → AreDecided job (found_below job (job.setting.walks + job.setting.ends)) → ⊥
  never_out none some whole decided =
      let e : at.done ≡ all = let counted = at.counted in omega (arith, counted, none) in
      let here : ends_after job.setting.ends at.done ≡ job.setting.ends = ap (ends_after job.setting.ends) e ∙ whole in
      at.before at.done (elim (cases_eq at.done 0) [
        | inl z ↦ absurd (omega (arith, ap (ends_after job.setting.ends) z, none_after job.setting.ends, here, some))
        | inr off ↦ omega arith
      ]) (omega arith) (subst (λ n. AreDecided job (found_below job (job.setting.walks + n))) (sym here) decided)

-- an empty list has the counters of no rounds
pub no_rounds : (ends seats : ℕ) (rounds : List BatchCounter) → length rounds ≡ 0 → AreRounds ends seats 0 rounds
no_rounds ends seats rounds none k d i inside at = absurd (omega (arith, inside, none))

-- ---- limits of a job

-- a setting read from arguments has few trajectories and asks
few_by : (command : Command) (s : Setting) → IsSettingOf command s → (s.walks + s.ends ≤ 100000) × (length s.asks ≤ 4)
few_by Check s is = (omega (arith, is.no_walks, is.no_ends), omega (arith, ap length is.no_asks))
few_by Run s is = (is.few, is.few_asks)
few_by Make s is = (is.few, is.few_asks)
few_by Plans s is = (is.few, is.few_asks)
few_by Trace s is = (is.run.few, is.run.few_asks)

-- a job's setting has few trajectories and asks
pub few_job : (job : Job) → IsJob job → (job.setting.walks + job.setting.ends ≤ 100000) × (length job.setting.asks ≤ 4)
few_job job is = few_by job.setting.command job.setting is.within.setting.command
