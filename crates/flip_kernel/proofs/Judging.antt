-- The plans that a constraint is asked about.
use Rattle.std.proofs.Common.{◌≡◌, ℕ, ◌<◌, List, length, get_or, set, sym, ap, ◌∙◌, subst, inl, inr, arith, length-set}
use Rattle.std.specs.Prelude.{IsTrue}
use Rattle.std.proofs.lemmas.Bool.{cases_eq}
use Rattle.std.proofs.lemmas.List.{get_or-set_same, get_or-set_other}
use Rattle.audit_model.specs.Below.{above_all}
use Rattle.audit_model.specs.Job.{Job}
use Rattle.audit_model.specs.Plan.{IsLegal}
use Rattle.audit_model.proofs.ListFacts.{above_all_most}
use Rattle.flip_guard.specs.Judging.{IsAfterMove, IsTaken, Judging}
use Rattle.flip_kernel.specs.Judged.{IsJudgeFor, HasConstraintAt}
use Rattle.flip_kernel.proofs.Holding.{put_back}

-- a plan of the job is accepted
pub plan_taken : (job : Job) (by : Judging) → IsJudgeFor job by → (plan : List ℕ) → length plan ≡ job.graph.units
    → ((u : ℕ) → u < job.graph.units → get_or plan u 0 < job.districts) → IsTaken by plan
plan_taken job by judge plan complete in_range = subst (λ (n : ℕ). IsTrue (by.takes n (above_all plan))) (sym complete)
    (judge.taken (above_all plan) (above_all_most plan job.districts (λ u l. in_range u (omega (arith, l, complete)))))

-- the plan after a move is accepted
pub judged_after : (job : Job) (by : Judging) (plan : List ℕ) → HasConstraintAt job plan by → IsLegal job plan → (after : List ℕ) (unit district home : ℕ)
    → unit < job.graph.units → district < job.districts → after ≡ set plan unit district → home ≡ get_or plan unit 0 → IsAfterMove by after unit home
judged_after job by plan judge legal after unit district home inside within is was =
    let back : set after unit home ≡ plan = put_back plan after unit district home is was in
    let l : unit < length plan = omega (arith, inside, legal.complete) in
    let width : length after ≡ job.graph.units = ap length is ∙ length-set plan unit district ∙ legal.complete in
    let below : (v : ℕ) → v < job.graph.units → get_or after v 0 < job.districts = λ v lv. elim (cases_eq v unit) [
      | inl e ↦ subst (λ (x : ℕ). x < job.districts)
          (sym (ap (λ (p : List ℕ). get_or p v 0) is ∙ ap (λ (x : ℕ). get_or (set plan unit district) x 0) e ∙ get_or-set_same plan unit district 0 l)) within
      | inr apart ↦ subst (λ (x : ℕ). x < job.districts)
          (sym (ap (λ (p : List ℕ). get_or p v 0) is ∙ get_or-set_other plan unit v district 0 apart)) (legal.in_range v lv)
    ] in
    record {
      taken = plan_taken job by judge.fit after width below;
      unit_below = omega (arith, inside, width);
      taken_before = subst (λ (p : List ℕ). IsTaken by p) (sym back) (plan_taken job by judge.fit plan legal.complete legal.in_range);
      stood = subst by.stands (sym back) judge.stood;
    }
