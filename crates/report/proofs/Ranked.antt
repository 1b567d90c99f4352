-- The lines of the parallel test depend on its own outcomes alone.
use Rattle.std.proofs.Common.{◌≡◌, ℕ, zero, suc, ◌+◌, ◌≤◌, ℤ, List, length, arith, flat_map, filter, refl, ap, sym, ◌∙◌}
use Rattle.std.specs.Prelude.{nat_le}
use Rattle.audit_model.specs.declared.outcome.Outcome.{Outcome}
use Rattle.audit_model.specs.Job.{Job}
use Rattle.std.proofs.lemmas.List.Sums.{count_by-le-length}
use Rattle.audit_model.specs.declared.setting.Tail.{Tail}
use Rattle.audit_model.specs.Trajectory.{in_tail, plan_value, rank_among, value_at}
use Rattle.audit_model.specs.Stopping.{placed_asks}
use Rattle.audit_statement.specs.Report.{ends_line, ends_lines}
use Rattle.report.specs.Outcomes.{AreEndsOf}
use Rattle.report.specs.Parts.{rank_line}
use Rattle.report.proofs.Sorted.{ends_all}

-- the lines with ranks among these outcomes
lines_among : Job → List Outcome → List ℕ
lines_among job os =
    flat_map (λ ask. rank_line job ask.1 (rank_among ask.1.tail (plan_value job job.start ask.1.score) ask.0 os)) (placed_asks job)

-- the lines of the parallel test have ranks among its outcomes, if there are some
lines_of_ends : (n : ℕ) (job : Job) (os : List Outcome) → (n ≡ 0 → ⊥)
    → ends_lines n job os ≡ lines_among job (filter (λ o. nat_le job.setting.walks o.id) os)
unfolding lines_among
lines_of_ends zero job os some = absurd (some refl)
lines_of_ends (suc n) job os some = refl

-- the lines of the asks, computed from the endpoints alone, are the test's lines
pub lines_alone : (n : ℕ) (job : Job) (os ends : List Outcome) → (n ≡ 0 → ⊥) → ends ≡ filter (λ o. nat_le job.setting.walks o.id) os
    → AreEndsOf job ends → flat_map (ends_line job ends) (placed_asks job) ≡ ends_lines n job os
unfolding lines_among
lines_alone n job os ends some all h =
    ap (lines_among job) (ends_all job.setting.walks ends h.ids ∙ all) ∙ sym (lines_of_ends n job os some)

-- a rank is one of the numbers from 1 to the number of endpoints and one
pub rank_within : (tail : Tail) (start : ℤ) (place n r : ℕ) (ends : List Outcome) → r ≡ rank_among tail start place ends → length ends ≡ n → (1 ≤ r) × (r ≤ n + 1)
rank_within tail start place n r ends is count =
    let few = count_by-le-length (λ o. in_tail tail (value_at o place) start) ends in
    (omega (arith, is), omega (arith, is, few, count))

-- equal tails and values have equal ranks
pub same_rank : (tail own : Tail) (start value : ℤ) (place r : ℕ) (ends : List Outcome) → r ≡ rank_among tail start place ends → tail ≡ own → start ≡ value
    → r ≡ rank_among own value place ends
same_rank tail own start value place r ends is tails values = is ∙ ap (λ t. rank_among t start place ends) tails ∙ ap (λ s. rank_among own s place ends) values
