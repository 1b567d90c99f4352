-- Several plans, whose reports are written one after the other.
use Rattle.std.proofs.Common.{◌≡◌, ◌⊎◌, inl, inr, ℕ, zero, suc, ◌<◌, ◌≤◌, ◌++◌, List, [], ◌∷◌, length, length-append, append_assoc, Result, Ok, Err, refl, sym, ap, ◌∙◌, subst, arith}
use Rattle.std.proofs.lemmas.Bool.{cases_lt}
use Rattle.audit_io.specs.declared.source.Failed.{Failed}
use Rattle.audit_model.specs.Faults.{Rose}
use Rattle.audit_model.specs.State.{Stream}
use Rattle.audit_model.specs.declared.outcome.Outcome.{Outcome}
use Rattle.audit_model.specs.Job.{Job}
use Rattle.audit_model.specs.Below.{map_below}
use Rattle.audit_model.specs.Run.{total}
use Rattle.audit_model.specs.Serially.{serial_observed}
use Rattle.audit_model.specs.Trajectory.{Draws, outcome, sequence}
use Rattle.audit_model.proofs.Resumed.{full_is_sequence}
use Rattle.audit_statement.specs.Draw.{draw}
use Rattle.audit_statement.specs.Report.{full_report, plan_text, plans_text, report, thread_report}
use Rattle.report.specs.Outcomes.{reported}
use Rattle.report.specs.AddedText.{WritesAllOf}
use Rattle.audit_statement.specs.DueText.{LetsBytes, LetsText}
use Rattle.report.proofs.Letting.{lets_as, lets_front, lets_rest}
use Rattle.report.proofs.Appended.{appends_more, appends_nothing, part_after, part_of_more}
use Rattle.audit_statement.specs.Endings.{full_of}
use Rattle.audit_laws.specs.Runs.{AreAll}
use Rattle.audit_laws.proofs.Running.{leaves_none}
use Rattle.audit_laws.proofs.Starting.{every_id, none_right}
use Rattle.plan_runs.specs.declared.found.Found.{Found}
use Rattle.plan_runs.specs.Found.{HasFound, ReportsAll, listed_in, observed_in}
use Rattle.plan_runs.proofs.Reporting.{length-listed}
use Rattle.plan_runs.specs.Plans.{RunsAlone}

-- ---- one text after another

-- a text that was written in full, followed by another
pub writes_then : (a b c : Stream) (xs ys : List ℕ) (r : Result (Unit {0}) Failed) → WritesAllOf a b xs (Ok tt) → WritesAllOf b c ys r → WritesAllOf a c (xs ++ ys) r
writes_then a b c xs ys (Ok done) p q = (appends_more a.bytes b.bytes c.bytes xs ys p.0 q.0, q.1 ∙ p.1)
writes_then a b c xs ys (Err failed) p q =
    (part_after a.bytes b.bytes c.bytes xs ys p.0 q.0, subst (λ (k : ℕ). Rose k c.faults) p.1 q.1)

-- a text that was written in part
pub writes_part : (a b : Stream) (xs ys : List ℕ) (failed other : Failed) → WritesAllOf a b xs (Err failed) → WritesAllOf a b (xs ++ ys) (Err other)
writes_part a b xs ys failed other p = (part_of_more a.bytes b.bytes xs ys p.0, p.1)

-- ---- the reports of all plans

-- without plans nothing is written
pub texts_none : (draws : Draws) → plans_text draws [] ≡ []
unfolding plans_text
texts_none draws = refl

-- the text of the first plan, followed by those of the others
pub texts_first : (draws : Draws) (plan : List ℕ × Job) (rest : List (List ℕ × Job)) → plans_text draws (plan ∷ rest) ≡ plan_text draws plan ++ plans_text draws rest
unfolding plans_text
texts_first draws plan rest = refl

-- the texts of the plans, if the first was written in full
pub plans_go_on : (draws : Draws) (a b c : Stream) (left rest : List (List ℕ × Job)) (plan : List ℕ × Job) (r : Result (Unit {0}) Failed) → left ≡ plan ∷ rest
    → WritesAllOf a b (plan_text draws plan) (Ok tt) → WritesAllOf b c (plans_text draws rest) r → WritesAllOf a c (plans_text draws left) r
plans_go_on draws a b c left rest plan r is p q =
    subst (λ (text : List ℕ). WritesAllOf a c text r) (sym (ap (plans_text draws) is ∙ texts_first draws plan rest))
    (writes_then a b c (plan_text draws plan) (plans_text draws rest) r p q)

-- if the first text was not written in full, nothing follows it
pub plans_break : (draws : Draws) (a b : Stream) (left rest : List (List ℕ × Job)) (plan : List ℕ × Job) (failed other : Failed) → left ≡ plan ∷ rest
    → WritesAllOf a b (plan_text draws plan) (Err failed) → WritesAllOf a b (plans_text draws left) (Err other)
plans_break draws a b left rest plan failed other is p =
    subst (λ (text : List ℕ). WritesAllOf a b text (Err other)) (sym (ap (plans_text draws) is ∙ texts_first draws plan rest))
    (writes_part a b (plan_text draws plan) (plans_text draws rest) failed other p)

-- if no plan is left, the text is complete
pub plans_end : (draws : Draws) (a : Stream) (left : List (List ℕ × Job)) → left ≡ [] → WritesAllOf a a (plans_text draws left) (Ok tt)
plans_end draws a left is =
    subst (λ (text : List ℕ). WritesAllOf a a text (Ok tt)) (sym (ap (plans_text draws) is ∙ texts_none draws)) (appends_nothing a.bytes, refl)

-- ---- the reports that a sink permits

module _ {lets : LetsBytes} (key own : List ℕ) (same : own ≡ key) where
  -- the report of the first plan
  pub plan_permitted : (a : Stream) (left rest : List (List ℕ × Job)) (plan : List ℕ × Job) → left ≡ plan ∷ rest → LetsText lets a (plans_text (draw key) left)
      → LetsText lets a (plan_text (draw own) plan)
  plan_permitted a left rest plan is due =
      lets_as (lets_front (plan_text (draw key) plan) (plans_text (draw key) rest) (lets_as due (ap (plans_text (draw key)) is ∙ texts_first (draw key) plan rest)))
      (ap (λ (k : List ℕ). plan_text (draw k) plan) (sym same))

  -- the reports of the others, once the first was written
  pub plans_permitted : (a b : Stream) (left rest : List (List ℕ × Job)) (plan : List ℕ × Job) → left ≡ plan ∷ rest → LetsText lets a (plans_text (draw key) left)
      → WritesAllOf a b (plan_text (draw own) plan) (Ok tt) → LetsText lets b (plans_text (draw key) rest)
  plans_permitted a b left rest plan is due wrote =
      let taken = subst (λ (k : List ℕ). WritesAllOf a b (plan_text (draw k) plan) (Ok tt)) same wrote in
      lets_rest (plan_text (draw key) plan) (plans_text (draw key) rest) (lets_as due (ap (plans_text (draw key)) is ∙ texts_first (draw key) plan rest)) taken.0 taken.1

-- ---- the reports of one round, followed by those of the others

-- the texts of some plans, followed by those of others
pub texts_append : (draws : Draws) (xs ys : List (List ℕ × Job)) → plans_text draws (xs ++ ys) ≡ plans_text draws xs ++ plans_text draws ys
texts_append draws [] ys = sym (ap (λ (text : List ℕ). text ++ plans_text draws ys) (texts_none draws))
texts_append draws (x ∷ xs) ys =
    texts_first draws x (xs ++ ys)
    ∙ ap (λ (text : List ℕ). plan_text draws x ++ text) (texts_append draws xs ys)
    ∙ sym (append_assoc (plan_text draws x) (plans_text draws xs) (plans_text draws ys))
    ∙ ap (λ (text : List ℕ). text ++ plans_text draws ys) (sym (texts_first draws x xs))

module _ (draws : Draws) (left now rest : List (List ℕ × Job)) (is : left ≡ now ++ rest) where
  in_two : plans_text draws left ≡ plans_text draws now ++ plans_text draws rest
  in_two = ap (plans_text draws) is ∙ texts_append draws now rest

  -- the texts of all plans, if those of the round were written in full
  pub rounds_go_on : (a b c : Stream) (r : Result (Unit {0}) Failed) → WritesAllOf a b (plans_text draws now) (Ok tt) → WritesAllOf b c (plans_text draws rest) r
      → WritesAllOf a c (plans_text draws left) r
  rounds_go_on a b c r p q =
      subst (λ (text : List ℕ). WritesAllOf a c text r) (sym in_two) (writes_then a b c (plans_text draws now) (plans_text draws rest) r p q)

  -- if the texts of the round were not written in full, nothing follows them
  pub rounds_break : (a b : Stream) (failed other : Failed) → WritesAllOf a b (plans_text draws now) (Err failed) → WritesAllOf a b (plans_text draws left) (Err other)
  rounds_break a b failed other p =
      subst (λ (text : List ℕ). WritesAllOf a b text (Err other)) (sym in_two) (writes_part a b (plans_text draws now) (plans_text draws rest) failed other p)

  module _ {lets : LetsBytes} (a : Stream) (due : LetsText lets a (plans_text draws left)) where
    -- the sink permits the reports of the round
    pub round_permitted : LetsText lets a (plans_text draws now)
    round_permitted = lets_front (plans_text draws now) (plans_text draws rest) (lets_as due in_two)

    -- the sink permits the reports of the others, once those of the round were written
    pub rounds_permitted : (b : Stream) → WritesAllOf a b (plans_text draws now) (Ok tt) → LetsText lets b (plans_text draws rest)
    rounds_permitted b wrote = lets_rest (plans_text draws now) (plans_text draws rest) (lets_as due in_two) wrote.0 wrote.1

-- ---- the report of one plan

-- the table of a function below n has n entries
length-below : {A : Type 0} (n : ℕ) (f : ℕ → A) → length (map_below n f) ≡ n
length-below zero f = refl
length-below (suc n) f = omega (arith, length-append (map_below n f) (f n ∷ []), length-below n f)

module _ (job : Job) (by : RunsAlone job) where
  -- all outcomes of a run without initial outcomes are those of one thread
  all_are_one : (outcomes : List Outcome) → AreAll job [] outcomes → outcomes ≡ sequence job (draw job.setting.key)
  all_are_one outcomes all =
      let draws = draw job.setting.key in
      let whole : full_of job [] ≡ sequence job draws =
      full_is_sequence job draws [] (none_right job draws) job.setting.budget (every_id job [] (leaves_none job [] by.run by.unsaved)) in
      all.full ∙ whole

  -- the number of outcomes is the number of trajectories
  all_observed : (outcomes : List Outcome) → AreAll job [] outcomes → total job ≤ length outcomes
  unfolding sequence
  all_observed outcomes all = omega (arith, ap length (all_are_one outcomes all), length-below (total job) (outcome job (draw job.setting.key)))

  -- no outcome of the report is missing
  pub none_short : (f : Found) → HasFound job [] f → reported job ≤ f.listed
  none_short f has = by_order (cases_lt f.listed (reported job))
    where
      by_order : (f.listed < reported job) ⊎ (reported job ≤ f.listed) → reported job ≤ f.listed
      by_order (inl less) =
          let left = has.short less in
          absurd (omega (arith, less, left.due, length-listed f has.reportable.enough, all_observed (listed_in f) left.all))
      by_order (inr enough) = enough

  -- the report on the outcomes is the report of one thread
  pub thread_observed : (f : Found) → ReportsAll job [] f → report job (listed_in f) (observed_in f) (serial_observed job (draw job.setting.key)) ≡ thread_report job (draw job.setting.key)
  unfolding thread_report
  thread_observed f same_report =
      same_report.same ∙ ap (λ (os : List Outcome). full_report job (draw job.setting.key) os) (all_are_one same_report.outcomes same_report.all)
