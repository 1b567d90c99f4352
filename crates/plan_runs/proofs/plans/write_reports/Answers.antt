use Rattle.std.proofs.Common.{◌≡◌, ℕ, List, [], All, Ok, Err, map, length, ap, subst, sym, arith}
use Rattle.std.specs.Vec.Iter.{into_iter_items}
use Rattle.std.proofs.lemmas.List.{nil_from_length}
use Rattle.audit_model.specs.Job.{Job}
use Rattle.report.specs.AddedText.{WritesAllOf}
use Rattle.audit_statement.specs.Draw.{draw}
use Rattle.audit_statement.specs.DueText.{LetsText}
use Rattle.audit_statement.specs.Jobs.{Jobs}
use Rattle.audit_statement.specs.Report.{plan_text, plans_text}
use Rattle.plan_runs.specs.Plans.{HasReport, HaveKey, walk_pair}
use Rattle.plan_runs.proofs.Reported.{plan_permitted, plans_break, plans_end, plans_go_on, plans_permitted}
use Rattle.plan_runs.proofs.Turning.{next_of}
use Rattle.plan_runs.proofs.plans.write_reports.Goals as goal

pub write_report-requires-clause-report : goal.write_report-requires-clause-report
write_report-requires-clause-report g c = (next_of (HasReport) _ _ c.in-Some.walk c.loop-walk.invariant.each c.in-Some.ensures.steps.0).0

pub write_report-requires-clause-text : goal.write_report-requires-clause-text
write_report-requires-clause-text g c =
    let due = c.requires.text in
    let pairs = ap (map walk_pair) c.in-Some.ensures.steps.0 in
    let key = next_of (λ (plan : List ℕ × Job). plan.1.setting.key ≡ due.key) _ _ (walk_pair c.in-Some.walk) (c.loop-walk.invariant.keys due.key due.have_key) pairs in
    plan_permitted due.key c.in-Some.walk.plan.job.setting.key key.0 (g.K.Sink.state c.loop-walk.out) _ _ (walk_pair c.in-Some.walk) pairs
    (c.loop-walk.invariant.permitted due.key due.have_key due.permitted)

pub loop-walk-preserved : goal.loop-walk-preserved
loop-walk-preserved g c =
    let pairs = ap (map walk_pair) c.in-Some.ensures.steps.0 in
    let keys = λ (key : List ℕ) (all : HaveKey key (map walk_pair c.args.walks.items)). next_of (λ (plan : List ℕ × Job). plan.1.setting.key ≡ key) _ _ (walk_pair c.in-Some.walk) (c.loop-walk.invariant.keys key all) pairs in
    record {
      each = (next_of (HasReport) _ _ c.in-Some.walk c.loop-walk.invariant.each c.in-Some.ensures.steps.0).1;
      keys = λ key all. (keys key all).1;
      rest = λ key all later r wrote. c.loop-walk.invariant.rest key all later r
          (plans_go_on (draw key) (g.K.Sink.state c.loop-walk.out) (g.K.Sink.state c.write_report.new.out) later _ _ (walk_pair c.in-Some.walk) r pairs
          (subst (λ (k : List ℕ). WritesAllOf (g.K.Sink.state c.loop-walk.out) (g.K.Sink.state c.write_report.new.out) (plan_text (draw k) (walk_pair c.in-Some.walk)) (Ok tt)) (keys key all).0 c.in-Ok.ensures) wrote);
      permitted = λ key all due.
          plans_permitted key c.in-Some.walk.plan.job.setting.key (keys key all).0
          (g.K.Sink.state c.loop-walk.out) (g.K.Sink.state c.write_report.new.out) _ _ (walk_pair c.in-Some.walk) pairs
          (c.loop-walk.invariant.permitted key all due) c.in-Ok.ensures;
      counted = omega (arith, c.in-Some.ensures.steps.1, c.loop-walk.invariant.counted, ap length c.in-Some.ensures.steps.0);
    }

pub returns-in-Err : goal.returns-in-Err
returns-in-Err g c = λ key all.
    let pairs = ap (map walk_pair) c.in-Some.ensures.steps.0 in
    let same = next_of (λ (plan : List ℕ × Job). plan.1.setting.key ≡ key) _ _ (walk_pair c.in-Some.walk) (c.loop-walk.invariant.keys key all) pairs in
    c.loop-walk.invariant.rest key all (g.K.Sink.state c.write_report.new.out) (Err c.in-Err.field-0)
    (plans_break (draw key) (g.K.Sink.state c.loop-walk.out) (g.K.Sink.state c.write_report.new.out) _ _ (walk_pair c.in-Some.walk) c.in-Err.field-0 c.in-Err.field-0 pairs
    (subst (λ (k : List ℕ). WritesAllOf (g.K.Sink.state c.loop-walk.out) (g.K.Sink.state c.write_report.new.out) (plan_text (draw k) (walk_pair c.in-Some.walk)) (Err c.in-Err.field-0)) same.0 c.in-Err.ensures))

pub returns : goal.returns
returns g c = λ key all.
    let none : into_iter_items c.loop-walk.walk-iterator ≡ [] = nil_from_length _ (omega (arith, c.loop-walk.invariant.counted, c.in-None.ensures.steps.0)) in
    c.loop-walk.invariant.rest key all (g.K.Sink.state c.loop-walk.out) (Ok tt) (plans_end (draw key) (g.K.Sink.state c.loop-walk.out) _ (ap (map walk_pair) none))

pub loop-walk-init : goal.loop-walk-init
loop-walk-init g c =
    let gives = c.into_iter-walk-iterator.ensures.into_iter_gives in
    let same = ap (map walk_pair) gives.0 in
    record {
      each = subst (All (HasReport)) (sym gives.0) c.requires.reports;
      keys = λ key all. subst (HaveKey key) (sym same) all;
      rest = λ key all later r wrote. subst (λ (jobs : Jobs). WritesAllOf (g.K.Sink.state c.args.out.now) later (plans_text (draw key) jobs) r) same wrote;
      permitted = λ key all due. subst (λ (jobs : Jobs). LetsText g.K.Sink.lets (g.K.Sink.state c.args.out.now) (plans_text (draw key) jobs)) (sym same) due;
      counted = omega (arith, gives.1, ap length gives.0, c.args.walks.ok.0);
    }
