use Rattle.std.proofs.Common.{◌≡◌, ◌∙◌, ◌++◌, ℕ, List, Option, MatchOption, ap, subst, sym}
use Rattle.audit_model.specs.Room.{RoomyBytes}
use Rattle.report.specs.AddedText.{WritesAllOf}
use Rattle.audit_statement.specs.Draw.{draw}
use Rattle.audit_statement.specs.Report.{thread_report}
use Rattle.plan_runs.specs.Plans.{plan_title}
use Rattle.report.proofs.Letting.{lets_as}
use Rattle.plan_runs.proofs.plans.write_report.Goals as goal

pub returns : goal.returns
returns g c =
    let job = c.args.walk.plan.job in
    let report = λ (text : Option RoomyBytes). MatchOption text ⊥ (λ bytes. bytes.items ≡ thread_report job (draw job.setting.key)) in
    let report_is = subst report (sym c.requires.report.walked ∙ c.in-Some.is) c.requires.report.report_is in
    let observed = c.as_slice.ensures ∙ report_is in
    subst (λ (name : List ℕ). WritesAllOf (g.K.Sink.state c.args.out.now) (g.K.Sink.state c.write_plan-written.new.out) (plan_title name ++ thread_report job (draw job.setting.key)) c.write_plan-written.result) c.as_str.ensures
    (subst (λ (text : List ℕ). WritesAllOf (g.K.Sink.state c.args.out.now) (g.K.Sink.state c.write_plan-written.new.out) (plan_title c.as_str.result.now ++ text) c.write_plan-written.result) observed c.write_plan-written.ensures)

pub write_plan-written-requires : goal.write_plan-written-requires
write_plan-written-requires g c =
    let job = c.args.walk.plan.job in
    let report = λ (text : Option RoomyBytes). MatchOption text ⊥ (λ bytes. bytes.items ≡ thread_report job (draw job.setting.key)) in
    let report_is = subst report (sym c.requires.report.walked ∙ c.in-Some.is) c.requires.report.report_is in
    let observed = c.as_slice.ensures ∙ report_is in
    lets_as c.requires.text
    (sym (ap (λ (text : List ℕ). plan_title c.as_str.result.now ++ text) observed
    ∙ ap (λ (name : List ℕ). plan_title name ++ thread_report job (draw job.setting.key)) c.as_str.ensures))
