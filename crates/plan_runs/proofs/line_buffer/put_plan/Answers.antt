use Rattle.std.proofs.Common.{◌++◌, ℕ, List, length, take, ap, ◌∙◌, arith}
use Rattle.audit_model.specs.declared.setting.Setting.{Setting}
use Rattle.audit_statement.specs.Trace.{plan_line}
use Rattle.plan_runs.proofs.CurrentLine.{legal_current, line_observed}
use Rattle.plan_runs.proofs.line_buffer.put_plan.Goals as goal

pub plan_line-requires-clause-room : goal.plan_line-requires-clause-room
plan_line-requires-clause-room g c =
    let job = c.args.job.now in
    let current = c.args.walker.now in
    let now = c.values-values.new.self in
    let observed = line_observed job current now c.values-values.ensures.same c.requires.made c.args.step c.args.moved c.len-asks.result c.values-values.result c.args.line_buffer.now.before c.as_slice.result.now c.as_slice-plan.result.now
    c.setting.ensures.sound (c.len-asks.ensures ∙ ap (λ (s : Setting). length s.asks) c.setting.ensures.value) c.values-values.ensures.values c.as_slice.ensures
    (c.as_slice-plan.ensures ∙ c.plan.ensures.value) in
    let fits = c.requires.line_buffer.room.plan c.args.step c.args.moved c.args.line_buffer.now.before current.plan (legal_current job current now c.values-values.ensures.same c.requires.made c.plan.ensures.legal) in
    omega (arith, ap length observed, fits, c.clear.ensures.spare)

pub returns-clause-line : goal.returns-clause-line
returns-clause-line g c =
    let job = c.args.job.now in
    let current = c.args.walker.now in
    let now = c.values-values.new.self in
    let observed = line_observed job current now c.values-values.ensures.same c.requires.made c.args.step c.args.moved c.len-asks.result c.values-values.result c.args.line_buffer.now.before c.as_slice.result.now c.as_slice-plan.result.now
    c.setting.ensures.sound (c.len-asks.ensures ∙ ap (λ (s : Setting). length s.asks) c.setting.ensures.value) c.values-values.ensures.values c.as_slice.ensures
    (c.as_slice-plan.ensures ∙ c.plan.ensures.value) in
    c.plan_line.ensures.items
    ∙ ap (λ (t : List ℕ). t ++ plan_line c.args.step c.args.moved (take c.len-asks.result c.values-values.result) c.as_slice.result.now c.as_slice-plan.result.now) c.clear.ensures.items
    ∙ observed
