use Rattle.std.proofs.Common.{ℕ, List, Ok, Err, sym, subst, ◌∙◌}
use Rattle.audit_statement.specs.Draw.{draw}
use Rattle.audit_statement.specs.Trace.{trace_id_line}
use Rattle.plan_runs.specs.Tracers.{all_lines}
use Rattle.plan_runs.proofs.Strides.{trajectory_parts, wrote_part, wrote_then}
use Rattle.report.specs.AddedText.{WritesAllOf}
use Rattle.report.proofs.Letting.{lets_as, lets_front, lets_rest}
use Rattle.plan_runs.proofs.tracing.write_trajectory.Goals as goal

pub returns-in-Err-clause-written : goal.returns-in-Err-clause-written
returns-in-Err-clause-written g c =
    let job = c.args.job.now in
    let traced = c.args.traced in
    let out = g.K.Sink.state c.args.out.now in
    let later = g.K.Sink.state c.write_all.new.out in
    subst (λ (t : List ℕ). WritesAllOf out later t (Err _)) (sym (trajectory_parts job (draw job.setting.key) traced.id traced.thin))
    (wrote_part out later (trace_id_line job traced.id traced.thin) (all_lines job traced) c.in-Err.field-0 _
    (subst (λ (t : List ℕ). WritesAllOf out later t (Err c.in-Err.field-0)) (c.as_slice.ensures ∙ c.start_trajectory.ensures.line) c.in-Err.ensures))

pub returns-in-Ok-clause-written : goal.returns-in-Ok-clause-written
returns-in-Ok-clause-written g c =
    let job = c.args.job.now in
    let traced = c.args.traced in
    let out = g.K.Sink.state c.args.out.now in
    let mid = g.K.Sink.state c.write_all.new.out in
    let later = g.K.Sink.state c.write_lines.new.out in
    subst (λ (t : List ℕ). WritesAllOf out later t c.write_lines.result) (sym (trajectory_parts job (draw job.setting.key) traced.id traced.thin))
    (wrote_then out mid later (trace_id_line job traced.id traced.thin) (all_lines job traced) c.write_lines.result
    (subst (λ (t : List ℕ). WritesAllOf out mid t (Ok tt)) (c.as_slice.ensures ∙ c.start_trajectory.ensures.line) c.in-Ok.ensures) c.write_lines.ensures.written)

pub write_all-requires : goal.write_all-requires
write_all-requires g c =
    let job = c.args.job.now in
    let traced = c.args.traced in
    lets_as (lets_front (trace_id_line job traced.id traced.thin) (all_lines job traced) (lets_as c.requires.text (trajectory_parts job (draw job.setting.key) traced.id traced.thin)))
    (sym (c.as_slice.ensures ∙ c.start_trajectory.ensures.line))

pub write_lines-requires-clause-text : goal.write_lines-requires-clause-text
write_lines-requires-clause-text g c =
    let job = c.args.job.now in
    let traced = c.args.traced in
    let taken = subst (λ (t : List ℕ). WritesAllOf (g.K.Sink.state c.args.out.now) (g.K.Sink.state c.write_all.new.out) t (Ok tt)) (c.as_slice.ensures ∙ c.start_trajectory.ensures.line) c.in-Ok.ensures in
    lets_rest (trace_id_line job traced.id traced.thin) (all_lines job traced) (lets_as c.requires.text (trajectory_parts job (draw job.setting.key) traced.id traced.thin)) taken.0 taken.1
