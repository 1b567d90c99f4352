use Rattle.std.proofs.Common.{ℕ, ◌+◌, ◌-◌, List, ◌++◌, Ok, Err, sym, subst, ◌∙◌}
use Rattle.audit_statement.specs.Draw.{draw}
use Rattle.audit_statement.specs.Trace.{trace_head}
use Rattle.plan_runs.specs.Tracers.{end_line, lines_of_range}
use Rattle.plan_runs.proofs.Strides.{text_parts, wrote_part, wrote_then}
use Rattle.report.specs.AddedText.{WritesAllOf}
use Rattle.report.proofs.Letting.{lets_as, lets_front, lets_rest}
use Rattle.plan_runs.proofs.tracing.write_trace.Goals as goal

pub returns-in-Err : goal.returns-in-Err
returns-in-Err g c =
    let job = c.args.job.now in
    let range = c.args.range in
    let out = g.K.Sink.state c.args.out.now in
    let later = g.K.Sink.state c.write_all.new.out in
    subst (λ (t : List ℕ). WritesAllOf out later t (Err _)) (sym (text_parts job (draw job.setting.key) range.first range.last range.thin))
    (wrote_part out later (trace_head job) (lines_of_range job range (range.last + 1 - range.first) ++ end_line) c.in-Err.field-0 _
    (subst (λ (t : List ℕ). WritesAllOf out later t (Err c.in-Err.field-0)) (c.as_slice.ensures ∙ c.requires.buffers.head) c.in-Err.ensures))

pub returns-in-Ok : goal.returns-in-Ok
returns-in-Ok g c =
    let job = c.args.job.now in
    let range = c.args.range in
    let out = g.K.Sink.state c.args.out.now in
    let mid = g.K.Sink.state c.write_all.new.out in
    let later = g.K.Sink.state c.write_body.new.out in
    subst (λ (t : List ℕ). WritesAllOf out later t c.write_body.result) (sym (text_parts job (draw job.setting.key) range.first range.last range.thin))
    (wrote_then out mid later (trace_head job) (lines_of_range job range (range.last + 1 - range.first) ++ end_line) c.write_body.result
    (subst (λ (t : List ℕ). WritesAllOf out mid t (Ok tt)) (c.as_slice.ensures ∙ c.requires.buffers.head) c.in-Ok.ensures) c.write_body.ensures)

pub write_all-requires : goal.write_all-requires
write_all-requires g c =
    let job = c.args.job.now in
    let range = c.args.range in
    let rest = lines_of_range job range (range.last + 1 - range.first) ++ end_line in
    lets_as (lets_front (trace_head job) rest (lets_as c.requires.text (text_parts job (draw job.setting.key) range.first range.last range.thin))) (sym (c.as_slice.ensures ∙ c.requires.buffers.head))

pub write_body-requires-clause-text : goal.write_body-requires-clause-text
write_body-requires-clause-text g c =
    let job = c.args.job.now in
    let range = c.args.range in
    let rest = lines_of_range job range (range.last + 1 - range.first) ++ end_line in
    let taken = subst (λ (t : List ℕ). WritesAllOf (g.K.Sink.state c.args.out.now) (g.K.Sink.state c.write_all.new.out) t (Ok tt)) (c.as_slice.ensures ∙ c.requires.buffers.head) c.in-Ok.ensures in
    lets_rest (trace_head job) rest (lets_as c.requires.text (text_parts job (draw job.setting.key) range.first range.last range.thin)) taken.0 taken.1
