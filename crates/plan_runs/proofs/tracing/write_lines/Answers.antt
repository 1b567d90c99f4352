use Rattle.std.proofs.Common.{◌≡◌, ◌≤◌, ◌+◌, ℕ, List, Ok, Err, ap, sym, subst, ◌∙◌, arith}
use Rattle.audit_model.specs.Rounded.{quotient_up}
use Rattle.audit_statement.specs.Along.{own_steps}
use Rattle.audit_statement.specs.Draw.{draw}
use Rattle.audit_statement.specs.Trace.{first_lines, line_at}
use Rattle.plan_runs.proofs.Strides.{first_line, lines_cut, lines_front}
use Rattle.report.specs.AddedText.{WritesAllOf}
use Rattle.report.proofs.Letting.{lets_as, lets_front}
use Rattle.plan_runs.proofs.CurrentLine.{line_at_is}
use Rattle.plan_runs.proofs.tracing.write_lines.Goals as goal

-- the two orders of a sum
add_commutes : (q : ℕ) → q + 1 ≡ 1 + q
add_commutes q = omega arith

one_at_least : (q : ℕ) → 1 ≤ q + 1
one_at_least q = omega arith

pub returns-in-Err-clause-written : goal.returns-in-Err-clause-written
returns-in-Err-clause-written g c =
    let job = c.args.job.now in
    let id = c.args.traced.id in
    let thin = c.args.traced.thin in
    let under = c.requires.way.walked in
    lines_cut job (draw job.setting.key) id thin (g.K.Sink.state c.args.out.now) (g.K.Sink.state c.write_line.new.out) 1 (quotient_up (own_steps job id) thin + 1) c.in-Err.field-0 _
    (one_at_least (quotient_up (own_steps job id) thin))
    (subst (λ (t : List ℕ). WritesAllOf (g.K.Sink.state c.args.out.now) (g.K.Sink.state c.write_line.new.out) t (Err c.in-Err.field-0))
    (ap (λ (q : List ℕ). line_at job (draw job.setting.key) id q 0) c.requires.before ∙ sym (first_line job (draw job.setting.key) id thin))
    (c.in-Err.ensures.written id (record { plan = under.visited; counted = c.move_count.ensures ∙ under.counted })))

pub returns-in-Ok-clause-written : goal.returns-in-Ok-clause-written
returns-in-Ok-clause-written g c =
    let job = c.args.job.now in
    let id = c.args.traced.id in
    let under = c.requires.way.walked in
    c.write_strides.ensures.written (g.K.Sink.state c.args.out.now)
    (subst (λ (t : List ℕ). WritesAllOf (g.K.Sink.state c.args.out.now) (g.K.Sink.state c.write_line.new.out) t (Ok tt))
    (ap (λ (q : List ℕ). line_at job (draw job.setting.key) id q 0) c.requires.before ∙ sym (first_line job (draw job.setting.key) id c.args.traced.thin))
    (c.in-Ok.ensures.written id (record { plan = under.visited; counted = c.move_count.ensures ∙ under.counted })))

pub write_line-requires-clause-text : goal.write_line-requires-clause-text
write_line-requires-clause-text g c =
    let job = c.args.job.now in
    let id = c.args.traced.id in
    let thin = c.args.traced.thin in
    let under = c.requires.way.walked in
    let q = quotient_up (own_steps job id) thin in
    let front = lines_front job (draw job.setting.key) id thin 1 q in
    let whole = ap (first_lines job (draw job.setting.key) id thin) (add_commutes q) ∙ front.1 in
    lets_as (lets_front (first_lines job (draw job.setting.key) id thin 1) front.0 (lets_as c.requires.text whole))
    (first_line job (draw job.setting.key) id thin
    ∙ sym (line_at_is job id 0 c.move_count.result c.args.tracer.now.walker c.args.tracer.now.line_buffer.before (record { plan = under.visited; counted = c.move_count.ensures ∙ under.counted })
    ∙ ap (λ (q : List ℕ). line_at job (draw job.setting.key) id q 0) c.requires.before))

pub write_strides-requires-clause-text : goal.write_strides-requires-clause-text
write_strides-requires-clause-text g c =
    let job = c.args.job.now in
    let id = c.args.traced.id in
    let under = c.requires.way.walked in
    record {
      start = g.K.Sink.state c.args.out.now;
      taken = subst (λ (t : List ℕ). WritesAllOf (g.K.Sink.state c.args.out.now) (g.K.Sink.state c.write_line.new.out) t (Ok tt))
          (ap (λ (q : List ℕ). line_at job (draw job.setting.key) id q 0) c.requires.before ∙ sym (first_line job (draw job.setting.key) id c.args.traced.thin))
          (c.in-Ok.ensures.written id (record { plan = under.visited; counted = c.move_count.ensures ∙ under.counted }));
      permitted = c.requires.text;
    }
