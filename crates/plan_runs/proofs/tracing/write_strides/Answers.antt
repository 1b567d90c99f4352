use Rattle.std.proofs.Common.{◌≡◌, ◌<◌, ◌≤◌, ◌+◌, ◌-◌, ℕ, List, ◌++◌, min, Ok, Err, ap, sym, subst, ◌∙◌, arith}
use Rattle.audit_model.specs.Rounded.{quotient_up}
use Rattle.audit_statement.specs.Along.{own_steps}
use Rattle.audit_statement.specs.Draw.{draw}
use Rattle.flip_kernel.specs.ChainState.{ChainState}
use Rattle.plan_runs.proofs.Strides.{lines_cut, lines_split, lines_then, shown_next}
use Rattle.walker.specs.Walked.{IsUnderWay}
use Rattle.audit_statement.specs.Along.{plan_after}
use Rattle.audit_statement.specs.Trace.{first_lines, line_at}
use Rattle.plan_runs.proofs.CurrentLine.{line_at_is}
use Rattle.report.proofs.Letting.{lets_as, lets_front, lets_rest}
use Rattle.plan_runs.proofs.tracing.write_strides.Goals as goal

two_more : (place q : ℕ) → place < q → place + 1 + 1 ≤ q + 1
two_more place q below = omega arith

pub loop-place-preserved : goal.loop-place-preserved
loop-place-preserved g c =
    let job = c.args.job.now in
    let id = c.args.traced.id in
    let thin = c.args.traced.thin in
    let step = c.loop-place.step in
    let so_far = c.loop-place.invariant in
    let under = c.go_on.ensures.way id step so_far.way in
    let next : step + c.min-stride.result ≡ _ =
    ap (λ (n : ℕ). step + n) (c.min-stride.ensures ∙ ap (λ (n : ℕ). min thin (n - step)) c.steps_of-steps.ensures) ∙ shown_next thin (own_steps job id) c.loop-place.place step so_far.at in
    record {
      at = next;
      line_buffer = c.in-Ok.ensures.line_buffer;
      way = subst (λ (h : ChainState). IsUnderWay job id (step + c.min-stride.result) h c.go_on.new.way) (sym c.in-Ok.ensures.same) under;
      before = c.in-Ok.ensures.before ∙ ap (λ (h : ChainState). h.plan) (sym c.in-Ok.ensures.same);
      written = λ before first.
          lines_then job (draw job.setting.key) id thin before (g.K.Sink.state c.loop-place.out) (g.K.Sink.state c.write_line.new.out) c.loop-place.place step (step + c.min-stride.result)
          c.loop-place.tracer.line_buffer.before (Ok tt) so_far.at next (so_far.before ∙ so_far.way.walked.visited) (so_far.written before first)
          (c.in-Ok.ensures.written id (record { plan = under.walked.visited; counted = c.move_count.ensures ∙ under.walked.counted }));
    }

pub returns-in-Err-clause-written : goal.returns-in-Err-clause-written
returns-in-Err-clause-written g c = λ before first.
    let job = c.args.job.now in
    let id = c.args.traced.id in
    let thin = c.args.traced.thin in
    let step = c.loop-place.step in
    let so_far = c.loop-place.invariant in
    let under = c.go_on.ensures.way id step so_far.way in
    let next : step + c.min-stride.result ≡ _ =
    ap (λ (n : ℕ). step + n) (c.min-stride.ensures ∙ ap (λ (n : ℕ). min thin (n - step)) c.steps_of-steps.ensures) ∙ shown_next thin (own_steps job id) c.loop-place.place step so_far.at in
    let below : c.loop-place.place < quotient_up (own_steps job id) thin =
    subst (λ (n : ℕ). c.loop-place.place < n) (c.strides_of-place-end.ensures ∙ ap (λ (n : ℕ). quotient_up n thin) c.steps_of-steps.ensures) c.loop-place-test.true in
    lines_cut job (draw job.setting.key) id thin before (g.K.Sink.state c.write_line.new.out) (c.loop-place.place + 1 + 1) (quotient_up (own_steps job id) thin + 1) c.in-Err.field-0 _
    (two_more c.loop-place.place (quotient_up (own_steps job id) thin) below)
    (lines_then job (draw job.setting.key) id thin before (g.K.Sink.state c.loop-place.out) (g.K.Sink.state c.write_line.new.out) c.loop-place.place step (step + c.min-stride.result)
    c.loop-place.tracer.line_buffer.before (Err c.in-Err.field-0) so_far.at next (so_far.before ∙ so_far.way.walked.visited) (so_far.written before first)
    (c.in-Err.ensures.written id (record { plan = under.walked.visited; counted = c.move_count.ensures ∙ under.walked.counted })))

pub write_line-requires-clause-text : goal.write_line-requires-clause-text
write_line-requires-clause-text g c =
    let job = c.args.job.now in
    let id = c.args.traced.id in
    let thin = c.args.traced.thin in
    let step = c.loop-place.step in
    let so_far = c.loop-place.invariant in
    let under = c.go_on.ensures.way id step so_far.way in
    let next : step + c.min-stride.result ≡ _ =
    ap (λ (n : ℕ). step + n) (c.min-stride.ensures ∙ ap (λ (n : ℕ). min thin (n - step)) c.steps_of-steps.ensures) ∙ shown_next thin (own_steps job id) c.loop-place.place step so_far.at in
    let below : c.loop-place.place < quotient_up (own_steps job id) thin =
    subst (λ (n : ℕ). c.loop-place.place < n) (c.strides_of-place-end.ensures ∙ ap (λ (n : ℕ). quotient_up n thin) c.steps_of-steps.ensures) c.loop-place-test.true in
    let due = c.requires.text in
    let parts = lines_split job (draw job.setting.key) id thin c.loop-place.place step (step + c.min-stride.result) (quotient_up (own_steps job id) thin + 1) so_far.at next (two_more c.loop-place.place (quotient_up (own_steps job id) thin) below) in
    let line = line_at job (draw job.setting.key) id (plan_after job (draw job.setting.key) id step) (step + c.min-stride.result) in
    let front = first_lines job (draw job.setting.key) id thin (c.loop-place.place + 1) in
    let taken = so_far.written due.start due.taken in
    lets_as (lets_front line parts.0 (lets_rest front (line ++ parts.0) (lets_as due.permitted parts.1) taken.0 taken.1))
    (sym (line_at_is job id (step + c.min-stride.result) c.move_count.result c.go_on.new.self c.loop-place.tracer.line_buffer.before (record { plan = under.walked.visited; counted = c.move_count.ensures ∙ under.walked.counted })
    ∙ ap (λ (q : List ℕ). line_at job (draw job.setting.key) id q (step + c.min-stride.result)) (so_far.before ∙ so_far.way.walked.visited)))
