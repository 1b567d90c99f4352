use Rattle.std.proofs.Common.{ℕ, List, subst, sym, ◌∙◌}
use Rattle.report.specs.AddedText.{WritesAllOf}
use Rattle.plan_runs.proofs.CurrentLine.{line_at_is}
use Rattle.report.proofs.Letting.{lets_as}
use Rattle.plan_runs.proofs.tracing.write_line.Goals as goal

pub returns-clause-written : goal.returns-clause-written
returns-clause-written g c = λ id at.
    subst (λ (t : List ℕ). WritesAllOf (g.K.Sink.state c.args.out.now) (g.K.Sink.state c.write_all.new.out) t c.write_all.result)
    (c.as_slice.ensures ∙ c.put_plan.ensures.line ∙ line_at_is c.args.job.now id c.args.step c.args.moved c.args.walker.now c.args.line_buffer.now.before at) c.write_all.ensures

pub write_all-requires : goal.write_all-requires
write_all-requires g c = lets_as c.requires.text (sym (c.as_slice.ensures ∙ c.put_plan.ensures.line))
