use Rattle.std.proofs.Common.{◌≡◌, ◌++◌, ℕ, List, length, ap, ◌∙◌, arith}
use Rattle.audit_statement.specs.Trace.{trace_id_line}
use Rattle.plan_runs.proofs.line_buffer.start_trajectory.Goals as goal

pub returns-clause-line_buffer : goal.returns-clause-line_buffer
returns-clause-line_buffer c =
    let line = trace_id_line c.args.job.now c.args.id c.args.thin in
    let items : c.trajectory_line.new.out.items ≡ line = c.trajectory_line.ensures.items ∙ ap (λ (t : List ℕ). t ++ line) c.clear.ensures.items in
    let width = ap length items in
    record {
      width = ap length (c.keep.ensures ∙ c.as_slice.ensures) ∙ c.start.ensures.legal.complete;
      room = record {
        start = λ id thin. omega (arith, c.requires.room.start id thin, c.clear.ensures.spare, c.trajectory_line.ensures.spare, width);
        plan = λ step moved before plan legal. omega (arith, c.requires.room.plan step moved before plan legal, c.clear.ensures.spare, c.trajectory_line.ensures.spare, width);
      };
    }
