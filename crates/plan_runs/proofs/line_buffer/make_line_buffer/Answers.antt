use Rattle.std.proofs.Common.{length, ap, ◌∙◌, arith}
use Rattle.plan_runs.proofs.line_buffer.make_line_buffer.Goals as goal

pub returns : goal.returns
returns c = record {
  width = ap length c.in_ok-before.ensures ∙ c.start.ensures.legal.complete;
  room = record {
    start = λ id thin. omega (arith, c.plan_line_room.ensures.start id thin, c.in_ok-line.ensures.spare);
    plan = λ step moved before plan legal. omega (arith, c.plan_line_room.ensures.plan step moved before plan legal, c.in_ok-line.ensures.spare);
  };
}
