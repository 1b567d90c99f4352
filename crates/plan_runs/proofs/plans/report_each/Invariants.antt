use Rattle.std.proofs.Common.{◌≡◌, ℕ, List, Result, All, length}
use Rattle.std.specs.Vec.Iter.{into_iter_items, into_iter_len}
use Rattle.audit_io.specs.declared.source.Failed.{Failed}
use Rattle.report.specs.AddedText.{WritesAllOf}
use Rattle.audit_statement.specs.DueText.{LetsText}
use Rattle.plan_runs.specs.Plans.{HaveKey, IsRound, round_pairs}
use Rattle.audit_model.specs.State.{Stream}
use Rattle.audit_statement.specs.Draw.{draw}
use Rattle.audit_statement.specs.Report.{plans_text}
use Rattle.plan_runs.proofs.plans.report_each.Given as goal

abbrev pub invariant-loop-round : goal.invariant-loop-round
invariant-loop-round g l = record {
  each : All (IsRound) (into_iter_items l.round-iterator);
  keys : (key : List ℕ) → HaveKey key (round_pairs l.fn.rounds.items) → HaveKey key (round_pairs (into_iter_items l.round-iterator));
  rest : (key : List ℕ) → HaveKey key (round_pairs l.fn.rounds.items) → (later : Stream) (r : Result (Unit {0}) Failed)
      → WritesAllOf (g.K.Sink.state l.out) later (plans_text (draw key) (round_pairs (into_iter_items l.round-iterator))) r
      → WritesAllOf (g.K.Sink.state l.fn.out) later (plans_text (draw key) (round_pairs l.fn.rounds.items)) r;
  permitted : (key : List ℕ) → HaveKey key (round_pairs l.fn.rounds.items)
      → LetsText g.K.Sink.lets (g.K.Sink.state l.fn.out) (plans_text (draw key) (round_pairs l.fn.rounds.items))
      → LetsText g.K.Sink.lets (g.K.Sink.state l.out) (plans_text (draw key) (round_pairs (into_iter_items l.round-iterator)));
  counted : into_iter_len l.round-iterator ≡ length (into_iter_items l.round-iterator);
}
