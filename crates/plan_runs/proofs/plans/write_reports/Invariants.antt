use Rattle.std.proofs.Common.{◌≡◌, ℕ, List, Result, All, length, map}
use Rattle.std.specs.Vec.Iter.{into_iter_items, into_iter_len}
use Rattle.audit_io.specs.declared.source.Failed.{Failed}
use Rattle.report.specs.AddedText.{WritesAllOf}
use Rattle.audit_statement.specs.DueText.{LetsText}
use Rattle.plan_runs.specs.Plans.{HasReport, HaveKey, walk_pair}
use Rattle.audit_model.specs.State.{Stream}
use Rattle.audit_statement.specs.Draw.{draw}
use Rattle.audit_statement.specs.Report.{plans_text}
use Rattle.plan_runs.proofs.plans.write_reports.Given as goal

abbrev pub invariant-loop-walk : goal.invariant-loop-walk
invariant-loop-walk g l = record {
  each : All (HasReport) (into_iter_items l.walk-iterator);
  keys : (key : List ℕ) → HaveKey key (map walk_pair l.fn.walks.items) → HaveKey key (map walk_pair (into_iter_items l.walk-iterator));
  rest : (key : List ℕ) → HaveKey key (map walk_pair l.fn.walks.items) → (later : Stream) (r : Result (Unit {0}) Failed)
      → WritesAllOf (g.K.Sink.state l.out) later (plans_text (draw key) (map walk_pair (into_iter_items l.walk-iterator))) r
      → WritesAllOf (g.K.Sink.state l.fn.out) later (plans_text (draw key) (map walk_pair l.fn.walks.items)) r;
  permitted : (key : List ℕ) → HaveKey key (map walk_pair l.fn.walks.items)
      → LetsText g.K.Sink.lets (g.K.Sink.state l.fn.out) (plans_text (draw key) (map walk_pair l.fn.walks.items))
      → LetsText g.K.Sink.lets (g.K.Sink.state l.out) (plans_text (draw key) (map walk_pair (into_iter_items l.walk-iterator)));
  counted : into_iter_len l.walk-iterator ≡ length (into_iter_items l.walk-iterator);
}
