use Rattle.std.proofs.Common.{take}
use Rattle.std.specs.Prelude.{flat_map}
use Rattle.std.specs.List.{All}
use Rattle.audit_statement.specs.Checkpoint.{IsOutcome, outcome_bytes}
use Rattle.ckpt_format.specs.Written.{AppendsBytes}
use Rattle.ckpt_format.proofs.encode.append_outcomes.Given as goal

abbrev pub invariant-loop-outcome : goal.invariant-loop-outcome
invariant-loop-outcome l = record {
  bytes : AppendsBytes l.fn.out l.out (flat_map (outcome_bytes l.version) (take l.outcome-index l.outcomes));
  sound : All IsOutcome (take l.outcome-index l.outcomes);
}
