use Rattle.std.proofs.Common.{◌≡◌, ◌+◌, ◌-◌, length}
use Rattle.claim_counter.specs.Passes.{own, size_of}
use Rattle.claim_counter.specs.Workers.{IsAtWork}
use Rattle.claim_counter.proofs.worker.Worker.run.Given as goal

abbrev pub invariant-loop-place : goal.invariant-loop-place
invariant-loop-place g l = record {
  at_work : IsAtWork l.job l.todo l.claims l.walker l.pass l.share;
  kept_room : length l.share.items + l.share.spare ≡ l.fn.self.share.spare;
}

abbrev pub decreases-loop-place : goal.decreases-loop-place
decreases-loop-place g l = (size_of l.claims).limit - length (own l.pass).claims
