use Rattle.std.proofs.Common.{◌≡◌, ◌-◌, length, vec_capacity}
use Rattle.tally_desk.specs.Passes.{view_of}
use Rattle.tally_desk.specs.Pools.{IsAtDesk}
use Rattle.tally_desk.proofs.worker.DeskWorker.run.Given as goal

abbrev pub invariant-loop-id : goal.invariant-loop-id
invariant-loop-id g l = record {
  at_desk : IsAtDesk l.desk l.walker l.pass l.buffered.items;
  room : vec_capacity l.buffered ≡ vec_capacity l.fn.self.buffered;
}

abbrev pub decreases-loop-id : goal.decreases-loop-id
decreases-loop-id g l = length l.desk.parts.todo - length (view_of l.pass).own.claims
