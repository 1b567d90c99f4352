use Rattle.std.proofs.Common.{◌≡◌, vec_capacity, vec_len}
use Rattle.tally_desk.specs.Passes.{view_of}
use Rattle.tally_desk.specs.Unposted.{IsHolding}
use Rattle.tally_desk.proofs.posting.post_while_free.Given as goal

abbrev pub invariant-loop-outcome : goal.invariant-loop-outcome
invariant-loop-outcome g l = record {
  holds : IsHolding l.desk l.pass l.buffered.items;
  own : (view_of l.pass).own ≡ (view_of l.fn.pass).own;
  room : vec_capacity l.buffered ≡ vec_capacity l.fn.buffered;
}

abbrev pub decreases-loop-outcome : goal.decreases-loop-outcome
decreases-loop-outcome g l = vec_len l.buffered
