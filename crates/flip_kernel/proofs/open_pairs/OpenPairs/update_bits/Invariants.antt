use Rattle.flip_kernel.proofs.Tables.{IsClosed, IsUpdating}
use Rattle.flip_kernel.proofs.open_pairs.OpenPairs.update_bits.Given as goal

abbrev pub invariant-loop-other : goal.invariant-loop-other
invariant-loop-other l = record {
  updating : IsUpdating l.graph l.plan l.districts l.other-items l.unit l.home l.district l.other-index l.self;
  closed : IsClosed l.graph.units l.plan l.districts l.unit l.self;
}
