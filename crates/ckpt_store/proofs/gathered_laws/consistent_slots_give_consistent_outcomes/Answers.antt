use Rattle.ckpt_store.proofs.Gathered.{consistent_slots_give_consistent_outcomes}
use Rattle.ckpt_store.proofs.gathered_laws.consistent_slots_give_consistent_outcomes.Goals as goal

pub returns : goal.returns
returns c = consistent_slots_give_consistent_outcomes
