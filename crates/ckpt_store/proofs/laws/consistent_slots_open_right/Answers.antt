use Rattle.ckpt_store.proofs.Consistent.{consistent_slots_open_right}
use Rattle.ckpt_store.proofs.laws.consistent_slots_open_right.Goals as goal

pub returns : goal.returns
returns c = consistent_slots_open_right c.consistent_runs_go_on_rightly.ensures
