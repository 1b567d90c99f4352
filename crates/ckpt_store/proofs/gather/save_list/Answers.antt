use Rattle.ckpt_store.proofs.Rising.{ids_rise}
use Rattle.ckpt_store.proofs.gather.save_list.Goals as goal

pub save-requires-clause-rising : goal.save-requires-clause-rising
save-requires-clause-rising g c = ids_rise c.args.outcomes.now c.requires.rising
