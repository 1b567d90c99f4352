use Rattle.ckpt_store.proofs.Keeping.{saves_keep_the_newest}
use Rattle.ckpt_store.proofs.laws.saves_keep_the_newest.Goals as goal

pub returns : goal.returns
returns c = saves_keep_the_newest
