use Rattle.ckpt_store.proofs.Seen.{both_seen}
use Rattle.ckpt_store.proofs.look.look.Goals as goal

pub returns-clause-saw : goal.returns-clause-saw
returns-clause-saw g c =
    both_seen c.args.job.now c.args.digest.now _ _ c.in_ok-zero.zero c.in_ok-one.one c.in_ok-zero.ensures.slots c.in_ok-zero.ensures.saw c.in_ok-one.ensures.saw
