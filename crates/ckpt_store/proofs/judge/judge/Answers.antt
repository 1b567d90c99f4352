use Rattle.ckpt_store.proofs.Fits.{all_fit_of}
use Rattle.ckpt_store.proofs.judge.judge.Goals as goal

pub returns-in-None-clause-sound : goal.returns-in-None-clause-sound
returns-in-None-clause-sound c = record {
  few = c.requires.few;
  rising = c.requires.rising;
  fit = all_fit_of c.args.job.now c.args.checkpoint.outcomes.items c.as_slice.result.now c.as_slice.ensures c.in-None.ensures;
}
