use Rattle.ckpt_store.proofs.Progressing.{progress_observed}
use Rattle.ckpt_store.proofs.progress.progress_of.Goals as goal

pub returns : goal.returns
returns c = λ first second zero one.
    progress_observed _ _ (record { zero = c.in_ok-first.first; one = c.in_ok-second.second }) first second _ _
    c.job_digest-digest.ensures (c.in_ok-first.ensures first zero) (c.in_ok-second.ensures second one) c.newest.ensures.answer c.progress_by.ensures
