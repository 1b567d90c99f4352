use Rattle.std.proofs.Common.{sym}
use Rattle.ckpt_store.specs.Fitting.{is_unfit}
use Rattle.ckpt_store.proofs.Fits.{fit_here, unfit_here}
use Rattle.std.specs.Prelude.{length}
use Rattle.ckpt_store.proofs.fitting.first_unfit.Goals as goal
use Rattle.audit_model.proofs.First.{first_below_here, first_below_more}

pub returns-then-not-fits : goal.returns-then-not-fits
returns-then-not-fits c =
    let outcomes = c.args.outcomes.now in
    sym (first_below_here (length outcomes) c.loop-place.place (is_unfit c.args.job.now outcomes) c.loop-place.invariant c.loop-place-test.true
    (unfit_here c.args.job.now outcomes c.loop-place.place _ _ c.loop-place-test.true c.fits.ensures c.if-not-fits.true))

pub loop-place-preserved : goal.loop-place-preserved
loop-place-preserved c =
    let outcomes = c.args.outcomes.now in
    first_below_more c.loop-place.place (is_unfit c.args.job.now outcomes) c.loop-place.invariant
    (fit_here c.args.job.now outcomes c.loop-place.place _ _ c.loop-place-test.true c.fits.ensures c.if-not-fits.false)
