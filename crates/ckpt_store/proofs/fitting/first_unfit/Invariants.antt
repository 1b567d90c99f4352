use Rattle.std.proofs.Common.{◌≡◌, None}
use Rattle.audit_model.specs.First.{first_below}
use Rattle.ckpt_store.specs.Fitting.{is_unfit}
use Rattle.ckpt_store.proofs.fitting.first_unfit.Given as goal

abbrev pub invariant-loop-place : goal.invariant-loop-place
invariant-loop-place l = first_below l.place (is_unfit l.job l.outcomes) ≡ None
