use Rattle.std.proofs.Common.{get_or, refl, arith}
use Rattle.audit_laws.proofs.Running.{all_below_total, rising_apart}
use Rattle.outcome_book.proofs.AddingUp.{fitting_has_few}
use Rattle.plan_runs.proofs.buffers.book_of.Goals as goal

pub merge-requires : goal.merge-requires
merge-requires c =
    let fit = c.requires.fit in
    record {
      below = λ k d inside. omega (arith, all_below_total c.args.job.now c.args.outcomes.now fit.fit k d inside, c.in_ok-book.ensures.total, c.total.ensures.value);
      absent = rw c.in_ok-book.ensures.empty (λ k d inside. refl);
      apart = rising_apart c.args.outcomes.now fit.rising;
      bins = λ k d inside. fitting_has_few c.args.job.now (get_or c.args.outcomes.now k d) c.requires.run.sound (fit.fit k d inside);
    }
