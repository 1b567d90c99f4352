use Rattle.std.proofs.Common.{ℕ, ◌<◌, get_or, subst, sym}
use Rattle.std.proofs.lemmas.Bool.{and_parts, ltb-true}
use Rattle.audit_model.specs.Run.{total}
use Rattle.ckpt_store.proofs.Rising.{by_rising_id}
use Rattle.ckpt_store.proofs.gather.add.Goals as goal

pub merge-requires : goal.merge-requires
merge-requires c = record {
  below = λ k d inside. subst (λ (n : ℕ). (get_or c.args.found.now k d).id < n) (sym c.requires.total)
      (ltb-true (get_or c.args.found.now k d).id (total c.args.job.now) (and_parts _ _ (and_parts _ _ (and_parts _ _ (and_parts _ _ (c.requires.fit.fit k d inside)).0).0).0).0);
  rising = by_rising_id c.args.found.now c.requires.fit.rising;
}
