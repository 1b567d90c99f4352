use Rattle.std.proofs.Common.{◌≡◌, ◌≤◌, ◌∙◌, sym, ap, subst, drop, length}
use Rattle.report.specs.Outcomes.{AreEndsOf}
use Rattle.report.proofs.Sorted.{ends_last, ends_sound, walks_within}
use Rattle.report.proofs.outcomes.ends_of.Goals as goal

pub split_at-requires : goal.split_at-requires
split_at-requires c = subst (λ (s : _). s.walks ≤ length c.args.sorted.now) (sym c.setting.ensures.value) (walks_within c.args.job.now c.args.sorted.now c.requires.outcomes)

pub returns : goal.returns
returns c =
    let back : c.split_at.result.1.now ≡ drop c.args.job.now.setting.walks c.args.sorted.now =
    c.split_at.ensures.back ∙ ap (λ s. drop s.walks c.args.sorted.now) c.setting.ensures.value in
    record {
      all = back ∙ sym (ends_last c.args.job.now c.args.sorted.now c.requires.outcomes);
      sound = subst (AreEndsOf c.args.job.now) (sym back) (ends_sound c.args.job.now c.args.sorted.now c.requires.all c.requires.outcomes);
    }
