use Rattle.std.proofs.Common.{◌≡◌, ◌≤◌, ◌∙◌, sym, ap, subst, take, length}
use Rattle.std.specs.List.{All}
use Rattle.report.specs.Outcomes.{HasCounts}
use Rattle.report.proofs.Sorted.{walks_first, walks_counted, walks_within}
use Rattle.report.proofs.outcomes.walks_of.Goals as goal

pub split_at-requires : goal.split_at-requires
split_at-requires c = subst (λ (s : _). s.walks ≤ length c.args.sorted.now) (sym c.setting.ensures.value) (walks_within c.args.job.now c.args.sorted.now c.requires)

pub returns : goal.returns
returns c =
    let front : c.split_at.result.0.now ≡ take c.args.job.now.setting.walks c.args.sorted.now =
    c.split_at.ensures.front ∙ ap (λ s. take s.walks c.args.sorted.now) c.setting.ensures.value in
    record {
      all = front ∙ sym (walks_first c.args.job.now c.args.sorted.now c.requires);
      counts = subst (All (HasCounts c.args.job.now)) (sym front) (walks_counted c.args.job.now c.args.sorted.now c.requires);
    }
