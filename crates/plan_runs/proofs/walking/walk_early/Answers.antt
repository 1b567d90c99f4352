use Rattle.std.proofs.Common.{◌∙◌, ap, length, List}
use Rattle.audit_model.specs.declared.outcome.Outcome.{Outcome}
use Rattle.audit_model.specs.declared.setting.Setting.{Setting}
use Rattle.audit_model.specs.Run.{run_ids}
use Rattle.plan_runs.proofs.EarlyStops.{all_walked}
use Rattle.plan_runs.proofs.Reporting.{early_found}
use Rattle.plan_runs.proofs.walking.walk_early.Goals as goal

pub walk_to_stops-stops-requires-clause-ids : goal.walk_to_stops-stops-requires-clause-ids
walk_to_stops-stops-requires-clause-ids g c κs within =
    let job = c.args.job.now in
    let buffers = c.requires.buffers in
    let early = c.requires.workers.early in
    c.as_slice.ensures ∙ buffers.ids ∙ ap (λ (os : List Outcome). run_ids job os job.setting.budget) (buffers.start.fresh early) ∙ all_walked job buffers.start.run early

pub returns : goal.returns
returns g c =
    let walked = c.walk_to_stops-stops.ensures in
    let buffers = c.requires.buffers in
    early_found c.args.job.now buffers.start.run c.requires.workers.early c.args.buffers.book.outcomes (buffers.start.fresh c.requires.workers.early) _ walked.in_time
    (ap (λ (s : Setting). s.walks) c.setting-setting.ensures.value)
    (c.len.ensures ∙ ap (λ (s : Setting). length s.asks) c.setting-setting.ensures.value)
    walked.stops walked.parts walked.four buffers.blank buffers.report_room
