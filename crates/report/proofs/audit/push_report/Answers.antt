use Rattle.std.proofs.Common.{◌∙◌, ap, sym}
use Rattle.report.proofs.Wholly.{report_is_blind, report_is_whole}
use Rattle.report.proofs.Written.{appends-by}
use Rattle.report.proofs.audit.push_report.Goals as goal

pub returns-then-setting : goal.returns-then-setting
returns-then-setting c =
    let job = c.args.job.now in
    appends-by c.args.out.now c.push_blind_report.new.out _ _ c.push_blind_report.result
    (report_is_blind job c.args.sorted.now c.args.stops.now c.args.serial (sym (ap (λ s. s.blind) c.setting.ensures.value) ∙ c.if-setting.true)) c.push_blind_report.ensures

pub returns-else-setting : goal.returns-else-setting
returns-else-setting c =
    let job = c.args.job.now in
    appends-by c.args.out.now c.push_open_report.new.out _ _ c.push_open_report.result
    (report_is_whole job c.args.sorted.now c.args.stops.now c.args.serial (sym (ap (λ s. s.blind) c.setting.ensures.value) ∙ c.if-setting.false)) c.push_open_report.ensures
