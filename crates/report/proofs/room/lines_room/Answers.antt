use Rattle.std.proofs.Common.{◌≡◌, length, ap, arith}
use Rattle.report.proofs.Limits.{small}
use Rattle.report.proofs.Longest.{report-le, enough-le}
use Rattle.report.proofs.room.lines_room.Goals as goal

pub returns : goal.returns
returns c =
    let job = c.args.job.now in
    let sound = c.setting.ensures.sound in
    let limits = small job sound in
    let walks : c.setting.result.now.walks ≡ job.setting.walks = ap (λ s. s.walks) c.setting.ensures.value in
    record {
      enough = λ os stops serial h stopped found. rw (walks, c.ask_count.ensures.value) (report-le job os stops serial sound h stopped found);
      few = rw (walks, c.ask_count.ensures.value) (enough-le job.setting.walks (length job.setting.asks) (omega (arith, limits.few)) limits.few_asks);
    }
