use Rattle.std.proofs.Common.{arith}
use Rattle.report.proofs.Limits.{small}
use Rattle.report.proofs.Sorted.{few}
use Rattle.report.proofs.shift.push_shift_line.Goals as goal

pub push_tally-requires : goal.push_tally-requires
push_tally-requires c =
    let limits = small c.args.job.now c.setting.ensures.sound in
    omega (arith, few c.args.job.now c.args.sorted.now c.requires, limits.few)
