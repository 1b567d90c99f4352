use Rattle.std.proofs.Common.{sym}
use Rattle.report.proofs.shift.push_tally.Goals as goal

pub returns : goal.returns
returns c =
    rw (
      sym c.bin_sum.ensures,
      sym c.bin_sum-2.ensures,
      sym c.bin_sum-3.ensures,
      sym c.bin_sum-4.ensures,
      sym c.bin_sum-5.ensures,
      sym c.bin_sum-6.ensures,
      sym c.bin_sum-7.ensures,
      sym c.bin_sum-8.ensures,
      sym c.bin_sum-9.ensures,
    ) c.push_line.ensures
