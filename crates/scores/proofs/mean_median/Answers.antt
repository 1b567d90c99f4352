use Rattle.std.proofs.Common.{◌∙◌, w64, arith}
use Rattle.std.proofs.lemmas.Int.{ints, to_z-of_z}
use Rattle.scores.proofs.Shares.{mean_median_from}
use Rattle.scores.proofs.mean_median.Goals as goal

pub returns : goal.returns
returns c =
    to_z-of_z w64 c.difference.result (omega (arith, ints)) ∙ c.difference.ensures
    ∙ mean_median_from c.args.shares.now c.sort_for_median.result c.total-all.result c.sort_for_median.ensures.value c.total-all.ensures.value
