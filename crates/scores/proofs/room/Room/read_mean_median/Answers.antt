use Rattle.std.proofs.Common.{◌∙◌, w64, ap, arith}
use Rattle.std.proofs.lemmas.Int.{ints, to_z-of_z}
use Rattle.scores.specs.Known.{Remembered}
use Rattle.scores.proofs.Same.{same_shares}
use Rattle.scores.proofs.room.Room.read_mean_median.Goals as goal

pub returns-clause-value : goal.returns-clause-value
returns-clause-value c =
    to_z-of_z w64 c.mean_median.result (omega (arith, ints)) ∙ c.mean_median.ensures.value
    ∙ same_shares c.self-2.inside.last c.args.sums.now (ap (λ (r : Remembered). r.votes.first) c.self-2.view_is ∙ c.refresh.ensures.first)
    (ap (λ (r : Remembered). r.votes.second) c.self-2.view_is ∙ c.refresh.ensures.second)
