use Rattle.std.proofs.Common.{◌≡◌, length, take, ap, arith}
use Rattle.std.proofs.lemmas.List.{length-take-le}
use Rattle.scores.specs.Known.{KnownVotes}
use Rattle.scores.proofs.Replacing.{all_shares, total_few}
use Rattle.scores.proofs.last_plan.LastPlan.mean_median.Goals as goal

pub find_median-twice-requires-clause-shares : goal.find_median-twice-requires-clause-shares
find_median-twice-requires-clause-shares c =
    let p = c.self.inside in
    let width : length (take p.districts p.first) ≡ p.districts = length-take-le p.districts p.first (omega (arith, c.self.told.0, c.self.invariant.few)) in
    all_shares (take p.districts p.first) (take p.districts p.second) (take p.districts p.shares) p.total p.seats p.gap c.self.invariant.scores
    (omega (arith, width, c.self.invariant.few)) (omega (arith, c.requires, ap (λ (v : KnownVotes). length v.first) c.self.view_is))

pub difference-requires-clause-total : goal.difference-requires-clause-total
difference-requires-clause-total c =
    let p = c.self.inside in
    let width : length (take p.districts p.first) ≡ p.districts = length-take-le p.districts p.first (omega (arith, c.self.told.0, c.self.invariant.few)) in
    total_few (take p.districts p.first) (take p.districts p.second) (take p.districts p.shares) p.total p.seats p.gap c.self.invariant.scores
    (omega (arith, width, c.self.invariant.few))
