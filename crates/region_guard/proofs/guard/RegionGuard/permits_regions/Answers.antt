use Rattle.std.proofs.Common.{sym, ◌∙◌}
use Rattle.region_guard.proofs.Moves.{none_permitted, within}
use Rattle.region_guard.proofs.Steps.{sure_step}
use Rattle.region_guard.proofs.guard.RegionGuard.permits_regions.Goals as goal

pub returns-then-len-eq0 : goal.returns-then-len-eq0
returns-then-len-eq0 g c =
    none_permitted c.args.self.now.rules c.args.after.now (sym c.len.ensures ∙ c.if-len-eq0.true)

pub totals_with-requires-clause-step : goal.totals_with-requires-clause-step
totals_with-requires-clause-step g c =
    sure_step c.args.self.now.rules.regions c.args.self.now.districts c.args.after.now c.args.unit c.args.from c.requires.step
    (λ none. c.if-len-eq0.false (c.len.ensures ∙ none))

pub returns : goal.returns
returns g c =
    c.are_within.ensures ∙ within c.args.self.now.rules c.args.after.now c.totals_with.result c.totals_with.ensures
