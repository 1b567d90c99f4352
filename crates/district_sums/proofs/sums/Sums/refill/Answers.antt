use Rattle.std.proofs.Common.{length, sym, ap, ◌∙◌}
use Rattle.district_sums.specs.Following.{Following}
use Rattle.district_sums.proofs.Standing.{first_width, second_width, as_many, stand_anew}
use Rattle.district_sums.proofs.sums.Sums.refill.Goals as goal

pub refill_view-requires-clause-first : goal.refill_view-requires-clause-first
refill_view-requires-clause-first c =
    ap (λ (s : Following). length s.view.first) c.self.view_is
    ∙ first_width c.args.graph.now c.args.counts.now c.requires.stands.0 c.args.self.now c.requires.stands.1
    ∙ sym (ap (λ (s : Following). length s.view.population) c.self.view_is)

pub refill_view-requires-clause-second : goal.refill_view-requires-clause-second
refill_view-requires-clause-second c =
    ap (λ (s : Following). length s.view.second) c.self.view_is
    ∙ second_width c.args.graph.now c.args.counts.now c.requires.stands.0 c.args.self.now c.requires.stands.1
    ∙ sym (ap (λ (s : Following). length s.view.population) c.self.view_is)

pub returns-clause-districts : goal.returns-clause-districts
returns-clause-districts c =
    as_many c.args.graph.now c.args.counts.now (length c.self.inside.view.population) c.args.plan.now c.refill_view.new.view c.refill_view.ensures
    ∙ ap (λ (s : Following). length s.view.population) c.self.view_is

pub returns-clause-stands : goal.returns-clause-stands
returns-clause-stands c =
    stand_anew c.args.graph.now c.args.counts.now (length c.self.inside.view.population) c.args.plan.now c.refill_view.new.view c.refill_view.ensures
