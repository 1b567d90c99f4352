use Rattle.std.proofs.Common.{length, ap, ◌∙◌}
use Rattle.std.proofs.Math.ListN.{set}
use Rattle.audit_model.specs.District.{district_sum}
use Rattle.district_sums.specs.Following.{Following}
use Rattle.district_sums.proofs.Shifted.{places}
use Rattle.district_sums.proofs.Standing.{cut_is, length_is, all_stand}
use Rattle.district_sums.proofs.sums.Sums.follow.Goals as goal

pub returns-clause-districts : goal.returns-clause-districts
returns-clause-districts c =
    places (length c.self.inside.view.population) (district_sum c.args.counts.now.population (set c.args.member.plan.now c.args.member.unit c.args.district)) c.shift_counts.new.view.population
    c.shift_counts.ensures.added.population
    ∙ ap (λ (s : Following). length s.view.population) c.self.view_is

pub returns-clause-stands : goal.returns-clause-stands
returns-clause-stands c =
    all_stand c.args.member.graph.now c.args.counts.now (length c.self.inside.view.population) (set c.args.member.plan.now c.args.member.unit c.args.district) c.shift_counts.new.view
    c.shift_counts.ensures.added (c.shift_counts.ensures.cut ∙ c.cut_with-self-inside.ensures) (c.shift_counts.ensures.length ∙ c.length_after-self-inside.ensures)

pub length_after-self-inside-requires-clause-before : goal.length_after-self-inside-requires-clause-before
length_after-self-inside-requires-clause-before c =
    ap (λ (s : Following). s.view.length) c.self.view_is ∙ length_is c.args.member.graph.now c.args.counts.now c.args.member.plan.now c.args.self.now c.requires.stands

pub cut_with-self-inside-requires-clause-before : goal.cut_with-self-inside-requires-clause-before
cut_with-self-inside-requires-clause-before c =
    ap (λ (s : Following). s.view.cut) c.self.view_is ∙ cut_is c.args.member.graph.now c.args.counts.now c.args.member.plan.now c.args.self.now c.requires.stands
