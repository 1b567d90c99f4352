use Rattle.std.proofs.Common.{length, ℕ, ap, ◌∙◌}
use Rattle.std.proofs.lemmas.List.{length-replicate}
use Rattle.district_sums.proofs.Standing.{as_many, stand_anew}
use Rattle.district_sums.proofs.sums.Sums.of.Goals as goal

pub returns-clause-districts : goal.returns-clause-districts
returns-clause-districts c =
    as_many c.args.graph.now c.args.counts.now (length c.in_ok-zeros.field-0) c.args.plan.now c.refill_view.new.view c.refill_view.ensures
    ∙ ap (length {A = ℕ}) c.in_ok-zeros.ensures ∙ length-replicate c.args.districts 0

pub returns-clause-stands : goal.returns-clause-stands
returns-clause-stands c =
    stand_anew c.args.graph.now c.args.counts.now (length c.in_ok-zeros.field-0) c.args.plan.now c.refill_view.new.view c.refill_view.ensures
