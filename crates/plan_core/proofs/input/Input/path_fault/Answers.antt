use Rattle.std.proofs.Common.{◌≡◌, ◌<◌, sym, subst, ◌∙◌}
use Rattle.audit_model.specs.Job.{Job}
use Rattle.audit_model.specs.District.{in_district}
use Rattle.plan_core.specs.Input.{with_start}
use Rattle.dual_graph.specs.DisconnectedPair.{disconnected_pair_of}
use Rattle.plan_core.proofs.Judged.{parted_is_fault}
use Rattle.plan_core.proofs.input.Input.path_fault.Goals as goal

pub returns-in-Some-clause-fault : goal.returns-in-Some-clause-fault
returns-in-Some-clause-fault c =
    let district = c.loop-district.district in
    parted_is_fault (with_start c.args.self.now c.args.plan.now) district c.in-Some.one c.in-Some.other c.loop-district.invariant.none
    (subst (λ (j : Job). district < j.districts) c.self.view_is c.loop-district-test.true)
    (sym c.in-Some.is ∙ subst (λ (j : Job). c.find_disconnected_pair.result ≡ disconnected_pair_of j.graph (in_district c.args.plan.now district)) c.self.view_is c.find_disconnected_pair.ensures.find_disconnected_pair)
