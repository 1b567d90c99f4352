use Rattle.std.proofs.Common.{◌≡◌, ℕ, List, set, ap, ◌∙◌, arith}
use Rattle.audit_model.specs.declared.outcome.SumsView.{SumsView}
use Rattle.audit_model.specs.declared.setting.Setting.{Setting}
use Rattle.audit_model.specs.Graph.{Graph}
use Rattle.audit_model.specs.Plan.{cut_edges}
use Rattle.audit_model.proofs.Meeting.{cut_edges_few}
use Rattle.flip_kernel.proofs.Weights.{takes_is}
use Rattle.flip_kernel.proofs.weight.is_taken_by.Goals as goal

pub takes-requires-clause-weight : goal.takes-requires-clause-weight
takes-requires-clause-weight c =
    omega (arith, ap (λ (s : Setting). s.cut_weight) c.setting.ensures.value, c.requires.sound.within.setting.most_weight)

pub takes-requires-clause-before : goal.takes-requires-clause-before
takes-requires-clause-before c =
    let job = c.args.flip.job.now in
    let plan : List ℕ = c.args.plan.now in
    let before : c.view.result.now.cut ≡ cut_edges job.graph plan = ap (λ (v : SumsView). v.cut) c.view.ensures ∙ ap (λ (v : SumsView). v.cut) c.requires.summed.stands.view in
    omega (arith, before, cut_edges_few job.graph plan, c.requires.sound.within.input.edges)

pub returns : goal.returns
returns c =
    let job = c.args.flip.job.now in
    let plan : List ℕ = c.args.plan.now in
    let after : List ℕ = set plan c.args.flip.unit c.args.flip.district in
    let weight : c.setting.result.now.cut_weight ≡ job.setting.cut_weight = ap (λ (s : Setting). s.cut_weight) c.setting.ensures.value in
    let before : c.view.result.now.cut ≡ cut_edges job.graph plan = ap (λ (v : SumsView). v.cut) c.view.ensures ∙ ap (λ (v : SumsView). v.cut) c.requires.summed.stands.view in
    let then : c.cut_after-after.result ≡ cut_edges job.graph after =
    c.cut_after-after.ensures ∙ ap (λ (g : Graph). cut_edges g (set c.as_slice-2.result.now c.args.flip.unit c.args.flip.district)) c.graph.ensures.value
    ∙ ap (λ (p : List ℕ). cut_edges job.graph (set p c.args.flip.unit c.args.flip.district)) c.as_slice-2.ensures in
    takes_is job plan after c.args.draw c.setting.result.now.cut_weight c.args.pairs.now.count c.view.result.now.cut c.cut_after-after.result c.takes.result
    c.requires.weighted c.takes.ensures weight c.requires.count before then
