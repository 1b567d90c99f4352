use Rattle.std.proofs.Common.{◌≤◌, ℕ, length, get_or, sym, ◌∙◌, arith}
use Rattle.audit_model.specs.District.{in_district}
use Rattle.audit_model.specs.Limits.{most_edges}
use Rattle.contig.proofs.Changing.{edges_few}
use Rattle.contig.proofs.Joining.{missing_counted}
use Rattle.contig.proofs.fill.missing_at.Goals as goal

pub returns : goal.returns
returns c =
    let m = c.args.leaving in
    let counted = c.args.counts.now in
    let home : ℕ = get_or m.plan.now m.unit 0 in
    let few : get_or counted.edges home 0 ≤ most_edges =
    omega (arith, c.requires.counts.edges home c.requires.district, edges_few m.graph.now (in_district m.plan.now home), m.few_edges) in
    c.missing.ensures.exact c.requires.district few
    ∙ sym (missing_counted m.graph.now c.args.table.now.faces m.plan.now (length counted.edges) home counted c.requires.counts c.requires.district)
