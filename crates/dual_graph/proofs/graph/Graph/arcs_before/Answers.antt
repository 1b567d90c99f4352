use Rattle.std.proofs.Common.{◌≡◌, ◌+◌, ◌≤◌, length, get_or, sym, ap, subst, ◌∙◌, arith}
use Rattle.std.proofs.lemmas.List.{get_or_read}
use Rattle.audit_model.specs.Below.{sum_below}
use Rattle.audit_model.specs.Graph.{Graph}
use Rattle.audit_model.specs.Length.{degree}
use Rattle.dual_graph.proofs.Arcs.{begins_are}
use Rattle.dual_graph.proofs.graph.Graph.arcs_before.Goals as goal

pub returns : goal.returns
returns c =
    let i = c.self.inside in
    let u = c.args.unit in
    let le : u ≤ i.units = subst (λ (g : Graph). u ≤ g.units) (sym c.self.view_is) c.requires in
    let long : length i.begins.items ≡ i.units + 1 = c.self.invariant.0.places in
    let read : c.index.result.now ≡ get_or i.begins.items u 0 = get_or_read i.begins.items u c.index.result.now (omega arith) c.index.ensures 0 in
    read ∙ sym (begins_are i.units i.begins.items i.near.items c.self.invariant.0 u le) ∙ ap (λ (g : Graph). sum_below u (degree g)) c.self.view_is
