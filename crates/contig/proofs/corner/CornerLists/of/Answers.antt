use Rattle.std.proofs.Common.{◌≡◌, length, ap, arith}
use Rattle.audit_model.specs.Below.{sum_below}
use Rattle.audit_model.specs.Length.{degree}
use Rattle.contig.specs.declared.corner.Corner.{Corner}
use Rattle.contig.proofs.Spanning.{rooms, none_listed}
use Rattle.contig.proofs.corner.CornerLists.of.Goals as goal

long : (c : goal.In_ok-vec) → length c.in_ok-vec.field-0.items ≡ sum_below c.args.graph.now.units (degree c.args.graph.now)
long c =
    let len = c.in_ok-vec.ensures.len in
    let ok = c.in_ok-vec.field-0.ok.0 in
    let before = c.arcs_before.ensures in
    let units = ap (λ n. sum_below n (degree c.args.graph.now)) c.units.ensures.units in
    omega (arith, len, ok, before, units)

pub invariant_of-result : goal.invariant_of-result
invariant_of-result c =
    rooms {A = Corner} c.args.graph.now.units (degree c.args.graph.now) c.in_ok-empty_spans.field-0.items c.in_ok-limits_of.field-0.items c.in_ok-vec.field-0.items
    c.in_ok-empty_spans.ensures.width c.in_ok-empty_spans.ensures.each c.in_ok-limits_of.ensures.width c.in_ok-limits_of.ensures.each (long c)

pub returns-clause-none : goal.returns-clause-none
returns-clause-none c =
    none_listed {A = Corner} c.args.graph.now.units (degree c.args.graph.now) c.in_ok-empty_spans.field-0.items c.in_ok-limits_of.field-0.items c.in_ok-vec.field-0.items
    c.in_ok-empty_spans.ensures.width c.in_ok-empty_spans.ensures.each c.in_ok-limits_of.ensures.width c.in_ok-limits_of.ensures.each (long c)
