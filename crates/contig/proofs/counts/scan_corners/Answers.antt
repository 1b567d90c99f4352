use Rattle.std.proofs.Common.{◌≡◌, ℕ, List, [], map, subst, arith}
use Rattle.std.specs.Prelude.{All}
use Rattle.std.specs.List.{slice_index_or}
use Rattle.std.proofs.lemmas.List.Elements.{All-get_or}
use Rattle.audit_model.specs.Graph.{Graph}
use Rattle.audit_model.specs.District.{in_district}
use Rattle.contig.specs.Corners.{IsOnRow, is_filled, corners_at, units_of}
use Rattle.contig.specs.declared.corner.Corner.{Corner}
use Rattle.contig.specs.Faces.{own_rings}
use Rattle.contig.proofs.Counting.{counted_more, counted_all, few_more}
use Rattle.contig.proofs.counts.scan_corners.Goals as goal

-- no corner
abbrev none : Corner
none = record { one = 0; other = 0; far = 0; further = 0 }

pub are_inside-inside-requires : goal.are_inside-inside-requires
are_inside-inside-requires c =
    let g = c.args.member.graph.now in
    let row : List ℕ = slice_index_or g.neighbours c.args.member.unit [] in
    All-get_or (IsOnRow g row) c.at-corner-items.result.now c.loop-corner.corner-index none c.loop-corner-test.true
    (subst (λ (t : Graph). All (IsOnRow t (slice_index_or t.neighbours c.args.member.unit [])) c.at-corner-items.result.now) c.requires c.at-corner-items.ensures.placed)

pub loop-corner-preserved : goal.loop-corner-preserved
loop-corner-preserved c =
    let plan : List ℕ = c.args.member.plan.now in
    let row : List ℕ = slice_index_or c.args.member.graph.now.neighbours c.args.member.unit [] in
    let items : List Corner = c.at-corner-items.result.now in
    let k : ℕ = c.loop-corner.corner-index in
    let s = c.loop-corner.invariant in
    record {
      one = counted_more (λ t. is_filled (in_district plan c.args.one) (units_of row t)) items k none c.loop-corner.in_one c.with_one-in_one.result c.are_inside-inside.result.0
          c.loop-corner-test.true c.are_inside-inside.ensures.one s.one c.with_one-in_one.ensures;
      other = counted_more (λ t. is_filled (in_district plan c.args.other) (units_of row t)) items k none c.loop-corner.in_other c.with_one-in_other.result c.are_inside-inside.result.1
          c.loop-corner-test.true c.are_inside-inside.ensures.other s.other c.with_one-in_other.ensures;
      few_one = few_more k c.loop-corner.in_one c.with_one-in_one.result c.are_inside-inside.result.0 s.few_one c.with_one-in_one.ensures;
      few_other = few_more k c.loop-corner.in_other c.with_one-in_other.result c.are_inside-inside.result.1 s.few_other c.with_one-in_other.ensures;
    }

pub returns-clause-one : goal.returns-clause-one
returns-clause-one c =
    let u : ℕ = c.args.member.unit in
    counted_all (is_filled (in_district c.args.member.plan.now c.args.one)) (units_of (slice_index_or c.args.member.graph.now.neighbours u [])) c.at-corner-items.result.now
    c.loop-corner.corner-index c.loop-corner.in_one (corners_at u (own_rings c.args.table.now.faces)) (omega (arith, c.loop-corner-test.false))
    (subst (λ (t : Graph). map (units_of (slice_index_or t.neighbours u [])) c.at-corner-items.result.now ≡ corners_at u (own_rings c.args.table.now.faces)) c.requires c.at-corner-items.ensures.seen)
    c.loop-corner.invariant.one

pub returns-clause-other : goal.returns-clause-other
returns-clause-other c =
    let u : ℕ = c.args.member.unit in
    counted_all (is_filled (in_district c.args.member.plan.now c.args.other)) (units_of (slice_index_or c.args.member.graph.now.neighbours u [])) c.at-corner-items.result.now
    c.loop-corner.corner-index c.loop-corner.in_other (corners_at u (own_rings c.args.table.now.faces)) (omega (arith, c.loop-corner-test.false))
    (subst (λ (t : Graph). map (units_of (slice_index_or t.neighbours u [])) c.at-corner-items.result.now ≡ corners_at u (own_rings c.args.table.now.faces)) c.requires c.at-corner-items.ensures.seen)
    c.loop-corner.invariant.other
