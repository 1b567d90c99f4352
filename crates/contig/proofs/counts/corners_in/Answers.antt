use Rattle.std.proofs.Common.{◌≡◌, ℕ, List, [], map, ap, ◌∙◌, subst, arith}
use Rattle.std.specs.List.{slice_index_or}
use Rattle.audit_model.specs.Graph.{Graph}
use Rattle.contig.specs.Corners.{is_filled, corners_at, units_of}
use Rattle.contig.specs.Counts.{is_before}
use Rattle.contig.specs.declared.corner.Corner.{Corner}
use Rattle.contig.specs.Faces.{own_rings}
use Rattle.contig.proofs.Counting.{counted_more, counted_all, few_more}
use Rattle.contig.proofs.counts.corners_in.Goals as goal

pub loop-corner-preserved : goal.loop-corner-preserved
loop-corner-preserved c =
    let k : ℕ = c.loop-corner.corner-index in
    let s = c.loop-corner.invariant in
    record {
      counted = counted_more (λ t. is_filled (is_before c.args.member.plan.now c.args.end c.args.district) (units_of c.neighbours-row.result.now t)) c.at-corner-items.result.now k
          (record { one = 0; other = 0; far = 0; further = 0 }) c.loop-corner.count c.with_one-count.result c.are_before-inside.result c.loop-corner-test.true c.are_before-inside.ensures s.counted
          c.with_one-count.ensures;
      few = few_more k c.loop-corner.count c.with_one-count.result c.are_before-inside.result s.few c.with_one-count.ensures;
    }

pub returns : goal.returns
returns c =
    let u : ℕ = c.args.member.unit in
    let items : List Corner = c.at-corner-items.result.now in
    let seen = subst (λ (t : Graph). map (units_of (slice_index_or t.neighbours u [])) items ≡ corners_at u (own_rings c.args.table.now.faces)) c.requires c.at-corner-items.ensures.seen in
    counted_all (is_filled (is_before c.args.member.plan.now c.args.end c.args.district)) (units_of c.neighbours-row.result.now) items c.loop-corner.corner-index c.loop-corner.count
    (corners_at u (own_rings c.args.table.now.faces)) (omega (arith, c.loop-corner-test.false)) (ap (λ (r : List ℕ). map (units_of r) items) c.neighbours-row.ensures.list ∙ seen) c.loop-corner.invariant.counted
