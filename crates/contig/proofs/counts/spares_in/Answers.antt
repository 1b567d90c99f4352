use Rattle.std.proofs.Common.{◌≡◌, ℕ, List, [], map, subst, arith}
use Rattle.std.specs.Prelude.{All}
use Rattle.std.specs.List.{slice_index_or}
use Rattle.std.proofs.lemmas.List.Elements.{All-get_or}
use Rattle.audit_model.specs.Graph.{Graph}
use Rattle.contig.specs.Corners.{IsOnRow, is_ending, is_starting, spares_at, units_of}
use Rattle.contig.specs.Counts.{is_before}
use Rattle.contig.specs.declared.corner.Corner.{Corner}
use Rattle.contig.proofs.Counting.{counted_more, counted_all, few_more}
use Rattle.contig.proofs.counts.spares_in.Goals as goal

-- no corner
abbrev none : Corner
none = record { one = 0; other = 0; far = 0; further = 0 }

pub is_changing-change-requires : goal.is_changing-change-requires
is_changing-change-requires c =
    let g = c.args.member.graph.now in
    All-get_or (IsOnRow g (slice_index_or g.neighbours c.args.member.unit [])) c.spares_at-corner-items.result.now c.loop-corner.corner-index none c.loop-corner-test.true
    (subst (λ (t : Graph). All (IsOnRow t (slice_index_or t.neighbours c.args.member.unit [])) c.spares_at-corner-items.result.now) c.requires c.spares_at-corner-items.ensures.placed)

pub loop-corner-preserved : goal.loop-corner-preserved
loop-corner-preserved c =
    let test = is_before c.args.member.plan.now c.args.end c.args.district in
    let u : ℕ = c.args.member.unit in
    let row : List ℕ = slice_index_or c.args.member.graph.now.neighbours u [] in
    let items : List Corner = c.spares_at-corner-items.result.now in
    let k : ℕ = c.loop-corner.corner-index in
    let s = c.loop-corner.invariant in
    record {
      ends = counted_more (λ t. is_ending test u (units_of row t)) items k none c.loop-corner.ending c.with_one-ending.result c.is_changing-change.result.0
          c.loop-corner-test.true c.is_changing-change.ensures.ending s.ends c.with_one-ending.ensures;
      starts = counted_more (λ t. is_starting test u (units_of row t)) items k none c.loop-corner.starting c.with_one-starting.result c.is_changing-change.result.1
          c.loop-corner-test.true c.is_changing-change.ensures.starting s.starts c.with_one-starting.ensures;
      few_ends = few_more k c.loop-corner.ending c.with_one-ending.result c.is_changing-change.result.0 s.few_ends c.with_one-ending.ensures;
      few_starts = few_more k c.loop-corner.starting c.with_one-starting.result c.is_changing-change.result.1 s.few_starts c.with_one-starting.ensures;
    }

pub returns-clause-ending : goal.returns-clause-ending
returns-clause-ending c =
    let u : ℕ = c.args.member.unit in
    counted_all (is_ending (is_before c.args.member.plan.now c.args.end c.args.district) u) (units_of (slice_index_or c.args.member.graph.now.neighbours u [])) c.spares_at-corner-items.result.now
    c.loop-corner.corner-index c.loop-corner.ending (spares_at u c.args.table.now.faces) (omega (arith, c.loop-corner-test.false))
    (subst (λ (t : Graph). map (units_of (slice_index_or t.neighbours u [])) c.spares_at-corner-items.result.now ≡ spares_at u c.args.table.now.faces) c.requires c.spares_at-corner-items.ensures.seen)
    c.loop-corner.invariant.ends

pub returns-clause-starting : goal.returns-clause-starting
returns-clause-starting c =
    let u : ℕ = c.args.member.unit in
    counted_all (is_starting (is_before c.args.member.plan.now c.args.end c.args.district) u) (units_of (slice_index_or c.args.member.graph.now.neighbours u [])) c.spares_at-corner-items.result.now
    c.loop-corner.corner-index c.loop-corner.starting (spares_at u c.args.table.now.faces) (omega (arith, c.loop-corner-test.false))
    (subst (λ (t : Graph). map (units_of (slice_index_or t.neighbours u [])) c.spares_at-corner-items.result.now ≡ spares_at u c.args.table.now.faces) c.requires c.spares_at-corner-items.ensures.seen)
    c.loop-corner.invariant.starts
