use Rattle.std.proofs.Common.{ℕ, ◌<◌, List, get_or, sym, ap, ◌∙◌, subst, arith}
use Rattle.std.specs.Prelude.{count_by}
use Rattle.std.proofs.lemmas.List.{take_all}
use Rattle.contig.specs.Counts.{is_before}
use Rattle.contig.proofs.Counting.{counted_more, few_more}
use Rattle.contig.proofs.counts.mates_in.Goals as goal
use Rattle.audit_model.proofs.Rows.{row_counted}

pub returns : goal.returns
returns c =
    c.loop-other.invariant.counted
    ∙ ap (count_by (is_before c.args.member.plan.now c.args.end c.args.district))
    (take_all c.loop-other.other-index c.neighbours-other-items.result.now (omega (arith, c.loop-other-test.false)) ∙ c.neighbours-other-items.ensures.list)
    ∙ row_counted c.args.member.graph.now c.args.member.unit (is_before c.args.member.plan.now c.args.end c.args.district) c.args.member.sound

pub is_before-requires : goal.is_before-requires
is_before-requires c =
    let row : List ℕ = c.neighbours-other-items.result.now in
    let i : ℕ = c.loop-other.other-index in
    subst (λ t. get_or row i 0 < t) (sym c.args.member.complete) (c.neighbours-other-items.ensures.below i 0 c.loop-other-test.true)

pub loop-other-preserved : goal.loop-other-preserved
loop-other-preserved c =
    let k : ℕ = c.loop-other.other-index in
    let s = c.loop-other.invariant in
    record {
      counted = counted_more (is_before c.args.member.plan.now c.args.end c.args.district) c.neighbours-other-items.result.now k 0 c.loop-other.count c.with_one-count.result c.is_before.result
          c.loop-other-test.true c.is_before.ensures s.counted c.with_one-count.ensures;
      few = few_more k c.loop-other.count c.with_one-count.result c.is_before.result s.few c.with_one-count.ensures;
    }
