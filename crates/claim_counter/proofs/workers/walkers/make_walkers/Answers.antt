use Rattle.std.proofs.Common.{All, sym, subst, arith}
use Rattle.std.proofs.lemmas.List.Elements.{All-push}
use Rattle.claim_counter.specs.Walkers.{IsWalker}
use Rattle.flip_kernel.specs.Judged.{IsJudgeFor}
use Rattle.claim_counter.proofs.workers.walkers.make_walkers.Goals as goal
use Rattle.audit_model.proofs.ListFacts.{popped_last, popped_rest}

pub new-requires : goal.new-requires
new-requires g c = record {
  judge = popped_last (λ judge. IsJudgeFor c.args.job.now (g.J.Judge.judging judge)) _ _ c.in-Some.judge c.loop-judge.invariant.judges c.in-Some.ensures.items;
}

pub loop-judge-preserved : goal.loop-judge-preserved
loop-judge-preserved g c =
    let was = c.loop-judge.invariant in
    let job = c.args.job.now in
    record {
      judges = popped_rest (λ judge. IsJudgeFor job (g.J.Judge.judging judge)) _ _ c.in-Some.judge was.judges c.in-Some.ensures.items;
      made = subst (All (IsWalker job)) (sym c.push_reserved.ensures.items)
          (All-push (IsWalker job) c.loop-judge.walkers.items c.in_ok-new.field-0 was.made
          c.in_ok-new.ensures.job);
      count = omega (arith, was.count, c.in-Some.ensures.len, c.push_reserved.ensures.len);
      room = omega (arith, was.room, c.push_reserved.ensures.capacity);
    }
