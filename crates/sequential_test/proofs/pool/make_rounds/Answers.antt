use Rattle.std.proofs.Common.{◌≡◌, ◌∙◌, ap, arith, length, min, ◌+◌, ◌*◌, suc, subst, sym, vec_len}
use Rattle.claim_counter.specs.Batches.{IsFreshBatch}
use Rattle.sequential_test.specs.Pools.{AreRounds}
use Rattle.sequential_test.specs.Rounds.{ends_after}
use Rattle.sequential_test.proofs.Rounding.{next_after, none_after, rounds_more, no_rounds}
use Rattle.sequential_test.proofs.pool.make_rounds.Goals as goal

pub loop-walked-init : goal.loop-walked-init
loop-walked-init c = record {
  rounds = no_rounds c.args.ends c.args.seats _ (ap length c.new-rounds.ensures.items);
  walked = sym (ap (ends_after c.args.ends) c.new-rounds.ensures.len ∙ none_after c.args.ends);
}

pub loop-walked-preserved : goal.loop-walked-preserved
loop-walked-preserved c =
    let was = c.loop-walked.invariant in
    let old = c.loop-walked.rounds in
    let next : c.after_round-next.result ≡ ends_after c.args.ends (suc (vec_len old)) =
    c.after_round-next.ensures ∙ ap (λ w. min c.args.ends (2 * w + 64)) was.walked ∙ next_after c.args.ends (vec_len old) in
    let long : length old.items ≡ vec_len old = omega (arith, old.ok.0) in
    let batch = subst (λ n. IsFreshBatch n c.args.seats c.in_ok-batch.batch)
    (omega (arith, next, was.walked, ap (ends_after c.args.ends) long, ap (λ n. ends_after c.args.ends (suc n)) long)) c.in_ok-batch.ensures in
    record {
      rounds = subst (AreRounds c.args.ends c.args.seats 0) (sym c.in_ok-insert.ensures.items) (rounds_more c.args.ends c.args.seats old.items c.in_ok-batch.batch was.rounds batch);
      walked = next ∙ ap (ends_after c.args.ends) (let more = c.in_ok-insert.ensures.len in omega (arith, more));
    }
