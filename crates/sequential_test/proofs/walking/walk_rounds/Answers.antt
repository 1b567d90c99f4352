use Rattle.std.proofs.Common.{◌∙◌, ℕ, ◌+◌, ◌≤◌, ap, arith, length, min, ◌*◌, refl, subst, sym, vec_len}
use Rattle.audit_model.specs.Run.{total}
use Rattle.audit_model.proofs.Below.{length-map_below}
use Rattle.audit_model.specs.declared.setting.Setting.{Setting}
use Rattle.sequential_test.specs.Rounds.{found_below, AreDecided}
use Rattle.sequential_test.proofs.Rounding.{few_after, never_out, batch_is, round_done, stops_in_time}
use Rattle.sequential_test.proofs.Reaching.{same_batch, same_walked}
use Rattle.sequential_test.proofs.Slicing.{all_decided, whole_ids}
use Rattle.sequential_test.proofs.Finals.{all_are_decided}
use Rattle.sequential_test.proofs.walking.walk_rounds.Goals as goal

pub loop-batch-init : goal.loop-batch-init
loop-batch-init g c = record {
  round = record {
    done = 0;
    counted = omega (arith, c.args.rounds.batches.ok.0);
    rounds_are = c.requires.rounds;
    walked_is = omega arith;
    before = λ k some few decided. absurd (omega (arith, some, few));
  };
  walked_is = same_walked c.args.job.now (vec_len c.args.batch_workers.now.idle_workers) c.args.job.now.setting.walks _ _ _ c.requires.walked _ _ refl (omega arith);
}

pub ids_from-ids-requires : goal.ids_from-ids-requires
ids_from-ids-requires g c =
    let job = c.args.job.now in
    let at = c.loop-batch.invariant.round in
    let few : c.loop-batch.walked ≤ job.setting.ends = subst (λ (n : ℕ). n ≤ job.setting.ends) (sym at.walked_is) (few_after job.setting.ends at.done) in
    let next = c.after_round-next.ensures ∙ ap (λ (s : Setting). min s.ends (2 * c.loop-batch.walked + 64)) c.setting-2.ensures.value in
    let walks = ap (λ (s : Setting). s.walks) c.setting.ensures.value in
    record {
      order = (
        omega (arith, few, next),
        omega (arith, next, walks, ap length c.requires.ids, length-map_below (total job) (λ id. id)),
      );
    }

pub walk_to-requires-clause-ids : goal.walk_to-requires-clause-ids
walk_to-requires-clause-ids g c κs within = c.ids_from-ids.ensures (whole_ids (total c.args.job.now) c.args.rounds.todo.now c.requires.ids)

pub walk_to-requires-clause-walked : goal.walk_to-requires-clause-walked
walk_to-requires-clause-walked g c κs within =
    same_walked c.args.job.now _ _ _ _ _ c.loop-batch.invariant.walked_is _ _ c.loop-batch.invariant.walked_is.batch_workers.count
    (ap (λ (s : Setting). s.walks + c.loop-batch.walked) c.setting.ensures.value)

pub walk_to-requires-clause-batch : goal.walk_to-requires-clause-batch
walk_to-requires-clause-batch g c κs within =
    same_batch _ _ _ _
    (batch_is _ _ _ _ _ c.loop-batch.invariant.round c.pop.new.self.items c.in-Some.batch c.after_round-next.result _ _ c.in-Some.ensures.items (c.after_round-next.ensures ∙ ap (λ (s : Setting). min s.ends (2 * c.loop-batch.walked + 64)) c.setting-2.ensures.value)
    (ap (λ (s : Setting). s.walks + c.loop-batch.walked) c.setting.ensures.value) (ap (λ (s : Setting). s.walks + c.after_round-next.result) c.setting.ensures.value))
    c.loop-batch.invariant.walked_is.batch_workers.count

pub loop-batch-preserved : goal.loop-batch-preserved
loop-batch-preserved g c =
    let was = c.loop-batch.invariant in
    let done = c.walk_to.ensures in
    record {
      round = round_done _ _ _ _ _ was.round c.pop.new.self.items c.in-Some.batch c.after_round-next.result c.in-Some.ensures.items
          (c.after_round-next.ensures ∙ ap (λ (s : Setting). min s.ends (2 * c.loop-batch.walked + 64)) c.setting-2.ensures.value)
          (λ decided. c.in-None.ensures.none (subst (AreDecided c.args.job.now) (sym (c.as_slice.ensures ∙ done.sorted ∙ ap (λ (s : Setting). found_below c.args.job.now (s.walks + c.after_round-next.result)) c.setting.ensures.value)) decided));
      walked_is = same_walked c.args.job.now _ _ _ _ _ done.walked _ _ (sym was.walked_is.batch_workers.count)
          (sym (ap (λ (s : Setting). s.walks + c.after_round-next.result) c.setting.ensures.value));
    }

pub returns-in-Some-find_stops-clause-in_time : goal.returns-in-Some-find_stops-clause-in_time
returns-in-Some-find_stops-clause-in_time g c =
    stops_in_time _ _ _ _ _ c.loop-batch.invariant.round c.after_round-next.result _ (c.after_round-next.ensures ∙ ap (λ (s : Setting). min s.ends (2 * c.loop-batch.walked + 64)) c.setting-2.ensures.value)
    (c.walk_to.ensures.sorted ∙ ap (λ (s : Setting). found_below c.args.job.now (s.walks + c.after_round-next.result)) c.setting.ensures.value)

pub unreachable-requires : goal.unreachable-requires
unreachable-requires g c =
    never_out _ _ _ _ _ c.loop-batch.invariant.round (omega (arith, c.loop-batch.batches.ok.0, c.in_default.ensures.cases.0)) c.requires.some_ends c.requires.all
    (all_decided (λ job place ask enough outcomes there. all_are_decided job place ask enough outcomes there) c.args.job.now)
