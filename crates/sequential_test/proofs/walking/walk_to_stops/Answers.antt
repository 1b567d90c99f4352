use Rattle.std.proofs.Common.{◌∙◌, ℕ, ◌+◌, List, ap, arith, length, subst, sym}
use Rattle.audit_model.specs.declared.outcome.Outcome.{Outcome}
use Rattle.audit_model.specs.declared.setting.Setting.{Setting}
use Rattle.audit_model.specs.Run.{IsRight, total}
use Rattle.audit_model.proofs.Below.{length-map_below}
use Rattle.sequential_test.specs.Pools.{AreRounds}
use Rattle.audit_statement.specs.Draw.{draw}
use Rattle.sequential_test.specs.Rounds.{ends_after}
use Rattle.sequential_test.proofs.Rounding.{few_after, few_job}
use Rattle.sequential_test.proofs.Reaching.{own_seats, same_walked}
use Rattle.sequential_test.proofs.Slicing.{final_stops, found_right, none_walked, whole_ids}
use Rattle.sequential_test.proofs.Finals.{decided_is_final}
use Rattle.sequential_test.proofs.walking.walk_to_stops.Goals as goal

pub ids_from-requires : goal.ids_from-requires
ids_from-requires g c =
    let walks = ap (λ (s : Setting). s.walks) c.setting.ensures.value in
    record { order = (omega arith, omega (arith, walks, ap length c.requires.ids, length-map_below (total c.args.job.now) (λ id. id))) }

pub walk_to-requires-clause-ids : goal.walk_to-requires-clause-ids
walk_to-requires-clause-ids g c κs within = c.ids_from.ensures (whole_ids (total c.args.job.now) c.args.todo.now c.requires.ids)

pub walk_to-requires-clause-walked : goal.walk_to-requires-clause-walked
walk_to-requires-clause-walked g c κs within = record {
  batch_workers = own_seats c.args.job.now _ _ c.find_hub.ensures.batch_workers;
  hub_is = c.find_hub.ensures.hub;
  whole = c.requires.total;
  walked = none_walked c.args.job.now c.args.book.now.outcomes c.requires.empty;
  room = c.requires.room;
}

pub walk_rounds-requires-clause-rounds : goal.walk_rounds-requires-clause-rounds
walk_rounds-requires-clause-rounds g c κs within =
    subst (λ (n : ℕ). AreRounds c.args.job.now.setting.ends n 0 c.args.pool.rounds.items)
    (sym (c.walk_to.ensures.walked.batch_workers.count ∙ c.find_hub.ensures.batch_workers.count ∙ c.requires.pool.batch_workers.count)) c.requires.pool.rounds

pub walk_rounds-requires-clause-walked : goal.walk_rounds-requires-clause-walked
walk_rounds-requires-clause-walked g c κs within =
    same_walked c.args.job.now _ _ _ _ _ c.walk_to.ensures.walked _ _ c.walk_to.ensures.walked.batch_workers.count
    (sym (ap (λ (s : Setting). s.walks) c.setting.ensures.value))

pub returns-clause-stops : goal.returns-clause-stops
returns-clause-stops g c =
    let job = c.args.job.now in
    let time = c.walk_rounds.ensures.in_time in
    let right = subst (λ (os : List Outcome). IsRight job (draw job.setting.key) os) (sym time.found_are)
    (found_right job (job.setting.walks + ends_after job.setting.ends time.rounds) (omega (arith, few_after job.setting.ends time.rounds))) in
    final_stops (λ job draws place ask enough outcomes s right h. decided_is_final job draws place outcomes right ask enough s h) job (draw job.setting.key) c.walk_rounds.new.sorted.items c.walk_rounds.result right c.requires.some
    (omega (arith, (few_job job c.setting.ensures.sound).1, c.walk_rounds.ensures.four)) c.walk_rounds.ensures.stops
