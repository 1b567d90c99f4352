use Rattle.std.proofs.Common.{◌∙◌, ℕ, ap, arith, length, subst, vec_len}
use Rattle.std.proofs.lemmas.List.{length-replicate}
use Rattle.audit_model.specs.declared.setting.Setting.{Setting}
use Rattle.tally_desk.specs.Unposted.{AreRooms}
use Rattle.tally_desk.proofs.Unposted.{few_are_buffered}
use Rattle.tally_desk.proofs.pool.make_pool.Goals as goal

pub returns : goal.returns
returns g c = record {
  walkers_are = c.in_ok-walkers.ensures.walkers;
  count_is = c.in_ok-walkers.ensures.count;
  blank = c.in_ok-room.ensures.items;
  room = omega (arith, c.in_ok-room.ensures.capacity, c.len.ensures);
  buffer_count = c.in_ok-buffered.ensures.count ∙ c.len-2.ensures;
  buffer_rooms = subst (λ (n : ℕ). AreRooms c.args.job.now.setting n c.in_ok-buffered.buffered.items) c.len-2.ensures
      (subst (λ (s : Setting). AreRooms s c.len-2.result c.in_ok-buffered.buffered.items) c.setting-setting.ensures.value c.in_ok-buffered.ensures.rooms);
  few_buffered = few_are_buffered c.args.job.now.setting (vec_len c.args.judges);
  hub_units = ap length c.in_ok-hub.ensures ∙ length-replicate c.units.result 0 ∙ c.units.ensures.units;
}
