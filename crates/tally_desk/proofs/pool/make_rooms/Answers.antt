use Rattle.std.proofs.Common.{◌≡◌, ◌∙◌, ℕ, arith, length, subst, sym}
use Rattle.tally_desk.specs.Unposted.{AreRooms, IsRoomFor, room_at}
use Rattle.tally_desk.proofs.Unposted.{no_rooms, rooms_push}
use Rattle.tally_desk.proofs.pool.make_rooms.Goals as goal

pub loop-place-init : goal.loop-place-init
loop-place-init c = record {
  rooms = no_rooms c.args.setting.now c.args.workers c.in_ok-buffered.buffered.items c.in_ok-buffered.ensures.items;
  len = c.in_ok-buffered.ensures.len;
  capacity = c.in_ok-buffered.ensures.exact;
}

pub loop-place-preserved : goal.loop-place-preserved
loop-place-preserved c =
    let was = c.loop-place.invariant in
    let made = c.in_ok-with_capacity.field-0 in
    let at : c.loop-place.place ≡ length c.loop-place.buffered.items = omega (arith, was.len, c.loop-place.buffered.ok.0) in
    let room : IsRoomFor (room_at c.args.setting.now c.args.workers c.loop-place.place) made = record {
      blank = c.in_ok-with_capacity.ensures.items;
      room_is = c.in_ok-with_capacity.ensures.exact ∙ c.room_at-room.ensures;
    } in
    record {
      rooms = subst (AreRooms c.args.setting.now c.args.workers) (sym c.push_reserved.ensures.items)
          (rooms_push c.args.setting.now c.args.workers c.loop-place.buffered.items made was.rooms
          (subst (λ (k : ℕ). IsRoomFor (room_at c.args.setting.now c.args.workers k) made) at room));
      len = omega (arith, was.len, c.push_reserved.ensures.len);
      capacity = c.push_reserved.ensures.capacity ∙ was.capacity;
    }
