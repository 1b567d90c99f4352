use Rattle.std.proofs.Common.{◌∙◌, All, ap, arith, length, subst, sym}
use Rattle.std.proofs.lemmas.List.Elements.{All-nil, All-push}
use Rattle.tally_desk.specs.Passes.{HasPostedAll, view_of}
use Rattle.tally_desk.specs.Views.{PassView}
use Rattle.claim_counter.specs.Walkers.{IsWalker}
use Rattle.tally_desk.specs.Pools.{IsUnstartedAtDesk}
use Rattle.tally_desk.specs.Unposted.{IsRoomWithin, buffer_room}
use Rattle.tally_desk.proofs.Unposted.{nothing_buffered}
use Rattle.tally_desk.proofs.Wholes.{posts_stay_whole}
use Rattle.tally_desk.proofs.pool.seat.Goals as goal
use Rattle.audit_model.proofs.ListFacts.{popped_last, popped_rest}

pub loop-walker-init : goal.loop-walker-init
loop-walker-init g c =
    let parts = c.args.desk.now.parts in
    let first = c.requires.pass.first in
    let left = c.in-Some.ensures.len in
    record {
      walkers = popped_rest (IsWalker parts.job) _ _ c.in-Some.last c.requires.pool.walkers_are c.in-Some.ensures.items;
      unstarted = subst (All (IsUnstartedAtDesk c.args.desk.now)) (sym c.requires.pool.blank) (All-nil (IsUnstartedAtDesk c.args.desk.now));
      pass = c.requires.pass.belongs;
      none = ap (λ (v : PassView). v.own.claims) first;
      going = ap (λ (v : PassView). v.own.ended) first;
      weight = ap (λ (v : PassView). v.own.weight) first;
      spare = let all = ap (λ (v : PassView). v.own.spare) first in omega (arith, all, c.requires.pool.seats_are, left);
      whole = subst (HasPostedAll parts) (sym first) (posts_stay_whole.first parts);
      count = omega (arith, c.args.workers.ok.0, ap length c.requires.pool.blank, left);
      room = c.requires.pool.room;
      lists = omega (arith, c.requires.pool.buffer_count, left);
      rooms = c.requires.pool.buffer_rooms;
    }

pub loop-walker-preserved : goal.loop-walker-preserved
loop-walker-preserved g c =
    let parts = c.args.desk.now.parts in
    let was = c.loop-walker.invariant in
    let rest = c.split-part.ensures.rest in
    let new = c.split-part.ensures.new in
    let left = c.in-Some-pop.ensures.len in
    record {
      walkers = popped_rest (IsWalker parts.job) _ _ c.in-Some-pop.walker was.walkers c.in-Some-pop.ensures.items;
      unstarted = subst (All (IsUnstartedAtDesk c.args.desk.now)) (sym c.push_reserved.ensures.items)
          (All-push (IsUnstartedAtDesk c.args.desk.now) c.loop-walker.workers.items _ was.unstarted (record {
            at_desk = record {
              walks = c.new.ensures.job ∙ popped_last (IsWalker parts.job) _ _ c.in-Some-pop.walker was.walkers c.in-Some-pop.ensures.items;
              walked = λ few. c.new.ensures.none ∙ sym (ap (λ (v : PassView). length v.own.claims) new.1);
              holds = record {
                belongs = new.0;
                rest = nothing_buffered parts (view_of c.split-part.result)
                    (subst (HasPostedAll parts) (sym new.1) (posts_stay_whole.right parts (view_of c.loop-walker.pass)));
              };
              going = ap (λ (v : PassView). v.own.ended) new.1;
              weight = ap (λ (v : PassView). v.own.weight) new.1;
              spare = ap (λ (v : PassView). v.own.spare) new.1;
            };
            buffered = popped_last (IsRoomWithin (buffer_room parts.job.setting parts.seats)) _ _ c.take_last-buffered.result was.rooms c.take_last-buffered.ensures.items;
          }));
      pass = rest.0;
      none = ap (λ (v : PassView). v.own.claims) rest.1 ∙ was.none;
      going = ap (λ (v : PassView). v.own.ended) rest.1 ∙ was.going;
      weight = ap (λ (v : PassView). v.own.weight) rest.1 ∙ was.weight;
      spare = omega (arith, ap (λ (v : PassView). v.own.spare) rest.1, was.spare, left);
      whole = subst (HasPostedAll parts) (sym rest.1) (posts_stay_whole.left parts (view_of c.loop-walker.pass) was.whole);
      count = omega (arith, was.count, left, c.push_reserved.ensures.len);
      room = omega (arith, was.room, c.push_reserved.ensures.capacity);
      lists = omega (arith, was.lists, left, c.take_last-buffered.ensures.len);
      rooms = popped_rest (IsRoomWithin (buffer_room parts.job.setting parts.seats)) _ _ c.take_last-buffered.result was.rooms c.take_last-buffered.ensures.items;
    }

pub returns-clause-unstarted : goal.returns-clause-unstarted
returns-clause-unstarted g c =
    let parts = c.args.desk.now.parts in
    let was = c.loop-walker.invariant in
    subst (All (IsUnstartedAtDesk c.args.desk.now)) (sym c.push_reserved-2.ensures.items)
    (All-push (IsUnstartedAtDesk c.args.desk.now) c.loop-walker.workers.items _ was.unstarted (record {
      at_desk = record {
        walks = c.new-2.ensures.job ∙ popped_last (IsWalker parts.job) _ _ c.in-Some.last c.requires.pool.walkers_are c.in-Some.ensures.items;
        walked = λ few. c.new-2.ensures.none ∙ sym (ap length was.none);
        holds = record { belongs = was.pass; rest = nothing_buffered parts (view_of c.loop-walker.pass) was.whole };
        going = was.going;
        weight = was.weight;
        spare = omega (arith, was.spare, c.in_default-pop.ensures.cases.0);
      };
      buffered = popped_last (IsRoomWithin (buffer_room parts.job.setting parts.seats)) _ _ c.take_last-buffered-2.result was.rooms c.take_last-buffered-2.ensures.items;
    }))
